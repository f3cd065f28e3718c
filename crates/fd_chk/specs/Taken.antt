-- What is taken to an address of memory, as the code hands it on.
use Rattle.std.specs.Prelude.{◌≡◌, ℕ, ◌<◌, List, length}
use Rattle.fc_base.specs.Outside.{Rose}
use Rattle.run_meaning.specs.Objects.{StreamState}
use Rattle.library_meaning.specs.Memory.{put}
use Rattle.library_meaning.specs.OnStreams.{HasTaken}

-- n bytes were taken, and stored from an address on
pub record TookTo (at n : ℕ) (before after : List ℕ) (old new : StreamState) : Type 0 where
  pub bytes : List ℕ
  pub long : length bytes ≡ n
  pub has : HasTaken bytes old new
  pub stored : after ≡ put at bytes before

-- the source failed once fewer than `most` bytes were taken
pub record FailedBefore (most : ℕ) (old new : StreamState) : Type 0 where
  pub bytes : List ℕ
  pub short : length bytes < most
  pub has : HasTaken bytes old new
  pub rose : Rose old.faults new.faults
