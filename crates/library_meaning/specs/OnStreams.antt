-- What a call on real streams does, by its row: what is taken and written, and what it leaves where a stream fails. This
-- project's own.
use Rattle.std.specs.Prelude.{◌≡◌, ◌≢◌, ℕ, List, [], ◌∷◌, ◌++◌, map, Option, None, Result, Ok, Err}
use Rattle.fc_base.specs.Outside.{IsAtEnd, Takes, Appends, AppendsFront, Rose}
use Rattle.run_meaning.specs.Runs.{Shown, on_descriptor}
use Rattle.run_meaning.specs.Worlds.{AreBytes, World}
use Rattle.run_meaning.specs.Objects.{StreamState, Tells}
use Rattle.library_meaning.specs.Rows.{Answer, Given, answer}
use Rattle.library_meaning.specs.OnBytes.{number_of}
use Rattle.library_meaning.specs.declared.stops.HostStop.{HostStop}
use Rattle.library_meaning.specs.declared.stops.HostStop.TheVariants as host

-- the bytes that a call moves on the one stream that it reaches, in their order
abbrev pub moved : Shown → List ℕ
moved shown = map (λ pair. pair.1) shown

-- a call that writes has written what its row shows and gives what its row gives; or the sink failed, which comes only where
-- the row shows a byte, and a front of that was written. Where its row stops it stops so, and the sink is as it was
abbrev pub Writes : List ℕ → Result (Answer (List ℕ)) HostStop → Result ℕ HostStop → StreamState → StreamState → Type 0
Writes args (Ok a) (Ok n) old new = (n ≡ number_of args a.given) × Appends (moved a.world.shown) old.told new.told
Writes args (Ok a) (Err host.SinkFault) old new =
    (moved a.world.shown ≢ []) × AppendsFront (moved a.world.shown) old.told new.told × Rose old.faults new.faults
Writes args (Ok a) (Err host.Overflow) old new = ⊥
Writes args (Ok a) (Err host.BadAddress) old new = ⊥
Writes args (Ok a) (Err host.BadFormat) old new = ⊥
Writes args (Ok a) (Err host.InputFault) old new = ⊥
Writes args (Err e) result old new = (result ≡ Err e) × (new ≡ old)

-- a world with these bytes before what it has to take, and one in which these bytes were taken
abbrev pub offering : List ℕ → World → World
offering bytes w = record w { input = record w.input { bytes = bytes ++ w.input.bytes } }

abbrev pub having_taken : List ℕ → World → World
having_taken bytes w = record w { shown = w.shown ++ on_descriptor 0 bytes }

-- bytes that were taken from a source: the first of those that it told were left. A source that told nothing tells at most that
-- it has ended
pub record HasTaken (bytes : List ℕ) (old new : StreamState) : Type 0 where
  pub are_bytes : AreBytes bytes
  pub taken : Takes bytes old.told new.told
  pub untold : old.told ≡ None → IsAtEnd new.told

-- a call that takes: with whatever is left behind the bytes that it took, its row takes just these, leaves this memory and gives
-- this number. So a row that takes fewer than it asks for met the end
pub record DidTake (args : List ℕ) (row : World → Result (Answer (List ℕ)) HostStop) (memory : List ℕ) (n : ℕ) (old new : StreamState) : Type 0 where
  pub bytes : List ℕ
  pub has : HasTaken bytes old new
  pub given : Given
  pub gives : n ≡ number_of args given
  pub did : (rest : World) → Tells new.told rest.input.bytes → row (offering bytes rest) ≡ Ok (answer memory (having_taken bytes rest) given)

-- what a row takes that takes these bytes and maybe more
pub record TakesFrom (bytes : List ℕ) (w : World) (ran : Result (Answer (List ℕ)) HostStop) : Type 0 where
  pub answer : Answer (List ℕ)
  pub is : ran ≡ Ok answer
  pub more : List ℕ
  pub shown : answer.world.shown ≡ w.shown ++ on_descriptor 0 (bytes ++ more)

-- the source failed, which comes only where the row takes a byte where one is left: a front of what the row takes was taken
pub record FailedToTake (row : World → Result (Answer (List ℕ)) HostStop) (old new : StreamState) : Type 0 where
  pub bytes : List ℕ
  pub has : HasTaken bytes old new
  pub rose : Rose old.faults new.faults
  pub did : (rest : World) → Tells new.told rest.input.bytes → TakesFrom bytes rest (row (offering bytes rest))
  pub asks : (byte : ℕ) (w : World) → TakesFrom (byte ∷ []) w (row (offering (byte ∷ []) w))

-- a call that takes bytes from a source into memory, which is this before and this after the call. Where its row stops it stops
-- so, whatever is left, and memory and the source are as they were
abbrev pub TakesAs : List ℕ → (List ℕ → World → Result (Answer (List ℕ)) HostStop) → List ℕ × List ℕ → Result ℕ HostStop → StreamState → StreamState → Type 0
TakesAs args row memory (Ok n) old new = DidTake args (row memory.0) memory.1 n old new
TakesAs args row memory (Err host.InputFault) old new = FailedToTake (row memory.0) old new
TakesAs args row memory (Err e) old new = ((w : World) → row memory.0 w ≡ Err e) × (memory.1 ≡ memory.0) × (new ≡ old)
