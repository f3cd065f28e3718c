-- What a scan for a byte has found, as the code hands it on.
use Rattle.std.specs.Prelude.{◌≡◌, ℕ, ◌+◌, ◌≤◌, true, List, [], ◌∷◌, ◌++◌, length, None, Some, Result, Ok, Err, eqb, if◌then◌else◌}
use Rattle.library_meaning.specs.Scan.{Found, scan}
use Rattle.library_meaning.specs.OnBytes.{bytes_from, byte_look}
use Rattle.library_meaning.specs.Memory.{bytes_at, are_valid, memory_size}
use Rattle.library_meaning.specs.declared.stops.HostStop.{HostStop}
use Rattle.library_meaning.specs.declared.stops.HostStop.TheVariants as host
use Rattle.host_bytes.specs.declared.finding.Text.{Text}

-- the scan of the row, for one byte
abbrev pub byte_scan : ℕ → List ℕ → ℕ → ℕ → Result Found HostStop
byte_scan byte m a limit = scan byte_look host.BadAddress (λ b. eqb b byte) limit (bytes_from m a)

abbrev pub found : ℕ → List ℕ → ℕ → Text → Found
found byte m a t = record { before = bytes_at m a t.len; stop = if t.ended then Some byte else None }

abbrev pub found_of : ℕ → List ℕ → ℕ → Result Text HostStop → Result Found HostStop
found_of byte m a (Ok t) = Ok (found byte m a t)
found_of byte m a (Err e) = Err e

-- the text lies in memory, with that byte where it has one
pub record LiesIn (byte : ℕ) (m : List ℕ) (a limit : ℕ) (t : Text) : Type 0 where
  pub short : t.len ≤ limit
  pub small : t.len ≤ memory_size
  pub inside : are_valid a t.len ≡ true
  pub long : length (bytes_at m a t.len) ≡ t.len
  pub whole : t.ended ≡ true → (bytes_at m a (t.len + 1) ≡ bytes_at m a t.len ++ byte ∷ []) × (are_valid a (t.len + 1) ≡ true)
