-- A character that is looked for in a text.
use Rattle.std.proofs.Common.{◌≡◌, ℕ, ◌+◌, ◌-◌, ◌%◌, ◌<◌, ◌≤◌, ◌≢◌, true, min, List, [], ◌∷◌, length, drop, get_or, None, Some, Result, Ok, Err, refl, ap, ◌∙◌, arith}
use Rattle.std.specs.Prelude.{slice_range}
use Rattle.std.proofs.Math.Nat.{add-zero}
use Rattle.std.proofs.lemmas.Bool.{eq-eqb, ne_eqb}
use Rattle.std.proofs.lemmas.List.{get_or-drop, length-take, length-drop}
use Rattle.memchr.specs.Find.{IsFirstByte, is_byte2}
use Rattle.library_meaning.specs.Scan.{Found, and_then}
use Rattle.library_meaning.specs.Rows.{Answer, answer, Given, Forgot, Nowhere, run}
use Rattle.library_meaning.specs.Table.{strchr, place_of, no_limit}
use Rattle.library_meaning.specs.OnBytes.{on_bytes, number_of, quiet, Reads}
use Rattle.library_meaning.specs.Memory.{bytes_at, are_valid, memory_size}
use Rattle.library_meaning.specs.declared.stops.HostStop.{HostStop}
use Rattle.library_meaning.specs.declared.stops.HostStop.TheVariants as host
use Rattle.host_bytes.proofs.Endings.{does_giving}
use Rattle.host_bytes.proofs.Scans.{scanned, found_stops, found_leaves, valid_high}

-- a call that changes nothing, and gives this number
pub reads_well : (args m : List ℕ) (r : Result (Answer (List ℕ)) HostStop) (given : Given) (n : ℕ) → r ≡ Ok (answer m quiet given) → n ≡ number_of args given → Reads args r m (Ok n)
reads_well args m r given n e same = does_giving args m m m r given n e same refl

-- what a scan that stopped at this byte gives
pub place_there : (wanted : ℕ) (before : List ℕ) (byte : ℕ) → byte ≡ wanted → place_of wanted (record { before = before; stop = Some byte }) ≡ Forgot 0 (length before)
place_there wanted before byte e = rw (eq-eqb byte wanted e) refl

pub place_nowhere : (wanted : ℕ) (before : List ℕ) (byte : ℕ) → byte ≢ wanted → place_of wanted (record { before = before; stop = Some byte }) ≡ Nowhere
place_nowhere wanted before byte ne = rw (ne_eqb byte wanted ne) refl

module _ (m : List ℕ) (s c : ℕ) (size : length m ≡ memory_size) (valid : are_valid s 1 ≡ true) where
  room : s + (memory_size - s) ≡ memory_size
  room = let high : s + 1 ≤ memory_size = valid_high s valid in omega arith

  most_is : memory_size - s ≡ min no_limit (memory_size - s)
  most_is = omega arith

  row_is : (r : Result Found HostStop)
      → scanned (is_byte2 0 (c % 256)) m s no_limit (memory_size - s) size valid (λ z. absurd (omega arith)) most_is ≡ r
      → run (on_bytes (s ∷ c ∷ [])) strchr m quiet ≡ and_then r (λ f. Ok (answer m quiet (place_of (c % 256) f)))
  row_is r h = rw (add-zero s, h) refl

  pub finds : (k : ℕ) → IsFirstByte (is_byte2 0 (c % 256)) (slice_range m s memory_size) (Some k)
      → (run (on_bytes (s ∷ c ∷ [])) strchr m quiet ≡ Ok (answer m quiet (place_of (c % 256) (record { before = bytes_at m s k; stop = Some (get_or m (s + k) 0) }))))
      × (length (bytes_at m s k) ≡ k)
  finds k first =
      let at : IsFirstByte (is_byte2 0 (c % 256)) (slice_range m s (s + (memory_size - s))) (Some k) = rw room first in
      let found = found_stops (is_byte2 0 (c % 256)) m s no_limit (memory_size - s) size valid (λ z. absurd (omega arith)) most_is k at in (
        row_is _ found.0 ∙ ap (λ b. Ok (answer m quiet (place_of (c % 256) (record { before = bytes_at m s k; stop = Some b })))) (get_or-drop s m k 0),
        length-front k found.2,
      )
    where
      length-front : (k : ℕ) → k < memory_size - s → length (bytes_at m s k) ≡ k
      length-front k l = omega (arith, length-take k (drop s m), length-drop s m)

  pub leaves : IsFirstByte (is_byte2 0 (c % 256)) (slice_range m s memory_size) None → run (on_bytes (s ∷ c ∷ [])) strchr m quiet ≡ Err host.BadAddress
  leaves first =
      let at : IsFirstByte (is_byte2 0 (c % 256)) (slice_range m s (s + (memory_size - s))) None = rw room first in
      row_is _ (found_leaves (is_byte2 0 (c % 256)) m s no_limit (memory_size - s) size valid (λ z. absurd (omega arith)) most_is at (λ e. absurd (omega arith)))
