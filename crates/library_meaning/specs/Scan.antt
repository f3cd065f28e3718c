-- Cells that are read one after the other, over bytes and over objects alike. This project's own.
use Rattle.std.specs.Prelude.{ℕ, ◌+◌, ◌-◌, length, Bool, List, [], ◌∷◌, Option, None, Some, Result, Ok, Err, eqb, if◌then◌else◌}

abbrev pub and_then : {X Y E : Type 0} → Result X E → (X → Result Y E) → Result Y E
and_then (Ok x) f = f x
and_then (Err e) f = Err e

-- what a scan has found: the bytes before the one that stops it, and that byte, or none where it stopped at its limit
pub record Found : Type 0 where
  pub before : List ℕ
  pub stop : Option ℕ

abbrev pub at_limit : Found
at_limit = record { before = []; stop = None }

abbrev pub stopped_by : ℕ → Found
stopped_by b = record { before = []; stop = Some b }

abbrev pub after_byte : ℕ → Found → Found
after_byte b f = record { before = b ∷ f.before; stop = f.stop }

-- cell by cell, up to a byte that stops it, at most `limit` cells: `look` reads a cell, and `outside` is what comes past
-- the last one
abbrev pub scan : {X E : Type 0} → (X → Result ℕ E) → E → (ℕ → Bool) → ℕ → List X → Result Found E
scan look outside stops limit [] = if eqb limit 0 then Ok at_limit else Err outside
scan look outside stops limit (x ∷ xs) =
    if eqb limit 0 then Ok at_limit
    else and_then (look x) (λ b. if stops b then Ok (stopped_by b) else and_then (scan look outside stops (limit - 1) xs) (λ f. Ok (after_byte b f)))

-- the two last bytes that a comparison reads, up to the first that differ or a NUL
pub record Pair : Type 0 where
  pub left : ℕ
  pub right : ℕ

abbrev pub scan_both : {X E : Type 0} → (X → Result ℕ E) → E → List X → List X → Result Pair E
scan_both look outside [] ys = Err outside
scan_both look outside (x ∷ xs) [] = and_then (look x) (λ a. Err outside)
scan_both look outside (x ∷ xs) (y ∷ ys) =
    and_then (look x) (λ a. and_then (look y) (λ b. if eqb a b then (if eqb a 0 then Ok (record { left = a; right = b }) else scan_both look outside xs ys) else Ok (record { left = a; right = b })))
