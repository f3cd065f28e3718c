-- The numbers of objects with an initialiser, and the set of them.
use Rattle.std.specs.Prelude.{◌≡◌, ◌==◌, ℕ, List}
use Rattle.std.specs.List.{list_any}

-- the same numbers are in the list and in the set
abbrev pub AreAmong : List ℕ → List ℕ → Type 0
AreAmong numbers keys = (number : ℕ) → list_any (λ key. number == key) keys ≡ list_any (λ other. other == number) numbers
