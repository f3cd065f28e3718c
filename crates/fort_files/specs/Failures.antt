-- The failed calls of a store. This project's own.
use Rattle.std.specs.Prelude.{ℕ, List, count_by}
use Rattle.std.specs.Str.{bytes_eq}

-- how often a name is in a list of names
abbrev pub times : List (List ℕ) → List ℕ → ℕ
times names name = count_by (λ other. bytes_eq other name) names
