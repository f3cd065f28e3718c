-- The names of types, each once.
use Rattle.std.specs.Prelude.{ℕ, List, [], ◌∷◌, ◌++◌, if◌then◌else◌}
use Rattle.parse_meaning.specs.Terminals.{has}

abbrev pub with_name : List ℕ → List (List ℕ) → List (List ℕ)
with_name name names = if has names name then names else names ++ name ∷ []
