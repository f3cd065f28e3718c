-- A part that has been read, and the token that ends it.
use Rattle.std.specs.Prelude.{ℕ, List, Option, Some}
use Rattle.parse_meaning.specs.Terminals.{Lexeme}
use Rattle.parse_reading.specs.Reading.{Read, ◌>>=◌, found}

abbrev pub ended : {A : Type 0} → (List Lexeme → Option (List Lexeme)) → A → ℕ → List Lexeme → Option (Read A)
ended after tree height s = after s >>= λ u. Some (found tree height u)
