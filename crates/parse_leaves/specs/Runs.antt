-- Runs of tokens of one kind, behind those that have been read.
use Rattle.std.specs.Prelude.{ℕ, List, [], ◌∷◌, ◌++◌}
use Rattle.parse_meaning.specs.declared.terminals.Terminal.TheVariants as k
use Rattle.parse_meaning.specs.Terminals.{Lexeme, at, text_of}

-- the bytes of the string literals that come next, and the rest
abbrev pub strings_behind : List Lexeme → List ℕ × List Lexeme
strings_behind (at k.Str o ∷ s) = (text_of o ++ (strings_behind s).0, (strings_behind s).1)
strings_behind s = ([], s)

-- behind what was read before
abbrev pub joined : {A : Type 0} → List A → List A × List Lexeme → List A × List Lexeme
joined xs r = (xs ++ r.0, r.1)
