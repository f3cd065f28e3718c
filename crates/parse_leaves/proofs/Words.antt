-- The steps of the loops over the words of pointers and over string literals.
use Rattle.std.proofs.Common.{◌≡◌, List, [], ◌∷◌, sym, ap, append-nil}
use Rattle.parse_meaning.specs.Terminals.{Lexeme, at, text_of}
use Rattle.parse_meaning.specs.declared.terminals.Terminal.TheVariants as k
use Rattle.c_tokens.specs.declared.tokens.Token.{Token}
use Rattle.parse_reading.specs.Reading.{strings}
use Rattle.parse_leaves.specs.Runs.{joined, strings_behind}

pub joined_last : {A : Type 0} (xs : List A) (t : List Lexeme) → joined xs ([], t) ≡ (xs, t)
joined_last {A} xs t = let made : List A → List A × List Lexeme = λ zs. (zs, t) in ap made (append-nil xs)

-- the first literal, and those behind it
pub strings_first : (o : Token) (s : List Lexeme) → strings o s ≡ joined (text_of o) (strings_behind s)
unfolding strings
strings_first o [] = sym (joined_last (text_of o) [])
strings_first o (at k.Str q ∷ s) = ap (joined (text_of o)) (strings_first q s)
strings_first o _ = sym (joined_last (text_of o) _)
