-- A name is spelled by itself, a punctuator by its bytes.
use Rattle.std.proofs.Common.{◌≡◌, ℕ, true, false, List, [], ◌∷◌, Some, refl, arith}
use Rattle.std.specs.List.{list_all}
use Rattle.std.proofs.lemmas.Bool.{and_parts}
use Rattle.std.proofs.lemmas.Bool.Decides.{nat_tests}
use Rattle.c_tokens.specs.declared.puncts.Punct.{Punct}
use Rattle.c_tokens.specs.declared.puncts.Punct.TheVariants as p
use Rattle.c_tokens.specs.declared.tokens.TokenKind.TheVariants as k
use Rattle.c_tokens.specs.declared.pieces.Piece.TheVariants.{Token}
use Rattle.c_tokens.specs.Bytes.{is_space, is_newline, begins_name, goes_on}
use Rattle.c_tokens.specs.Puncts.{punct_spelling, puncts, punctuator}
use Rattle.c_tokens.specs.Pieces.{is_name, spelled}

pub spells_name : (text : List ℕ) → is_name text ≡ true → spelled false text ≡ Some (Token (k.Name text))
unfolding spelled
spells_name [] named = absurd cc
spells_name (b ∷ bs) named =
    let parts = and_parts (begins_name b) (list_all goes_on bs) named in
    let space : is_space b ≡ false = blank b parts.0 in
    let newline : is_newline b ≡ false = line b parts.0 in
    rw (space, newline, parts.0, parts.1) refl
  where
    blank : (b : ℕ) → begins_name b ≡ true → is_space b ≡ false
    blank b e = grind (arith, nat_tests)

    line : (b : ℕ) → begins_name b ≡ true → is_newline b ≡ false
    line b e = grind (arith, nat_tests)

pub spells_punct : (punct : Punct) → spelled false (punct_spelling punct) ≡ Some (Token (k.Punct punct))
unfolding spelled puncts punctuator
spells_punct p.LeftBracket = refl
spells_punct _ = refl
