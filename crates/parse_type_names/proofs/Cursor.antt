-- A token that was looked at and is then taken.
use Rattle.std.proofs.Common.{◌≡◌, List, [], ◌∷◌, Option, Some, None, Bor, sym, ◌∙◌}
use Rattle.std.specs.Prelude.{MatchOption}
use Rattle.c_tokens.specs.declared.tokens.Token.{Token}
use Rattle.parse_meaning.specs.declared.terminals.Terminal.{Terminal}
use Rattle.parse_meaning.specs.Terminals.{Lexeme, at}

same_rest : {c d : Terminal} {o q : Token} {t u : List Lexeme} → ◌≡◌ {A = List Lexeme} (at c o ∷ t) (at d q ∷ u) → t ≡ u
same_rest e = cc

pub rest_taken : (r : Option (Terminal × Bor Token)) (c : Terminal) (o : Token) (s t new : List Lexeme) → s ≡ at c o ∷ t →
    MatchOption r ((s ≡ []) × (new ≡ [])) (λ x. s ≡ at x.0 x.1.now ∷ new) → new ≡ t
rest_taken None c o s t new e h = let none : ◌≡◌ {A = List Lexeme} (at c o ∷ t) [] = sym e ∙ h.0 in cc
rest_taken (Some x) c o s t new e h = same_rest (sym h ∙ e)
