-- Parentheses that stand directly in one another: what is read behind all of them, and their ends one by one.
use Rattle.std.proofs.Common.{◌≡◌, ℕ, List, [], ◌∷◌, ◌++◌, Option, Some, None, false, refl, ap}
use Rattle.fc_base.specs.declared.refusals.Place.{Place}
use Rattle.c_tokens.specs.declared.puncts.Punct.TheVariants as p
use Rattle.c_tokens.specs.declared.tokens.Token.{Token}
use Rattle.c_tree.specs.declared.nodes.Expr.{Expr}
use Rattle.parse_meaning.specs.declared.terminals.Terminal.TheVariants as k
use Rattle.parse_meaning.specs.Terminals.{Lexeme, at, place_of}
use Rattle.parse_reading.specs.Reading.{Read, LeftOperand, begins_spec, begun, parenthesised, prefix}

module _ (n : ℕ) (sub : ℕ → List Lexeme → Option (Read Expr)) where
  -- in parentheses that begin at these places, the outermost first
  abbrev pub within_groups : List Place → Option LeftOperand → Option LeftOperand
  within_groups [] first = first
  within_groups (start ∷ starts) first = parenthesised n sub (within_groups starts first) start

  pub groups_append : (starts : List Place) (start : Place) (first : Option LeftOperand) →
      within_groups (starts ++ start ∷ []) first ≡ within_groups starts (parenthesised n sub first start)
  groups_append [] start first = refl
  groups_append (other ∷ starts) start first = ap (λ l. parenthesised n sub l other) (groups_append starts start first)

  pub groups_fail : (starts : List Place) → within_groups starts None ≡ None
  unfolding parenthesised begun
  groups_fail [] = refl
  groups_fail (start ∷ starts) = rw (groups_fail starts) refl

  -- behind one more of them
  pub group_opens : (starts : List Place) (o : Token) (s t : List Lexeme) → s ≡ at (k.Punct p.LeftParen) o ∷ t → begins_spec t ≡ false →
      within_groups starts (prefix n sub s) ≡ within_groups (starts ++ place_of t ∷ []) (prefix n sub t)
  unfolding prefix
  group_opens starts o s t e plain = rw (e, plain, groups_append starts (place_of t) (prefix n sub t)) refl

  -- one of them closes
  pub group_closes : (starts others : List Place) (start : Place) (first : LeftOperand) → starts ≡ others ++ start ∷ [] →
      within_groups starts (Some first) ≡ within_groups others (parenthesised n sub (Some first) start)
  group_closes starts others start first e = rw e (groups_append others start (Some first))
