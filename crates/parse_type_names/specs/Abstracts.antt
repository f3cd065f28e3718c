-- Abstract declarators, in the parts in which they are read.
use Rattle.std.specs.Prelude.{ℕ, suc, max, List, [], ◌∷◌, Option, Some, None}
use Rattle.fc_base.specs.declared.refusals.Place.{Place}
use Rattle.c_tree.specs.declared.nodes.Expr.{Expr}
use Rattle.c_tree.specs.declared.nodes.PointerWord.{PointerWord}
use Rattle.c_tree.specs.declared.nodes.Declarator.{Declarator}
use Rattle.c_tree.specs.declared.nodes.Declarator.TheVariants as d
use Rattle.parse_meaning.specs.Terminals.{Lexeme, place_of}
use Rattle.parse_reading.specs.Reading.{◌>>=◌, Read, found, after_right_paren, after_left_bracket, bound, bounded, abstract_direct, pointer_words, stars}

module _ (sub : ℕ → List Lexeme → Option (Read Expr)) where
  -- a declarator of a height with the bound behind a bracket, no higher than the limit
  abbrev pub with_bound : ℕ → Place → Declarator → ℕ → List Lexeme → Option (Read Declarator)
  with_bound limit start x h s = bound sub s >>= λ y. bounded limit (found (d.Array x y.tree start) (suc (max h y.height)) y.rest)

  -- the bound behind the parenthesis that closes a group
  abbrev pub group_bound : List Lexeme → Option (Read (Option Expr))
  group_bound s = after_right_paren s >>= λ t. after_left_bracket t >>= λ u. bound sub u

  abbrev pub group_with : Place → Place → Place → List PointerWord → List Lexeme → Option (Read Declarator)
  group_with place start star [] s = None
  group_with place start star (w ∷ ws) s = group_bound s >>= λ y. Some (found (d.Array (d.Pointer (w ∷ ws) (d.Omitted place) star) y.tree start) (suc (max 2 y.height)) y.rest)

  -- behind the parenthesis at a place
  abbrev pub group_at : Place → Place → List Lexeme → Option (Read Declarator)
  group_at place start s = group_with place start (place_of s) (stars s).0 (stars s).1

  -- with its first star
  abbrev pub pointer_at : ℕ → Place → List Lexeme → Option (Read Declarator)
  pointer_at limit place s = abstract_direct sub limit place (pointer_words s).1 >>= λ x. Some (found (d.Pointer (pointer_words s).0 x.tree (place_of s)) (suc x.height) x.rest)
