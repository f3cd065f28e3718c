-- The steps of the loop over attribute lists.
use Rattle.std.proofs.Common.{◌≡◌, ℕ, zero, suc, List, [], ◌∷◌, ◌++◌, Option, Some, None, Bool, true, false, refl}
use Rattle.c_tree.specs.declared.nodes.Attribute.{Attribute}
use Rattle.parse_meaning.specs.declared.terminals.Keyword.TheVariants as w
use Rattle.parse_meaning.specs.declared.terminals.Terminal.TheVariants as k
use Rattle.parse_meaning.specs.Terminals.{Lexeme, at}
use Rattle.parse_reading.specs.Reading.{◌>>=◌, attribute_list}
use Rattle.parse_reading.specs.ReadingStatements.{attribute_lists, lists_by}
use Rattle.parse_leaves.proofs.AttributeSteps.{before, before_before, before_end}
use Rattle.parse_initialisers.specs.Readers.{attribute_at}

abbrev pub Lists : Type 0
Lists = Option (List (List Attribute) × List Lexeme)

by_word : (List Lexeme → Lists) → Bool × List Lexeme → Lists
by_word later (true, t) = attribute_list t >>= λ x. later x.1 >>= λ xs. Some (x.0 ∷ xs.0, xs.1)
by_word later (false, s) = Some ([], s)

lists_at : (later : List Lexeme → Lists) (s : List Lexeme) → lists_by later s ≡ by_word later (attribute_at s)
unfolding by_word
lists_at later [] = refl
lists_at later (at (k.Word w.Attribute) o ∷ t) = refl
lists_at later (o ∷ t) = refl

module _ (xs : List (List Attribute)) (n : ℕ) (s t : List Lexeme) where
  pub lists_end : attribute_at s ≡ (false, t) → before xs (attribute_lists n s) ≡ Some (xs, t)
  unfolding attribute_lists by_word
  lists_end e = go n
    where
      go : (n : ℕ) → before xs (attribute_lists n s) ≡ Some (xs, t)
      go zero = rw (lists_at (λ u. None) s, e) (before_end xs t)
      go (suc m) = rw (lists_at (attribute_lists m) s, e) (before_end xs t)

  pub lists_fail : attribute_at s ≡ (true, t) → attribute_list t ≡ None → before xs (attribute_lists (suc n) s) ≡ None
  unfolding attribute_lists by_word
  lists_fail e none = rw (lists_at (attribute_lists n) s, e, none) refl

  pub lists_go : (x : List Attribute) (u : List Lexeme) → attribute_at s ≡ (true, t) → attribute_list t ≡ Some (x, u) →
      before xs (attribute_lists (suc n) s) ≡ before (xs ++ x ∷ []) (attribute_lists n u)
  unfolding attribute_lists by_word
  lists_go x u e some = rw (lists_at (attribute_lists n) s, e, some) (before_before xs (x ∷ []) (attribute_lists n u))

pub lists_none : (xs : List (List Attribute)) (s t : List Lexeme) → attribute_at s ≡ (true, t) → before xs (attribute_lists 0 s) ≡ None
unfolding attribute_lists by_word
lists_none xs s t e = rw (lists_at (λ u. None) s, e) (go (attribute_list t))
  where
    go : (r : Option (List Attribute × List Lexeme)) → before xs (r >>= λ x. None) ≡ None
    go None = refl
    go (Some x) = refl
