-- The steps of the loop over expressions with commas between them.
use Rattle.std.proofs.Common.{◌≡◌, ℕ, suc, max, List, [], ◌∷◌, ◌++◌, Option, Some, None, refl, ap}
use Rattle.c_tokens.specs.declared.puncts.Punct.TheVariants as p
use Rattle.c_tree.specs.declared.nodes.Expr.{Expr}
use Rattle.parse_meaning.specs.declared.terminals.Terminal.TheVariants as k
use Rattle.parse_meaning.specs.Terminals.{Lexeme, at}
use Rattle.parse_meaning.specs.Expressions.{assignment}
use Rattle.parse_reading.specs.Reading.{Read, found, prepended, after_comma, exprs_behind, exprs}
use Rattle.parse_tokens.proofs.Turns.{prepended-prepended}
use Rattle.parse_leaves.proofs.Misses.{nothing_found, found_nothing, some_same}

module _ (n : ℕ) (sub : ℕ → List Lexeme → Option (Read Expr)) where
  behind_goes : (later : List Lexeme → Option (Read (List Expr))) (x : Read Expr) (t u : List Lexeme) → after_comma t ≡ Some u →
      exprs_behind n sub later x t ≡ prepended (x.tree ∷ []) x.height (later u)
  behind_goes later x [] u e = absurd (nothing_found e)
  behind_goes later x (at (k.Punct p.Comma) o ∷ t) u e = ap (λ r. prepended (x.tree ∷ []) x.height (later r)) (some_same e)
  behind_goes later x _ u e = absurd (nothing_found e)

  behind_ends : (later : List Lexeme → Option (Read (List Expr))) (x : Read Expr) (t : List Lexeme) → after_comma t ≡ None →
      exprs_behind n sub later x t ≡ Some (found (x.tree ∷ []) x.height t)
  behind_ends later x [] e = refl
  behind_ends later x (at (k.Punct p.Comma) o ∷ t) e = absurd (found_nothing e)
  behind_ends later x _ e = refl

  module _ (xs : List Expr) (h m : ℕ) (s : List Lexeme) where
    pub exprs_fail : sub assignment s ≡ None → prepended xs h (exprs n sub (suc m) s) ≡ None
    unfolding exprs
    exprs_fail e = rw e refl

    pub exprs_end : (t : List Lexeme) (x : Expr) (j : ℕ) → sub assignment s ≡ Some (found x j t) → after_comma t ≡ None →
        prepended xs h (exprs n sub (suc m) s) ≡ Some (found (xs ++ x ∷ []) (max h j) t)
    unfolding exprs
    exprs_end t x j e c = rw (e, behind_ends (exprs n sub m) (found x j t) t c) refl

    pub exprs_go : (t u : List Lexeme) (x : Expr) (j : ℕ) → sub assignment s ≡ Some (found x j t) → after_comma t ≡ Some u →
        prepended xs h (exprs n sub (suc m) s) ≡ prepended (xs ++ x ∷ []) (max h j) (exprs n sub m u)
    unfolding exprs
    exprs_go t u x j e c = rw (e, behind_goes (exprs n sub m) (found x j t) t u c) (prepended-prepended xs (x ∷ []) h j (exprs n sub m u))

pub exprs_over : (n : ℕ) (sub : ℕ → List Lexeme → Option (Read Expr)) (xs : List Expr) (h : ℕ) (s : List Lexeme) →
    prepended xs h (exprs n sub 0 s) ≡ None
unfolding exprs
exprs_over n sub xs h s = refl
