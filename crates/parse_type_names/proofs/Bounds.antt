-- The steps of the loop over the bounds of an abstract declarator.
use Rattle.std.proofs.Common.{◌≡◌, ℕ, zero, suc, max, List, [], ◌∷◌, length, Option, Some, None, Bool, true, false, refl, sym, ap, ◌∙◌}
use Rattle.std.specs.Prelude.{if◌then◌else◌, nat_le}
use Rattle.fc_base.specs.declared.refusals.Place.{Place}
use Rattle.c_tokens.specs.declared.puncts.Punct.TheVariants as p
use Rattle.c_tree.specs.declared.nodes.Expr.{Expr}
use Rattle.c_tree.specs.declared.nodes.Declarator.{Declarator}
use Rattle.c_tree.specs.declared.nodes.Declarator.TheVariants as d
use Rattle.parse_meaning.specs.declared.terminals.Terminal.TheVariants as k
use Rattle.parse_meaning.specs.Terminals.{Lexeme, at}
use Rattle.parse_reading.specs.Reading.{◌>>=◌, Read, found, after_left_bracket, bound, arrays_behind, arrays}
use Rattle.parse_tokens.proofs.Binds.{bind_bind, bind_each}
use Rattle.parse_leaves.proofs.Misses.{nothing_found, found_nothing, some_same}
use Rattle.parse_type_names.specs.Abstracts.{with_bound}

pub bracket_taken : (s t : List Lexeme) → after_left_bracket s ≡ Some t → length s ≡ suc (length t)
bracket_taken [] t e = absurd (nothing_found e)
bracket_taken (at (k.Punct p.LeftBracket) o ∷ s) t e = ap (λ r. suc (length r)) (some_same e)
bracket_taken _ t e = absurd (nothing_found e)

nothing_behind : {A B : Type 0} (o : Option A) (f : A → Option B) → ((x : A) → f x ≡ None) → (o >>= f) ≡ None
nothing_behind None f h = refl
nothing_behind (Some x) f h = h x

either_way : {A : Type 0} (b : Bool) (x : A) → (if b then x else x) ≡ x
either_way true x = refl
either_way false x = refl

if_goes : {A B : Type 0} (b : Bool) (x : A) (f : A → Option B) → (if b then f x else None) ≡ ((if b then Some x else None) >>= f)
if_goes true x f = refl
if_goes false x f = refl

module _ (sub : ℕ → List Lexeme → Option (Read Expr)) (limit : ℕ) (place start : Place) where
  -- with one more bound
  abbrev one_more_bound : Read Declarator → Read (Option Expr) → Read Declarator
  one_more_bound x y = found (d.Array x.tree y.tree start) (suc (max x.height y.height)) y.rest

  abbrev if_low : (Read Declarator → Option (Read Declarator)) → Read Declarator → Read (Option Expr) → Option (Read Declarator)
  if_low later x y = if nat_le (suc (max x.height y.height)) limit then later (one_more_bound x y) else None

  behind_goes : (later : Read Declarator → Option (Read Declarator)) (x : Read Declarator) (s t : List Lexeme) →
      after_left_bracket s ≡ Some t →
      arrays_behind sub limit place later start x s ≡ (bound sub t >>= λ y. if_low later x y)
  behind_goes later x [] t e = absurd (nothing_found e)
  behind_goes later x (at (k.Punct p.LeftBracket) o ∷ s) t e = ap (λ r. bound sub r >>= λ y. if_low later x y) (some_same e)
  behind_goes later x _ t e = absurd (nothing_found e)

  behind_ends : (later : Read Declarator → Option (Read Declarator)) (x : Read Declarator) (s : List Lexeme) → after_left_bracket s ≡ None →
      arrays_behind sub limit place later start x s ≡ Some x
  behind_ends later x [] e = refl
  behind_ends later x (at (k.Punct p.LeftBracket) o ∷ s) e = absurd (found_nothing e)
  behind_ends later x _ e = refl

  module _ (x : Declarator) (h : ℕ) (s : List Lexeme) where
    pub arrays_end : (m : ℕ) → after_left_bracket s ≡ None → arrays sub limit place m start (found x h s) ≡ Some (found x h s)
    unfolding arrays
    arrays_end zero e = behind_ends (λ y. None) (found x h s) s e
    arrays_end (suc m) e = behind_ends (arrays sub limit place m start) (found x h s) s e

    pub arrays_full : (m : ℕ) (t : List Lexeme) → m ≡ 0 → after_left_bracket s ≡ Some t →
        arrays sub limit place m start (found x h s) ≡ None
    unfolding arrays
    arrays_full zero t none e = behind_goes (λ y. None) (found x h s) s t e ∙ nothing_behind (bound sub t) _ (λ y. either_way _ None)
    arrays_full (suc m) t none e = cc

    arrays_step : (m : ℕ) (t : List Lexeme) → after_left_bracket s ≡ Some t →
        arrays sub limit place (suc m) start (found x h s) ≡ (with_bound sub limit start x h t >>= arrays sub limit place m start)
    unfolding arrays
    arrays_step m t e =
        let later = arrays sub limit place m start in
        behind_goes later (found x h s) s t e
        ∙ bind_each (bound sub t) _ _ (λ y. if_goes (nat_le (suc (max h y.height)) limit) (one_more_bound (found x h s) y) later)
        ∙ sym (bind_bind (bound sub t) _ later)

    pub arrays_fail : (m : ℕ) (t : List Lexeme) → after_left_bracket s ≡ Some t → with_bound sub limit start x h t ≡ None →
        arrays sub limit place (suc m) start (found x h s) ≡ None
    arrays_fail m t e f = arrays_step m t e ∙ ap (λ (r : Option (Read Declarator)). r >>= arrays sub limit place m start) f

    pub arrays_go : (m : ℕ) (t : List Lexeme) (y : Read Declarator) → after_left_bracket s ≡ Some t →
        with_bound sub limit start x h t ≡ Some y →
        arrays sub limit place (suc m) start (found x h s) ≡ arrays sub limit place m start y
    arrays_go m t y e f = arrays_step m t e ∙ ap (λ (r : Option (Read Declarator)). r >>= arrays sub limit place m start) f
