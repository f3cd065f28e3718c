-- The steps of a loop over what stands behind a declarator.
use Rattle.std.proofs.Common.{◌≡◌, ℕ, zero, suc, ◌<◌, ◌≤◌, List, [], ◌∷◌, length, Option, Some, None, Bool, true, false, refl, sym, ap, ◌∙◌, arith}
use Rattle.std.specs.Prelude.{if◌then◌else◌, nat_le}
use Rattle.fc_base.specs.declared.refusals.Place.{Place}
use Rattle.c_tokens.specs.declared.puncts.Punct.TheVariants as p
use Rattle.c_tokens.specs.declared.tokens.Token.{Token}
use Rattle.parse_meaning.specs.declared.terminals.Terminal.TheVariants as k
use Rattle.parse_meaning.specs.Terminals.{Lexeme, at}
use Rattle.parse_reading.specs.Reading.{Read, ◌>>=◌, bounded, bound, expression}
use Rattle.parse_reading.specs.ReadingDeclarators.{Named, params_in, suffixes_behind, suffixes, declarator}
use Rattle.parse_reading.proofs.Basics.{weaken}
use Rattle.parse_declarators.specs.declared.declarators.Suffix.TheVariants as suffix
use Rattle.parse_declarators.specs.Suffixes.{suffix_at, with_bound, with_params, array_at, function_at}
use Rattle.parse_tokens.proofs.Binds.{bind_same, bind_each, bind_bind}
use Rattle.parse_leaves.proofs.Lengths.{bound_shorter}
use Rattle.parse_leaves.proofs.Misses.{nothing_found, found_nothing}
use Rattle.parse_declarators.proofs.Lengths.{params_shorter}

function_array : Some suffix.Function ≡ Some suffix.Array → ⊥
function_array e = cc

module _ (n : ℕ) (start : Place) where
  low_alike : (b : Bool) (p q : Option (Read Named)) → p ≡ q → (if b then p else None) ≡ (if b then q else None)
  low_alike true p q e = e
  low_alike false p q e = refl

  low_then : (b : Bool) (x : Read Named) (f : Read Named → Option (Read Named)) →
      (if b then f x else None) ≡ ((if b then Some x else None) >>= f)
  low_then true x f = refl
  low_then false x f = refl

  bounded_then : (x : Read Named) (f : Read Named → Option (Read Named)) →
      (if nat_le x.height (suc n) then f x else None) ≡ (bounded (suc n) x >>= f)
  bounded_then x f = low_then (nat_le x.height (suc n)) x f

  behind_alike : (later more : Read Named → Option (Read Named)) (x : Read Named) (t : List Lexeme) →
      ((y : Read Named) → length y.rest < length t → later y ≡ more y) →
      suffixes_behind (suc n) (expression n) (declarator n) later start x t
      ≡ suffixes_behind (suc n) (expression n) (declarator n) more start x t
  behind_alike later more x [] h = refl
  behind_alike later more x (at (k.Punct p.LeftBracket) o ∷ t) h =
      bind_same (bound (expression n) t) _ _ (weaken _ _ (bound (expression n) t) (bound_shorter n t)
      (λ y f. low_alike _ _ _ (h _ (omega (arith, f.shorter)))))
  behind_alike later more x (at (k.Punct p.LeftParen) o ∷ t) h =
      bind_same (params_in (suc n) (expression n) (declarator n) t) _ _
      (weaken _ _ (params_in (suc n) (expression n) (declarator n) t) (params_shorter n t)
      (λ y f. low_alike _ _ _ (h _ (omega (arith, f.shorter)))))
  behind_alike later more x _ h = refl

  -- the number of turns is of no account where it is no less than that of the tokens
  pub suffixes_alike : (m j : ℕ) (x : Read Named) → length x.rest ≤ m → length x.rest ≤ j →
      suffixes (suc n) (expression n) (declarator n) m start x ≡ suffixes (suc n) (expression n) (declarator n) j start x
  unfolding suffixes
  suffixes_alike zero zero x low high = refl
  suffixes_alike zero (suc j) x low high =
      behind_alike (λ x. None) (suffixes (suc n) (expression n) (declarator n) j start) x x.rest (λ y h. absurd (omega arith))
  suffixes_alike (suc m) zero x low high =
      behind_alike (suffixes (suc n) (expression n) (declarator n) m start) (λ x. None) x x.rest (λ y h. absurd (omega arith))
  suffixes_alike (suc m) (suc j) x low high =
      behind_alike (suffixes (suc n) (expression n) (declarator n) m start)
      (suffixes (suc n) (expression n) (declarator n) j start) x x.rest
      (λ y h. suffixes_alike m j y (omega arith) (omega arith))

  array_then : (m : ℕ) (x : Read Named) (o : Token) (t : List Lexeme) → x.rest ≡ at (k.Punct p.LeftBracket) o ∷ t →
      suffixes (suc n) (expression n) (declarator n) (suc m) start x
      ≡ (array_at (suc n) (expression n) (declarator n) start x x.rest >>= suffixes (suc n) (expression n) (declarator n) m start)
  unfolding suffixes
  array_then m x o t e =
      rw e
      (bind_each (bound (expression n) t) _ _ (λ y.
      bounded_then (with_bound start x y) (suffixes (suc n) (expression n) (declarator n) m start))
      ∙ sym (bind_bind (bound (expression n) t) _ _))

  function_then : (m : ℕ) (x : Read Named) (o : Token) (t : List Lexeme) → x.rest ≡ at (k.Punct p.LeftParen) o ∷ t →
      suffixes (suc n) (expression n) (declarator n) (suc m) start x
      ≡ (function_at (suc n) (expression n) (declarator n) start x x.rest >>= suffixes (suc n) (expression n) (declarator n) m start)
  unfolding suffixes
  function_then m x o t e =
      rw e (bind_each (params_in (suc n) (expression n) (declarator n) t) _ _
      (λ y. bounded_then (with_params start x y) (suffixes (suc n) (expression n) (declarator n) m start))
      ∙ sym (bind_bind (params_in (suc n) (expression n) (declarator n) t) _ _))

  goes_on : (m j : ℕ) (x y : Read Named) (r : Option (Read Named)) →
      suffixes (suc n) (expression n) (declarator n) m start x ≡ (r >>= suffixes (suc n) (expression n) (declarator n) j start) →
      r ≡ Some y → length y.rest ≤ j → suffixes (suc n) (expression n) (declarator n) m start x
      ≡ suffixes (suc n) (expression n) (declarator n) (length y.rest) start y
  goes_on m j x y r e some low =
      e ∙ ap (λ r. r >>= suffixes (suc n) (expression n) (declarator n) j start) some ∙ suffixes_alike j (length y.rest) y low (omega arith)

  is_array : (s : List Lexeme) → suffix_at s ≡ Some suffix.Array → (o : Token) × (t : List Lexeme) × (s ≡ at (k.Punct p.LeftBracket) o ∷ t)
  is_array [] e = absurd (nothing_found e)
  is_array (at (k.Punct p.LeftBracket) o ∷ t) e = (o, t, refl)
  is_array (at (k.Punct p.LeftParen) o ∷ t) e = absurd (function_array e)
  is_array (o ∷ t) e = absurd (nothing_found e)

  is_function : (s : List Lexeme) → suffix_at s ≡ Some suffix.Function →
      (o : Token) × (t : List Lexeme) × (s ≡ at (k.Punct p.LeftParen) o ∷ t)
  is_function [] e = absurd (nothing_found e)
  is_function (at (k.Punct p.LeftParen) o ∷ t) e = (o, t, refl)
  is_function (at (k.Punct p.LeftBracket) o ∷ t) e = absurd (function_array (sym e))
  is_function (o ∷ t) e = absurd (nothing_found e)

  array_turn : (x : Read Named) → suffix_at x.rest ≡ Some suffix.Array → (m : ℕ) × (length x.rest ≡ suc m) ×
      (suffixes (suc n) (expression n) (declarator n) (length x.rest) start x
      ≡ (array_at (suc n) (expression n) (declarator n) start x x.rest >>= suffixes (suc n) (expression n) (declarator n) m start))
  array_turn x e =
      let begins = is_array x.rest e in
      let taken : length x.rest ≡ suc (length begins.1) = ap length begins.2 in (
        length begins.1,
        taken,
        ap (λ m. suffixes (suc n) (expression n) (declarator n) m start x) taken
            ∙ array_then (length begins.1) x begins.0 begins.1 begins.2,
      )

  function_turn : (x : Read Named) → suffix_at x.rest ≡ Some suffix.Function → (m : ℕ) × (length x.rest ≡ suc m) ×
      (suffixes (suc n) (expression n) (declarator n) (length x.rest) start x
      ≡ (function_at (suc n) (expression n) (declarator n) start x x.rest >>= suffixes (suc n) (expression n) (declarator n) m start))
  function_turn x e =
      let begins = is_function x.rest e in
      let taken : length x.rest ≡ suc (length begins.1) = ap length begins.2 in (
        length begins.1,
        taken,
        ap (λ m. suffixes (suc n) (expression n) (declarator n) m start x) taken
            ∙ function_then (length begins.1) x begins.0 begins.1 begins.2,
      )

  pub array_goes : (x y : Read Named) → suffix_at x.rest ≡ Some suffix.Array →
      array_at (suc n) (expression n) (declarator n) start x x.rest ≡ Some y → length y.rest < length x.rest →
      suffixes (suc n) (expression n) (declarator n) (length x.rest) start x
      ≡ suffixes (suc n) (expression n) (declarator n) (length y.rest) start y
  array_goes x y e some low = let turn = array_turn x e in goes_on (length x.rest) turn.0 x y _ turn.2 some (omega (arith, turn.1, low))

  pub function_goes : (x y : Read Named) → suffix_at x.rest ≡ Some suffix.Function →
      function_at (suc n) (expression n) (declarator n) start x x.rest ≡ Some y → length y.rest < length x.rest →
      suffixes (suc n) (expression n) (declarator n) (length x.rest) start x
      ≡ suffixes (suc n) (expression n) (declarator n) (length y.rest) start y
  function_goes x y e some low =
      let turn = function_turn x e in goes_on (length x.rest) turn.0 x y _ turn.2 some (omega (arith, turn.1, low))

  pub array_fails : (x : Read Named) → suffix_at x.rest ≡ Some suffix.Array →
      array_at (suc n) (expression n) (declarator n) start x x.rest ≡ None →
      suffixes (suc n) (expression n) (declarator n) (length x.rest) start x ≡ None
  array_fails x e none =
      let turn = array_turn x e in turn.2 ∙ ap (λ r. r >>= suffixes (suc n) (expression n) (declarator n) turn.0 start) none

  pub function_fails : (x : Read Named) → suffix_at x.rest ≡ Some suffix.Function →
      function_at (suc n) (expression n) (declarator n) start x x.rest ≡ None →
      suffixes (suc n) (expression n) (declarator n) (length x.rest) start x ≡ None
  function_fails x e none =
      let turn = function_turn x e in turn.2 ∙ ap (λ r. r >>= suffixes (suc n) (expression n) (declarator n) turn.0 start) none

  behind_over : (later : Read Named → Option (Read Named)) (x : Read Named) (t : List Lexeme) → suffix_at t ≡ None →
      suffixes_behind (suc n) (expression n) (declarator n) later start x t ≡ Some x
  behind_over later x [] e = refl
  behind_over later x (at (k.Punct p.LeftBracket) o ∷ t) e = absurd (found_nothing e)
  behind_over later x (at (k.Punct p.LeftParen) o ∷ t) e = absurd (found_nothing e)
  behind_over later x _ e = refl

  pub suffixes_over : (m : ℕ) (x : Read Named) → suffix_at x.rest ≡ None → suffixes (suc n) (expression n) (declarator n) m start x ≡ Some x
  unfolding suffixes
  suffixes_over zero x e = behind_over (λ x. None) x x.rest e
  suffixes_over (suc m) x e = behind_over (suffixes (suc n) (expression n) (declarator n) m start) x x.rest e
