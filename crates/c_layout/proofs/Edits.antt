-- What a place of a list holds after an item is pushed or set.
use Rattle.std.proofs.Common.{◌≡◌, ◌≢◌, ℕ, zero, suc, ◌+◌, List, [], ◌∷◌, ◌++◌, length, Bool, false, cond, get_or, Some, refl, ap, arith}
use Rattle.std.specs.Prelude.{slice_get, slice_set, count_by}
use Rattle.std.proofs.lemmas.Option.{get_or_from_slice_get, slice_get_within}
use Rattle.std.proofs.lemmas.List.Sums.{sum_by-append, sum_by-set}

module _ {A : Type 0} (y : A) where
  pub slice_get-push_same : (xs : List A) → slice_get (xs ++ y ∷ []) (length xs) ≡ Some y
  slice_get-push_same [] = refl
  slice_get-push_same (x ∷ xs) = slice_get-push_same xs

  pub slice_get-push_other : (xs : List A) (k : ℕ) → k ≢ length xs → slice_get (xs ++ y ∷ []) k ≡ slice_get xs k
  slice_get-push_other [] zero h = absurd (h refl)
  slice_get-push_other [] (suc k) h = refl
  slice_get-push_other (x ∷ xs) zero h = refl
  slice_get-push_other (x ∷ xs) (suc k) h = slice_get-push_other xs k (λ e. h (ap suc e))

  pub slice_get-set_same : (xs : List A) (t : ℕ) (old : A) → slice_get xs t ≡ Some old → slice_get (slice_set xs t y) t ≡ Some y
  slice_get-set_same [] t old h = cc
  slice_get-set_same (x ∷ xs) zero old h = refl
  slice_get-set_same (x ∷ xs) (suc t) old h = slice_get-set_same xs t old h

  pub slice_get-set_other : (xs : List A) (t k : ℕ) → k ≢ t → slice_get (slice_set xs t y) k ≡ slice_get xs k
  slice_get-set_other [] t k h = refl
  slice_get-set_other (x ∷ xs) zero zero h = absurd (h refl)
  slice_get-set_other (x ∷ xs) zero (suc k) h = refl
  slice_get-set_other (x ∷ xs) (suc t) zero h = refl
  slice_get-set_other (x ∷ xs) (suc t) (suc k) h = slice_get-set_other xs t k (λ e. h (ap suc e))

  module _ (p : A → Bool) where
    pub count_by-push : (xs : List A) → count_by p (xs ++ y ∷ []) ≡ count_by p xs + cond (p y) 1 0
    count_by-push xs = omega (arith, sum_by-append (λ x. cond (p x) 1 0) xs (y ∷ []))

    pub count_by-set : (xs : List A) (t : ℕ) (old : A) → slice_get xs t ≡ Some old → p old ≡ false →
        count_by p (slice_set xs t y) ≡ count_by p xs + cond (p y) 1 0
    count_by-set xs t old h f =
        let was : ◌≡◌ {A = ℕ} (cond (p (get_or xs t old)) 1 0) 0 = rw (get_or_from_slice_get xs t old old h, f) refl in
        omega (arith, sum_by-set (λ x. cond (p x) 1 0) xs t y old (slice_get_within xs t old h), was)
