-- When two stretches of the machine's memory have no byte in common.
use Rattle.std.proofs.Common.{◌≡◌, ℕ, ◌+◌, ◌≤◌, ◌⊎◌, inl, inr, Bool, true, false, not, ◌&&◌, eqb, leb, refl}
use Rattle.std.proofs.Math.Bool.{and-false}
use Rattle.std.proofs.lemmas.Bool.{eq-eqb, eqb-true, le-leb, leb-true}
use Rattle.library_meaning.specs.OnBytes.{meets}

pub no_meet : (a n b l : ℕ) → (n ≡ 0) ⊎ ((l ≡ 0) ⊎ ((a + n ≤ b) ⊎ (b + l ≤ a))) → meets a n b l ≡ false
no_meet a n b l (inl e) = rw (eq-eqb n 0 e) refl
no_meet a n b l (inr (inl e)) = rw (eq-eqb l 0 e) (and-false _)
no_meet a n b l (inr (inr (inl h))) = rw (le-leb _ _ h, and-false (not (eqb l 0))) (and-false _)
no_meet a n b l (inr (inr (inr h))) = rw (le-leb _ _ h, and-false (not (leb (a + n) b)), and-false (not (eqb l 0))) (and-false _)

pub meet_none : (a n b l : ℕ) → meets a n b l ≡ false → (n ≡ 0) ⊎ ((l ≡ 0) ⊎ ((a + n ≤ b) ⊎ (b + l ≤ a)))
meet_none a n b l h = go (eqb n 0) (eqb l 0) (leb (a + n) b) (leb (b + l) a) refl refl refl refl h
  where
    go : (t u v w : Bool) → eqb n 0 ≡ t → eqb l 0 ≡ u → leb (a + n) b ≡ v → leb (b + l) a ≡ w → not t && (not u && (not v && not w)) ≡ false → (n ≡ 0) ⊎ ((l ≡ 0) ⊎ ((a + n ≤ b) ⊎ (b + l ≤ a)))
    go true u v w et eu ev ew h = inl (eqb-true n 0 et)
    go false true v w et eu ev ew h = inr (inl (eqb-true l 0 eu))
    go false false true w et eu ev ew h = inr (inr (inl (leb-true _ _ ev)))
    go false false false true et eu ev ew h = inr (inr (inr (leb-true _ _ ew)))
    go false false false false et eu ev ew h = absurd (cc)
