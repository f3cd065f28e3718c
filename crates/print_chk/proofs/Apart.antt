-- Stretches of memory that don't meet.
use Rattle.std.proofs.Common.{◌≡◌, ℕ, ◌+◌, ◌<◌, ◌≤◌, ◌⊎◌, inl, inr, ⊎_elim, false, arith}
use Rattle.std.proofs.lemmas.Bool.{cases_lt}
use Rattle.library_meaning.specs.OnBytes.{meets}
use Rattle.library_meaning.proofs.Meets.{no_meet, meet_none}

-- a byte of the one is before the first of the other, or behind the last
pub outside : (a n b k l j : ℕ) → meets a n b k ≡ false → l ≤ n → j < k → (b + j < a) ⊎ (a + l ≤ b + j)
outside a n b k l j h le lt =
    ⊎_elim (λ (e : n ≡ 0). ⊎_elim (λ (x : b + j < a). inl x) (λ (x : a ≤ b + j). inr (omega arith)) (cases_lt (b + j) a))
    (λ (r : (k ≡ 0) ⊎ ((a + n ≤ b) ⊎ (b + k ≤ a))). ⊎_elim (λ (e : k ≡ 0). absurd (omega arith))
    (λ (s : (a + n ≤ b) ⊎ (b + k ≤ a)). ⊎_elim (λ (x : a + n ≤ b). inr (omega arith)) (λ (x : b + k ≤ a). inl (omega arith)) s) r)
    (meet_none a n b k h)

-- a part of the one
pub part_apart : (a n b k e l : ℕ) → meets a n b k ≡ false → a ≤ e → e + l ≤ a + n → meets e l b k ≡ false
part_apart a n b k e l h low high =
    ⊎_elim (λ (z : n ≡ 0). no_meet e l b k (inl (omega arith)))
    (λ (r : (k ≡ 0) ⊎ ((a + n ≤ b) ⊎ (b + k ≤ a))). ⊎_elim (λ (z : k ≡ 0). no_meet e l b k (inr (inl z)))
    (λ (s : (a + n ≤ b) ⊎ (b + k ≤ a)). ⊎_elim (λ (x : a + n ≤ b). no_meet e l b k (inr (inr (inl (omega arith))))) (λ (x : b + k ≤ a). no_meet e l b k (inr (inr (inr (omega arith))))) s) r)
    (meet_none a n b k h)

-- a part of the other
pub apart_part : (a n b k c l : ℕ) → meets a n b k ≡ false → b ≤ c → c + l ≤ b + k → meets a n c l ≡ false
apart_part a n b k c l h low high =
    ⊎_elim (λ (z : n ≡ 0). no_meet a n c l (inl z))
    (λ (r : (k ≡ 0) ⊎ ((a + n ≤ b) ⊎ (b + k ≤ a))). ⊎_elim (λ (z : k ≡ 0). no_meet a n c l (inr (inl (omega arith))))
    (λ (s : (a + n ≤ b) ⊎ (b + k ≤ a)). ⊎_elim (λ (x : a + n ≤ b). no_meet a n c l (inr (inr (inl (omega arith))))) (λ (x : b + k ≤ a). no_meet a n c l (inr (inr (inr (omega arith))))) s) r)
    (meet_none a n b k h)
