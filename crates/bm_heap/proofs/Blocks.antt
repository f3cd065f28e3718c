-- The heap's holes and blocks after a request and after a block is given back.
use Rattle.std.proofs.Common.{◌≡◌, ◌≢◌, ℕ, ◌+◌, ◌<◌, ◌≤◌, ◌⊎◌, inl, inr, ⊎_elim, Bool, true, false, List, [], ◌∷◌, Option, Some, None, eqb, leb, refl, sym, ap, ◌∙◌, subst, arith, eqb-true, leb-true}
use Rattle.std.specs.Prelude.{if◌then◌else◌}
use Rattle.std.proofs.lemmas.Bool.{cases_lt, cases_eq, cond_both, eqb-false}
use Rattle.bm_heap.specs.declared.holes.Hole.{Hole}
use Rattle.bm_heap.specs.Heaps.{block_bytes, first_fit, take_from, give_to, Within, Free, heap_size, IsHeap, one_more, one_less}
use Rattle.bm_heap.proofs.Fitting.{Taken, Given, take_is, give_is}

-- no hole holds n bytes
abbrev pub NoneHolds : ℕ → List Hole → Type 0
NoneHolds n [] = Unit {0}
NoneHolds n (h ∷ hs) = (h.count < n) × NoneHolds n hs

pub none_fits_only : (n : ℕ) (hs : List Hole) → NoneHolds n hs → first_fit n hs ≡ None
none_fits_only n [] h = refl
none_fits_only n (h ∷ hs) w =
    cond_both (leb n h.count) (Some h.start) (first_fit n hs) (λ z. z ≡ None) (λ t. let l = leb-true _ _ t in absurd (omega
    (arith, w.0, l))) (λ t. none_fits_only n hs w.1)

-- two stretches with no common number
pub no_common : (a n b k : ℕ) → 0 < n → 0 < k → ((x : ℕ) → Within a n x → Within b k x → ⊥) → (a + n ≤ b) ⊎ (b + k ≤ a)
no_common a n b k pn pk h =
    ⊎_elim
    (λ (l : a < b). ⊎_elim (λ (g : b < a + n). absurd (h b (omega arith) (omega arith))) (λ (g : a + n ≤ b). inl g) (cases_lt b (a + n)))
    (λ (l : b ≤ a). ⊎_elim (λ (g : a < b + k). absurd (h a (omega arith) (omega arith))) (λ (g : b + k ≤ a). inr g) (cases_lt a (b + k)))
    (cases_lt a b)

-- the new block, or one of the old
pub with_is : (blocks : ℕ → Option ℕ) (a n b k : ℕ) → one_more blocks a n b ≡ Some k → ((b ≡ a) × (k ≡ n)) ⊎ ((b ≢ a) × (blocks b ≡ Some k))
with_is blocks a n b k e = go (eqb b a) refl e
  where
    go : (t : Bool) → eqb b a ≡ t → (if t then Some n else blocks b) ≡ Some k → ((b ≡ a) × (k ≡ n)) ⊎ ((b ≢ a) × (blocks b ≡ Some k))
    go true g f = let s : n ≡ k = cc in inl (eqb-true _ _ g, sym s)
    go false g f = inr (eqb-false _ _ g, f)

pub without_is : (blocks : ℕ → Option ℕ) (a b k : ℕ) → one_less blocks a b ≡ Some k → (b ≢ a) × (blocks b ≡ Some k)
without_is blocks a b k e = go (eqb b a) refl e
  where
    go : (t : Bool) → eqb b a ≡ t → (if t then None else blocks b) ≡ Some k → (b ≢ a) × (blocks b ≡ Some k)
    go true g f = absurd (cc)
    go false g f = (eqb-false _ _ g, f)

-- the new block stands for itself
pub with_same : (blocks : ℕ → Option ℕ) (a n : ℕ) → one_more blocks a n a ≡ Some n
with_same blocks a n = cond_both (eqb a a) (Some n) (blocks a) (λ z. z ≡ Some n) (λ t. refl) (λ t. absurd (eqb-false a a t refl))

pub with_other : (blocks : ℕ → Option ℕ) (a n b k : ℕ) → blocks b ≡ Some k → b ≢ a → one_more blocks a n b ≡ Some k
with_other blocks a n b k e ne = cond_both (eqb b a) (Some n) (blocks b) (λ z. z ≡ Some k) (λ t. absurd (ne (eqb-true _ _ t))) (λ t. e)

pub without_other : (blocks : ℕ → Option ℕ) (a b k : ℕ) → blocks b ≡ Some k → b ≢ a → one_less blocks a b ≡ Some k
without_other blocks a b k e ne = cond_both (eqb b a) None (blocks b) (λ z. z ≡ Some k) (λ t. absurd (ne (eqb-true _ _ t))) (λ t. e)

pub take_heap : (holes : List Hole) (blocks : ℕ → Option ℕ) (n a : ℕ) → IsHeap holes blocks → first_fit (block_bytes n) holes ≡ Some a
    → IsHeap (take_from (block_bytes n) holes) (one_more blocks a n)
take_heap holes blocks n a i e = record { ordered = t.ordered; inside = inside; apart = apart; taken = taken; covered = covered }
  where
    t : Taken (block_bytes n) a holes (take_from (block_bytes n) holes) 0 heap_size
    t = take_is (block_bytes n) a 0 heap_size holes (omega arith) i.ordered e

    far : (b k : ℕ) → blocks b ≡ Some k → (a + block_bytes n ≤ b) ⊎ (b + block_bytes k ≤ a)
    far b k f = no_common a (block_bytes n) b (block_bytes k) (omega arith) (omega arith) (λ x v w. i.taken b k x f w (t.was x v))

    inside : (b k : ℕ) → one_more blocks a n b ≡ Some k → b + block_bytes k ≤ heap_size
    inside b k f = ⊎_elim (λ (g : (b ≡ a) × (k ≡ n)). rw (g.0, g.1) t.high) (λ (g : (b ≢ a) × (blocks b ≡ Some k)). i.inside b k g.1)
        (with_is blocks a n b k f)

    apart : (b k c j : ℕ) → one_more blocks a n b ≡ Some k → one_more blocks a n c ≡ Some j → b ≢ c
        → (b + block_bytes k ≤ c) ⊎ (c + block_bytes j ≤ b)
    apart b k c j f g ne = two (with_is blocks a n b k f) (with_is blocks a n c j g)
      where
        two : ((b ≡ a) × (k ≡ n)) ⊎ ((b ≢ a) × (blocks b ≡ Some k)) → ((c ≡ a) × (j ≡ n)) ⊎ ((c ≢ a) × (blocks c ≡ Some j))
            → (b + block_bytes k ≤ c) ⊎ (c + block_bytes j ≤ b)
        two (inl x) (inl y) = absurd (ne (x.0 ∙ sym y.0))
        two (inl x) (inr y) = rw (x.0, x.1) (far c j y.1)
        two (inr x) (inl y) = rw (y.0, y.1) (⊎_elim (λ (h : a + block_bytes n ≤ b). inr h) (λ (h : b + block_bytes k ≤ a). inl h)
            (far b k x.1))
        two (inr x) (inr y) = i.apart b k c j x.1 y.1 ne

    taken : (b k x : ℕ) → one_more blocks a n b ≡ Some k → Within b (block_bytes k) x → Free (take_from (block_bytes n) holes) x → ⊥
    taken b k x f w fr = ⊎_elim
        (λ (g : (b ≡ a) × (k ≡ n)). (t.rest x fr).1 (subst (λ y. Within y (block_bytes n) x) g.0 (subst (λ y. Within b
        (block_bytes y) x) g.1 w)))
        (λ (g : (b ≢ a) × (blocks b ≡ Some k)). i.taken b k x g.1 w (t.rest x fr).0)
        (with_is blocks a n b k f)

    new_free : blocks a ≡ None
    new_free = go (blocks a) refl
      where
        go : (o : Option ℕ) → blocks a ≡ o → o ≡ None
        go None f = refl
        go (Some k) f = absurd (i.taken a k a f (omega arith) (t.was a (omega arith)))

    covered : (x : ℕ) → x < heap_size → Free (take_from (block_bytes n) holes) x
        ⊎ ((b : ℕ) × (k : ℕ) × (one_more blocks a n b ≡ Some k) × Within b (block_bytes k) x)
    covered x l = ⊎_elim
        (λ (f : Free holes x). ⊎_elim (λ (w : Within a (block_bytes n) x). inr (a, n, with_same blocks a n, w)) (λ (g : Free (take_from
        (block_bytes n) holes) x). inl g) (t.kept x f))
        (λ (b : (b : ℕ) × (k : ℕ) × (blocks b ≡ Some k) × Within b (block_bytes k) x).
        let ne : b.0 ≢ a = λ e. let f : Some b.1 ≡ None = sym b.2 ∙ ap blocks e ∙ new_free in absurd (cc f) in
        inr (b.0, b.1, with_other blocks a n b.0 b.1 b.2 ne, b.3))
        (i.covered x l)

pub give_heap : (holes : List Hole) (blocks : ℕ → Option ℕ) (a n : ℕ) → IsHeap holes blocks → blocks a ≡ Some n
    → IsHeap (give_to a (block_bytes n) holes) (one_less blocks a)
give_heap holes blocks a n i e = record {
  ordered = g.ordered;
  inside = λ b k f. i.inside b k (without_is blocks a b k f).1;
  apart = λ b k c j f h ne. i.apart b k c j (without_is blocks a b k f).1 (without_is blocks a c j h).1 ne;
  taken = taken;
  covered = covered;
}
  where
    g : Given a (block_bytes n) holes (give_to a (block_bytes n) holes) 0 heap_size
    g = give_is a (block_bytes n) 0 heap_size holes (omega arith) (omega arith) (i.inside a n e) i.ordered (λ x w f. i.taken a n x e w f)

    taken : (b k x : ℕ) → one_less blocks a b ≡ Some k → Within b (block_bytes k) x → Free (give_to a (block_bytes n) holes) x → ⊥
    taken b k x f w fr =
        let o = without_is blocks a b k f in
        let far = i.apart b k a n o.1 e o.0 in
        ⊎_elim (λ (h : Free holes x). i.taken b k x o.1 w h) (λ (v : Within a (block_bytes n) x). omega (arith, far, v, w)) (g.is x fr)

    covered : (x : ℕ) → x < heap_size → Free (give_to a (block_bytes n) holes) x
        ⊎ ((b : ℕ) × (k : ℕ) × (one_less blocks a b ≡ Some k) × Within b (block_bytes k) x)
    covered x l = ⊎_elim
        (λ (f : Free holes x). inl (g.old_is x f))
        (λ (b : (b : ℕ) × (k : ℕ) × (blocks b ≡ Some k) × Within b (block_bytes k) x). ⊎_elim
        (λ (q : b.0 ≡ a).
        let k : Some b.1 ≡ Some n = sym b.2 ∙ ap blocks q ∙ e in
        let kn : b.1 ≡ n = cc k in
        inl (g.new_is x (subst (λ y. Within y (block_bytes n) x) q (subst (λ y. Within b.0 (block_bytes y) x) kn b.3))))
        (λ (ne : b.0 ≢ a). inr (b.0, b.1, without_other blocks a b.0 b.1 b.2 ne, b.3))
        (cases_eq b.0 a))
        (i.covered x l)
