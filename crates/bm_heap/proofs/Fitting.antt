-- First fit.
use Rattle.std.proofs.Common.{◌≡◌, ◌≢◌, ℕ, ◌+◌, ◌-◌, ◌<◌, ◌≤◌, ◌⊎◌, inl, inr, ⊎_elim, Bool, true, false, List, [], ◌∷◌, Some, eqb, leb, ltb, refl, subst, arith, eqb-true, leb-true, ltb-true}
use Rattle.std.specs.Prelude.{if◌then◌else◌}
use Rattle.std.proofs.lemmas.Bool.{cases_lt, cond_both, eqb-false, ltb-false}
use Rattle.bm_heap.specs.declared.holes.Hole.{Hole}
use Rattle.bm_heap.specs.Heaps.{cut, first_fit, take_from, put_before, give_to, Within, Free, Ordered}

-- the taken bytes were free, and what is free is the rest
pub record Taken (n a : ℕ) (old new : List Hole) (lo hi : ℕ) : Type 0 where
  pub low : lo ≤ a
  pub high : a + n ≤ hi
  pub was : (x : ℕ) → Within a n x → Free old x
  pub rest : (x : ℕ) → Free new x → Free old x × (Within a n x → ⊥)
  pub kept : (x : ℕ) → Free old x → Within a n x ⊎ Free new x
  pub ordered : Ordered lo hi new

-- holes from lo on have nothing below
pub free_above : (lo hi : ℕ) (hs : List Hole) (x : ℕ) → Ordered lo hi hs → Free hs x → lo ≤ x
free_above lo hi [] x o f = absurd f
free_above lo hi (h ∷ hs) x o (inl f) = omega (arith, o.0, f)
free_above lo hi (h ∷ hs) x o (inr f) = let r = free_above (h.start + h.count + 1) hi hs x o.3 f in omega (arith, o.0, r)

ordered_lower : (lo lo' hi : ℕ) (hs : List Hole) → lo' ≤ lo → Ordered lo hi hs → Ordered lo' hi hs
ordered_lower lo lo' hi [] l o = tt
ordered_lower lo lo' hi (h ∷ hs) l o = (omega (arith, o.0), o.1, o.2, o.3)

cut_is : (n lo hi : ℕ) (h : Hole) (hs : List Hole) → 0 < n → n ≤ h.count → Ordered lo hi (h ∷ hs)
    → Taken n h.start (h ∷ hs) (cut h n hs) lo hi
cut_is n lo hi h hs pos le o =
    cond_both (eqb h.count n) hs (record { start = h.start + n; count = h.count - n } ∷ hs) (λ new. Taken n h.start (h ∷ hs) new lo hi)
    (λ t. let e : h.count ≡ n = eqb-true _ _ t in record {
      low = o.0;
      high = omega (arith, o.2);
      was = λ x w. inl (omega (arith, w));
      rest = λ x f. (inr f, λ w. let g = free_above (h.start + h.count + 1) hi hs x o.3 f in omega (arith, g, w));
      kept = λ x f. ⊎_elim (λ (w : Within h.start h.count x). inl (omega (arith, w))) (λ (g : Free hs x). inr g) f;
      ordered = ordered_lower (h.start + h.count + 1) lo hi hs (omega (arith, o.0)) o.3;
    })
    (λ t. let ne : h.count ≢ n = eqb-false _ _ t in record {
      low = o.0;
      high = omega (arith, o.2);
      was = λ x w. inl (omega (arith, w));
      rest = λ x f. ⊎_elim
          (λ (w : Within (h.start + n) (h.count - n) x). let r : Free (h ∷ hs) x × (Within h.start n x → ⊥) = (
            inl (omega
                (arith, w)),
            λ v. omega (arith, v, w),
          ) in r)
          (λ (g : Free hs x). let b = free_above (h.start + h.count + 1) hi hs x o.3 g in let r : Free (h ∷ hs) x ×
          (Within h.start n x → ⊥) = (inr g, λ v. omega (arith, v, b)) in r)
          f;
      kept = λ x f. ⊎_elim
          (λ (w : Within h.start h.count x). ⊎_elim (λ (l : x < h.start + n). inl (omega (arith, w))) (λ (l : h.start + n ≤ x). inr (inl
          (omega (arith, w)))) (cases_lt x (h.start + n)))
          (λ (g : Free hs x). inr (inr g))
          f;
      ordered = (
        omega (arith, o.0),
        omega arith,
        omega (arith, o.2),
        ordered_lower (h.start + h.count + 1) (h.start + n +
            (h.count - n) + 1) hi hs (omega arith) o.3,
      );
    })

take_more : (n a lo hi : ℕ) (h : Hole) (hs new : List Hole) → Ordered lo hi (h ∷ hs) → Taken n a hs new (h.start + h.count + 1) hi
    → Taken n a (h ∷ hs) (h ∷ new) lo hi
take_more n a lo hi h hs new o r = record {
  low = let l = r.low in omega (arith, o.0);
  high = r.high;
  was = λ x w. inr (r.was x w);
  rest = λ x f. ⊎_elim
      (λ (w : Within h.start h.count x). let l = r.low in let q : Free (h ∷ hs) x × (Within a n x → ⊥) = (
        inl w,
        λ v. omega
            (arith, v, w, l),
      ) in q)
      (λ (g : Free new x). let q : Free (h ∷ hs) x × (Within a n x → ⊥) = (inr (r.rest x g).0, (r.rest x g).1) in q)
      f;
  kept = λ x f. ⊎_elim
      (λ (w : Within h.start h.count x). inr (inl w))
      (λ (g : Free hs x). ⊎_elim (λ (v : Within a n x). inl v) (λ (v : Free new x). inr (inr v)) (r.kept x g))
      f;
  ordered = (o.0, o.1, o.2, r.ordered);
}

take_go : (n a lo hi : ℕ) (h : Hole) (hs : List Hole) (t : Bool) → 0 < n → Ordered lo hi (h ∷ hs) → (first_fit n hs ≡ Some a
    → Taken n a hs (take_from n hs) (h.start + h.count + 1) hi) → leb n h.count ≡ t
    → (if t then Some h.start else first_fit n hs) ≡ Some a → Taken n a (h ∷ hs) (if t then cut h n hs else h ∷ take_from n hs) lo hi
take_go n a lo hi h hs true pos o more b f = let k : h.start ≡ a = cc in subst (λ z. Taken n z (h ∷ hs) (cut h n hs) lo hi) k
    (cut_is n lo hi h hs pos (leb-true _ _ b) o)
take_go n a lo hi h hs false pos o more b f = take_more n a lo hi h hs (take_from n hs) o (more f)

-- where a hole holds the bytes, they are taken from it
pub take_is : (n a lo hi : ℕ) (hs : List Hole) → 0 < n → Ordered lo hi hs → first_fit n hs ≡ Some a → Taken n a hs (take_from n hs) lo hi
take_is n a lo hi [] pos o e = absurd (cc)
take_is n a lo hi (h ∷ hs) pos o e = take_go n a lo hi h hs (leb n h.count) pos o (take_is n a (h.start + h.count + 1) hi hs pos o.3) refl e

-- the given bytes were not free, and now are
pub record Given (a n : ℕ) (old new : List Hole) (lo hi : ℕ) : Type 0 where
  pub is : (x : ℕ) → Free new x → Free old x ⊎ Within a n x
  pub old_is : (x : ℕ) → Free old x → Free new x
  pub new_is : (x : ℕ) → Within a n x → Free new x
  pub ordered : Ordered lo hi new

-- bytes that are not free, after a hole that begins before them, begin at its end or later
after_hole : (a n : ℕ) (h : Hole) (hs : List Hole) → 0 < n → h.start < a → ((x : ℕ) → Within a n x → Free (h ∷ hs) x → ⊥)
    → h.start + h.count ≤ a
after_hole a n h hs pos lt apart = ⊎_elim (λ (l : a < h.start + h.count). absurd (apart a (omega arith) (inl (omega arith)))) (λ
    (l : h.start + h.count ≤ a). l) (cases_lt a (h.start + h.count))

-- and where it does not begin before them, they end by its start
before_hole : (a n : ℕ) (h : Hole) (hs : List Hole) → 0 < h.count → a ≤ h.start → ((x : ℕ) → Within a n x → Free (h ∷ hs) x → ⊥)
    → a + n ≤ h.start
before_hole a n h hs pos le apart = ⊎_elim (λ (l : h.start < a + n). absurd (apart h.start (omega arith) (inl (omega arith)))) (λ
    (l : a + n ≤ h.start). l) (cases_lt h.start (a + n))

give_grown : (a n lo hi : ℕ) (h : Hole) (hs new : List Hole) → h.start + h.count ≡ a → Given h.start (h.count + n) hs new lo hi
    → Given a n (h ∷ hs) new lo hi
give_grown a n lo hi h hs new e g = record {
  is = λ x f. ⊎_elim
      (λ (r : Free hs x). inl (inr r))
      (λ (w : Within h.start (h.count + n) x). ⊎_elim (λ (l : x < a). inl (inl (omega (arith, w)))) (λ (l : a ≤ x). inr (omega
      (arith, w))) (cases_lt x a))
      (g.is x f);
  old_is = λ x f. ⊎_elim (λ (w : Within h.start h.count x). g.new_is x (omega (arith, w))) (λ (r : Free hs x). g.old_is x r) f;
  new_is = λ x w. g.new_is x (omega (arith, w));
  ordered = g.ordered;
}

give_more : (a n lo hi : ℕ) (h : Hole) (hs new : List Hole) → Ordered lo hi (h ∷ hs) → Given a n hs new (h.start + h.count + 1) hi
    → Given a n (h ∷ hs) (h ∷ new) lo hi
give_more a n lo hi h hs new o g = record {
  is = λ x f. ⊎_elim
      (λ (w : Within h.start h.count x). inl (inl w))
      (λ (r : Free new x). ⊎_elim (λ (q : Free hs x). inl (inr q)) (λ (w : Within a n x). inr w) (g.is x r))
      f;
  old_is = λ x f. ⊎_elim (λ (w : Within h.start h.count x). inl w) (λ (r : Free hs x). inr (g.old_is x r)) f;
  new_is = λ x w. inr (g.new_is x w);
  ordered = (o.0, o.1, o.2, g.ordered);
}

give_joined : (a n lo hi : ℕ) (h : Hole) (hs : List Hole) → lo ≤ a → a + n ≡ h.start → Ordered lo hi (h ∷ hs)
    → Given a n (h ∷ hs) (record { start = a; count = n + h.count } ∷ hs) lo hi
give_joined a n lo hi h hs l e o = record {
  is = λ x f. ⊎_elim
      (λ (w : Within a (n + h.count) x). ⊎_elim (λ (q : x < h.start). inr (omega (arith, w))) (λ (q : h.start ≤ x). inl (inl (omega
      (arith, w)))) (cases_lt x h.start))
      (λ (r : Free hs x). inl (inr r))
      f;
  old_is = λ x f. ⊎_elim (λ (w : Within h.start h.count x). inl (omega (arith, w))) (λ (r : Free hs x). inr r) f;
  new_is = λ x w. inl (omega (arith, w));
  ordered = (
    l,
    omega (arith, o.1),
    omega (arith, o.2),
    ordered_lower (h.start + h.count + 1) (a + (n + h.count) + 1) hi hs
        (omega arith) o.3,
  );
}

give_first : (a n lo hi : ℕ) (h : Hole) (hs : List Hole) → 0 < n → lo ≤ a → a + n < h.start → Ordered lo hi (h ∷ hs)
    → Given a n (h ∷ hs) (record { start = a; count = n } ∷ h ∷ hs) lo hi
give_first a n lo hi h hs pos l lt o = record {
  is = λ x f. ⊎_elim (λ (w : Within a n x). inr w) (λ (r : Free (h ∷ hs) x). inl r) f;
  old_is = λ x f. inr f;
  new_is = λ x w. inl w;
  ordered = (l, pos, omega (arith, o.2), (omega arith, o.1, o.2, o.3));
}

-- before holes that lie behind, the two are one
put_is : (a n lo hi : ℕ) (hs : List Hole) → a ≤ lo → Ordered lo hi hs → give_to a n hs ≡ put_before a n hs
put_is a n lo hi [] l o = refl
put_is a n lo hi (h ∷ hs) l o = cond_both (ltb h.start a) _ _ (λ new. new ≡ put_before a n (h ∷ hs))
    (λ t. let lt = ltb-true _ _ t in absurd (omega (arith, lt, o.0))) (λ t. refl)

pub give_is : (a n lo hi : ℕ) (hs : List Hole) → 0 < n → lo ≤ a → a + n ≤ hi → Ordered lo hi hs → ((x : ℕ) → Within a n x → Free hs x
    → ⊥) → Given a n hs (give_to a n hs) lo hi
give_is a n lo hi [] pos l b o apart = record {
  is = λ x f. ⊎_elim (λ (w : Within a n x). inr w) (λ (e : ⊥). absurd e) f;
  old_is = λ x f. absurd f;
  new_is = λ x w. inl w;
  ordered = (l, pos, b, tt);
}
give_is a n lo hi (h ∷ hs) pos l b o apart =
    cond_both (ltb h.start a)
    (if eqb (h.start + h.count) a then put_before h.start (h.count + n) hs else h ∷ give_to a n hs)
    (if eqb (a + n) h.start then record { start = a; count = n + h.count } ∷ hs else record { start = a; count = n } ∷ h ∷ hs)
    (λ new. Given a n (h ∷ hs) new lo hi)
    (λ t. let lt : h.start < a = ltb-true _ _ t in
    let past = after_hole a n h hs pos lt apart in
    cond_both (eqb (h.start + h.count) a) (put_before h.start (h.count + n) hs) (h ∷ give_to a n hs) (λ new. Given a n (h ∷ hs) new lo hi)
    (λ u. let e : h.start + h.count ≡ a = eqb-true _ _ u in
    let before = put_is h.start (h.count + n) (h.start + h.count + 1) hi hs (omega arith) o.3 in
    give_grown a n lo hi h hs _ e (subst (λ new. Given h.start (h.count + n) hs new lo hi) before
    (give_is h.start (h.count + n) lo hi hs (omega arith) o.0 (omega arith) (ordered_lower (h.start + h.count + 1) lo hi hs (omega
    (arith, o.0)) o.3)
    (λ x w f. let far = free_above (h.start + h.count + 1) hi hs x o.3 f in apart x (omega (arith, far, w)) (inr f)))))
    (λ u. let ne : h.start + h.count ≢ a = eqb-false _ _ u in
    give_more a n lo hi h hs _ o (give_is a n (h.start + h.count + 1) hi hs pos (omega (arith, past)) b o.3 (λ x w f. apart x w (inr f)))))
    (λ t. let le : a ≤ h.start = ltb-false _ _ t in
    let end = before_hole a n h hs o.1 le apart in
    cond_both (eqb (a + n) h.start) (record { start = a; count = n + h.count } ∷ hs) (record { start = a; count = n } ∷ h ∷ hs)
    (λ new. Given a n (h ∷ hs) new lo hi)
    (λ u. give_joined a n lo hi h hs l (eqb-true _ _ u) o)
    (λ u. let ne : a + n ≢ h.start = eqb-false _ _ u in give_first a n lo hi h hs pos l (omega (arith, end)) o))
