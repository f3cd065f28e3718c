-- What the heap's fields keep.
use Rattle.std.proofs.Common.{◌≡◌, ◌≢◌, ℕ, zero, suc, ◌+◌, ◌-◌, ◌*◌, ◌/◌, ◌%◌, ◌<◌, ◌≤◌, inl, inr, List, [], ◌∷◌, length, get_or, set, cond, ◌==◌, eqb, ltb, leb, true, false, Bool, Option, Some, None, refl, sym, ap, ◌∙◌, subst, arith, slice_index, replicate}
use Rattle.std.proofs.lemmas.List.{get_or-set_same, get_or-set_other, get_or_past}
use Rattle.std.proofs.lemmas.Bool.{cases_eq, cond_both, ne_eqb}
use Rattle.bm_heap.specs.declared.holes.Hole.{Hole}
use Rattle.bm_heap.specs.Heaps.{Heap, heap_size, heap_places, no_sizes, whole_heap, block_bytes, first_fit, cut, take_from, put_before, give_to, Ordered, IsHeap, block_at, size_in, with_block, after_take, one_more, one_less}
use Rattle.bm_heap.specs.View.{Aligned}
use Rattle.bm_heap.proofs.Blocks.{NoneHolds, none_fits_only, take_heap, give_heap}

-- holes end by the region's end
pub within_region : (low high : ℕ) (hs : List Hole) → Ordered low high hs → (k : ℕ) (d : Hole) → k < length hs
    → (get_or hs k d).start + (get_or hs k d).count ≤ high
within_region low high [] o k d below = absurd (omega (arith, below))
within_region low high (h ∷ hs) o zero d below = o.2
within_region low high (h ∷ hs) o (suc k) d below = within_region (h.start + h.count + 1) high hs o.3 k d (omega (arith, below))

-- no hole holds more than the region
none_hold : (low n : ℕ) (hs : List Hole) → heap_size < n → Ordered low heap_size hs → NoneHolds n hs
none_hold low n [] large o = tt
none_hold low n (h ∷ hs) large o = (omega (arith, large, o.2), none_hold (h.start + h.count + 1) n hs large o.3)

pub too_large : (n : ℕ) (hs : List Hole) → heap_size ≤ n → Ordered 0 heap_size hs → first_fit (block_bytes n) hs ≡ None
too_large n hs large o = none_fits_only (block_bytes n) hs (none_hold 0 (block_bytes n) hs (omega (arith, large)) o)

-- holes at multiples of 16 that don't touch are few
next_far : (h g : Hole) → h.start % 16 ≡ 0 → h.count % 16 ≡ 0 → g.start % 16 ≡ 0 → 0 < h.count → h.start + h.count + 1 ≤ g.start
    → h.start + 32 ≤ g.start
next_far h g a b c some far = omega arith

few_from : (low high : ℕ) (h : Hole) (hs : List Hole) → Ordered low high (h ∷ hs) → Aligned (h ∷ hs)
    → h.start + 32 * length (h ∷ hs) ≤ high + 16
few_from low high h [] o a = let end = o.2 in let some = o.1 in let c = a.1 in let n : 16 ≤ h.count = omega (arith, some, c) in omega
    (arith, end, n)
few_from low high h (g ∷ hs) o a =
    let rest = few_from (h.start + h.count + 1) high g hs o.3 a.2 in
    let far = next_far h g a.0 a.1 a.2.0 o.1 o.3.0 in
    omega (arith, rest, far)

pub few : (hs : List Hole) → Ordered 0 heap_size hs → Aligned hs → length hs ≤ 262144
few [] o a = omega arith
few (h ∷ hs) o a = let most = few_from 0 heap_size h hs o a in omega (arith, most)

-- holes stay at multiples of 16
sum_aligned : (m n : ℕ) → m % 16 ≡ 0 → n % 16 ≡ 0 → (m + n) % 16 ≡ 0
sum_aligned m n a b = omega arith

rest_aligned : (m n : ℕ) → m % 16 ≡ 0 → n % 16 ≡ 0 → (m - n) % 16 ≡ 0
rest_aligned m n a b = omega arith

pub bytes_aligned : (n : ℕ) → block_bytes n % 16 ≡ 0
bytes_aligned n = omega arith

pub take_aligned : (n : ℕ) (hs : List Hole) → n % 16 ≡ 0 → Aligned hs → Aligned (take_from n hs)
take_aligned n [] m a = tt
take_aligned n (h ∷ hs) m a =
    cond_both (leb n h.count) (cut h n hs) (h ∷ take_from n hs) Aligned
    (λ t. cond_both (eqb h.count n) hs (record { start = h.start + n; count = h.count - n } ∷ hs) Aligned (λ u. a.2)
    (λ u. (sum_aligned h.start n a.0 m, rest_aligned h.count n a.1 m, a.2)))
    (λ t. (a.0, a.1, take_aligned n hs m a.2))

put_aligned : (place n : ℕ) (hs : List Hole) → place % 16 ≡ 0 → n % 16 ≡ 0 → Aligned hs → Aligned (put_before place n hs)
put_aligned place n [] p m a = (p, m, tt)
put_aligned place n (h ∷ hs) p m a =
    cond_both (eqb (place + n) h.start) (record { start = place; count = n + h.count } ∷ hs)
    (record { start = place; count = n } ∷ h ∷ hs) Aligned
    (λ t. (p, sum_aligned n h.count m a.1, a.2)) (λ t. (p, m, a))

pub give_aligned : (place n : ℕ) (hs : List Hole) → place % 16 ≡ 0 → n % 16 ≡ 0 → Aligned hs → Aligned (give_to place n hs)
give_aligned place n [] p m a = put_aligned place n [] p m a
give_aligned place n (h ∷ hs) p m a =
    cond_both (ltb h.start place) (cond (h.start + h.count == place) (put_before h.start (h.count + n) hs) (h ∷ give_to place n hs))
    (put_before place n (h ∷ hs)) Aligned
    (λ t. cond_both (eqb (h.start + h.count) place) (put_before h.start (h.count + n) hs) (h ∷ give_to place n hs) Aligned
    (λ u. put_aligned h.start (h.count + n) hs a.0 (sum_aligned h.count n a.1 m) a.2) (λ u. (a.0, a.1, give_aligned place n hs p m a.2)))
    (λ t. put_aligned place n (h ∷ hs) p m a)

-- the place that is found is one of a block
pub place_aligned : (n : ℕ) (hs : List Hole) (a : ℕ) → Aligned hs → first_fit n hs ≡ Some a → a % 16 ≡ 0
place_aligned n [] a al e = absurd (cc e)
place_aligned n (h ∷ hs) a al e = go (leb n h.count) (place_aligned n hs a al.2) e where
  go : (t : Bool) → (first_fit n hs ≡ Some a → a % 16 ≡ 0) → cond t (Some h.start) (first_fit n hs) ≡ Some a → a % 16 ≡ 0
  go true more f = let s : h.start ≡ a = cc f in subst (λ t. t % 16 ≡ 0) s al.0
  go false more f = more f

-- the block sizes after a change at a place
same_place : (a b : ℕ) → a % 16 ≡ 0 → b % 16 ≡ 0 → a / 16 ≡ b / 16 → a ≡ b
same_place a b x y e = omega arith

equal_is : (m n : ℕ) → m ≡ n → (m == n) ≡ true
equal_is m n e = grind (arith, e)

blocks_after : (holes holes' : List Hole) (sizes : List ℕ) (a v : ℕ) → a % 16 ≡ 0 → a / 16 < length sizes → (b : ℕ)
    → block_at (record { holes = holes'; sizes = set sizes (a / 16) v }) b
    ≡ cond (b == a) (size_in v) (block_at (record { holes = holes; sizes = sizes }) b)
blocks_after holes holes' sizes a v aligned inside b = elim (cases_eq b a) [
  | inl same ↦
      let here : slice_index (set sizes (a / 16) v) (b / 16) ≡ v = ap (λ t. slice_index (set sizes (a / 16) v) (t / 16)) same
      ∙ get_or-set_same sizes (a / 16) v 0 inside in
      let sixteen : (b % 16 == 0) ≡ true = equal_is (b % 16) 0 (ap (λ t. t % 16) same ∙ aligned) in
      ap (λ t. cond t (size_in (slice_index (set sizes (a / 16) v) (b / 16))) None) sixteen ∙ ap size_in here
      ∙ sym (ap (λ t. cond t (size_in v) (block_at (record { holes = holes; sizes = sizes }) b)) (equal_is b a same))
  | inr other ↦
      let apart : (b == a) ≡ false = ne_eqb b a other in
      other_is (b % 16 == 0) refl other ∙ sym (ap (λ t. cond t (size_in v) (block_at (record { holes = holes; sizes = sizes }) b)) apart)
] where
  other_is : (t : Bool) → (b % 16 == 0) ≡ t → b ≢ a
      → cond t (size_in (slice_index (set sizes (a / 16) v) (b / 16))) None ≡ cond t (size_in (slice_index sizes (b / 16))) None
  other_is false e other = refl
  other_is true e other =
      let sixteen : b % 16 ≡ 0 = grind (arith, e) in
      ap size_in (get_or-set_other sizes (a / 16) (b / 16) v 0 (λ same. other (same_place b a sixteen aligned same)))

-- where no hole fits nothing changes
pub none_left : (n : ℕ) (hs : List Hole) → first_fit n hs ≡ None → take_from n hs ≡ hs
none_left n [] e = refl
none_left n (h ∷ hs) e = go (leb n h.count) (none_left n hs) e where
  go : (t : Bool) → (first_fit n hs ≡ None → take_from n hs ≡ hs) → cond t (Some h.start) (first_fit n hs) ≡ None
      → cond t (cut h n hs) (h ∷ take_from n hs) ≡ h ∷ hs
  go true more f = absurd (cc f)
  go false more f = ap (λ t. h ∷ t) (more f)

pub after_none : (n : ℕ) (heap : Heap) → first_fit (block_bytes n) heap.holes ≡ None → after_take n heap ≡ heap
after_none n heap e = ap (λ o. with_block n o heap) e

-- the place that is found is in the region
pub place_inside : (holes : List Hole) (blocks : ℕ → Option ℕ) (n a : ℕ) → IsHeap holes blocks
    → first_fit (block_bytes n) holes ≡ Some a → a + block_bytes n ≤ heap_size
place_inside holes blocks n a is e = (take_heap holes blocks n a is e).inside a n (one_more_here blocks a n) where
  one_more_here : (blocks : ℕ → Option ℕ) (a n : ℕ) → one_more blocks a n a ≡ Some n
  one_more_here blocks a n = ap (λ t. cond t (Some n) (blocks a)) (equal_is a a refl)

pub place_found : (n a : ℕ) → a + block_bytes n ≤ heap_size → a / 16 < heap_places
place_found n a inside = omega arith

pub take_kept : (holes after : List Hole) (sizes : List ℕ) (n a v : ℕ)
    → IsHeap holes (block_at (record { holes = holes; sizes = sizes })) → Aligned holes → length sizes ≡ heap_places
    → first_fit (block_bytes n) holes ≡ Some a → after ≡ take_from (block_bytes n) holes → v ≡ suc n
    → IsHeap after (block_at (record { holes = after; sizes = set sizes (a / 16) v })) × Aligned after
take_kept holes after sizes n a v is aligned places found items one =
    let inside = place_found n a (place_inside holes (block_at (record { holes = holes; sizes = sizes })) n a is found) in
    let at = place_aligned (block_bytes n) holes a aligned found in
    let same : one_more (block_at (record { holes = holes; sizes = sizes })) a n ≡ block_at (record {
      holes = after;
      sizes = set sizes
          (a / 16) v;
    }) =
    λ i b. sym (blocks_after holes after sizes a v at (omega (arith, inside, places)) b
    ∙ ap (λ t. cond (b == a) (size_in t) (block_at (record { holes = holes; sizes = sizes }) b)) one) i in (
      subst (IsHeap after) same (subst (λ l. IsHeap l (one_more (block_at (record { holes = holes; sizes = sizes })) a n)) (sym items)
          (take_heap holes _ n a is found)),
      subst Aligned (sym items) (take_aligned (block_bytes n) holes (bytes_aligned n) aligned),
    )

pub give_kept : (holes after : List Hole) (sizes : List ℕ) (n a v : ℕ)
    → IsHeap holes (block_at (record { holes = holes; sizes = sizes })) → Aligned holes → length sizes ≡ heap_places
    → block_at (record { holes = holes; sizes = sizes }) a ≡ Some n → a % 16 ≡ 0 → after ≡ give_to a (block_bytes n) holes → v ≡ 0
    → IsHeap after (block_at (record { holes = after; sizes = set sizes (a / 16) v })) × Aligned after
give_kept holes after sizes n a v is aligned places found at items none =
    let inside = place_found n a (is.inside a n found) in
    let same : one_less (block_at (record { holes = holes; sizes = sizes })) a ≡ block_at (record {
      holes = after;
      sizes = set sizes
          (a / 16) v;
    }) =
    λ i b. sym (blocks_after holes after sizes a v at (omega (arith, inside, places)) b
    ∙ ap (λ t. cond (b == a) (size_in t) (block_at (record { holes = holes; sizes = sizes }) b)) none) i in (
      subst (IsHeap after) same (subst (λ l. IsHeap l (one_less (block_at (record { holes = holes; sizes = sizes })) a)) (sym items)
          (give_heap holes _ a n is found)),
      subst Aligned (sym items) (give_aligned a (block_bytes n) holes at (bytes_aligned n) aligned),
    )

-- no block is past the region
pub block_past : (holes : List Hole) (sizes : List ℕ) (place : ℕ) → length sizes ≡ heap_places → heap_size ≤ place
    → block_at (record { holes = holes; sizes = sizes }) place ≡ None
block_past holes sizes place len past =
    let over : length sizes ≤ place / 16 = omega (arith, len, past) in
    let none = ap size_in (get_or_past sizes (place / 16) 0 over) in
    cond_both (eqb (place % 16) 0) (size_in (slice_index sizes (place / 16))) None (λ t. t ≡ None) (λ t. none) (λ t. refl)

-- a live block begins at a multiple of 16
pub block_aligned : (heap : Heap) (place n : ℕ) → block_at heap place ≡ Some n → place % 16 ≡ 0
block_aligned heap place n e = go (place % 16 == 0) refl e where
  go : (t : Bool) → (place % 16 == 0) ≡ t → cond t (size_in (slice_index heap.sizes (place / 16))) None ≡ Some n → place % 16 ≡ 0
  go true f g = grind (arith, f)
  go false f g = absurd (cc g)

-- the heap that nothing was asked of
pub whole_is : (holes : List Hole) (sizes : List ℕ) (n : ℕ) → holes ≡ record { start = 0; count = heap_size } ∷ []
    → sizes ≡ replicate n 0 → n ≡ heap_places
    → record { holes = holes; sizes = sizes } ≡ whole_heap
unfolding no_sizes
whole_is holes sizes n a b e =
    let with_holes : List Hole → Heap = λ l. record { holes = l; sizes = sizes } in
    let with_sizes : List ℕ → Heap = λ l. record { holes = record { start = 0; count = heap_size } ∷ []; sizes = l } in
    ap with_holes a ∙ ap with_sizes (b ∙ ap (λ n. replicate n 0) e)
