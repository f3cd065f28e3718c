-- The order of two lists of bytes, as std's slices have it.
use Rattle.std.proofs.Common.{◌≡◌, ◌≢◌, ℕ, zero, suc, ◌≤◌, Ordering, Less, Equal, Greater, Bool, true, false, cond, eqb, ltb, List, [], ◌∷◌, length, take, drop, refl, arith}
use Rattle.std.specs.Prelude.{if◌then◌else◌}
use Rattle.std.specs.Ordering.{nat_cmp, ordering_then}
use Rattle.std.specs.Cmp.Lexicographic.{slice_cmp}
use Rattle.std.proofs.lemmas.Bool.{eqb-true, eqb-false, ltb-true, ltb-false, lt-ltb}
use Rattle.library_meaning.specs.Table.{order, order_of, no_limit}

abbrev pub number_of : Ordering → ℕ
number_of Less = no_limit
number_of Equal = 0
number_of Greater = 1

pub order_is : (xs ys : List ℕ) → length xs ≡ length ys → number_of (slice_cmp nat_cmp xs ys) ≡ order_of xs ys
order_is [] [] long = refl
order_is [] (y ∷ ys) long = absurd (omega (arith, long))
order_is (x ∷ xs) [] long = absurd (omega (arith, long))
order_is (x ∷ xs) (y ∷ ys) long = go (ltb x y) (eqb x y) refl refl (order_is xs ys (omega (arith, long)))
  where
    go : (t u : Bool) → ltb x y ≡ t → eqb x y ≡ u → number_of (slice_cmp nat_cmp xs ys) ≡ order_of xs ys
        → number_of (ordering_then (cond t Less (cond u Equal Greater)) (slice_cmp nat_cmp xs ys)) ≡ (if u then order_of xs ys else (if t then no_limit else (if ltb y x then 1 else 0)))
    go true true e f rest = let a = ltb-true x y e in let b = eqb-true x y f in absurd (omega (arith, a, b))
    go true false e f rest = refl
    go false true e f rest = rest
    go false false e f rest = let a = ltb-false x y e in let b = eqb-false x y f in rw (lt-ltb y x (omega (arith, a, b))) refl

-- where the fronts differ, they decide
pub order_front : (w : ℕ) (xs ys : List ℕ) → order_of (take w xs) (take w ys) ≢ 0 → order_of xs ys ≡ order_of (take w xs) (take w ys)
order_front zero xs ys h = absurd (h refl)
order_front (suc w) [] ys h = absurd (h refl)
order_front (suc w) (x ∷ xs) [] h = absurd (h refl)
order_front (suc w) (x ∷ xs) (y ∷ ys) h = go (eqb x y) (order_front w xs ys) h
  where
    go : (t : Bool) → (order_of (take w xs) (take w ys) ≢ 0 → order_of xs ys ≡ order_of (take w xs) (take w ys))
        → (if t then order_of (take w xs) (take w ys) else order x y) ≢ 0
        → (if t then order_of xs ys else order x y) ≡ (if t then order_of (take w xs) (take w ys) else order x y)
    go true more h = more h
    go false more h = refl

unequal : (x y : ℕ) → eqb x y ≡ false → order x y ≡ 0 → ⊥
unequal x y e = go (ltb x y) (ltb y x) refl refl
  where
    go : (v w : Bool) → ltb x y ≡ v → ltb y x ≡ w → (if v then no_limit else (if w then 1 else 0)) ≡ 0 → ⊥
    go true w f g h = absurd (omega (arith, h))
    go false true f g h = absurd (omega (arith, h))
    go false false f g h = let a = ltb-false x y f in let b = ltb-false y x g in eqb-false x y e (omega (arith, a, b))

-- where they don't, what stands behind some part of them decides
pub order_behind : (j w : ℕ) (xs ys : List ℕ) → length xs ≡ length ys → j ≤ w → order_of (take w xs) (take w ys) ≡ 0 → order_of xs ys ≡ order_of (drop j xs) (drop j ys)
order_behind zero w xs ys long le h = refl
order_behind (suc j) zero xs ys long le h = absurd (omega arith)
order_behind (suc j) (suc w) [] [] long le h = refl
order_behind (suc j) (suc w) [] (y ∷ ys) long le h = absurd (omega (arith, long))
order_behind (suc j) (suc w) (x ∷ xs) [] long le h = absurd (omega (arith, long))
order_behind (suc j) (suc w) (x ∷ xs) (y ∷ ys) long le h = go (eqb x y) refl (order_behind j w xs ys (omega (arith, long)) (omega (arith, le))) h
  where
    go : (t : Bool) → eqb x y ≡ t → (order_of (take w xs) (take w ys) ≡ 0 → order_of xs ys ≡ order_of (drop j xs) (drop j ys))
        → (if t then order_of (take w xs) (take w ys) else order x y) ≡ 0
        → (if t then order_of xs ys else order x y) ≡ order_of (drop j xs) (drop j ys)
    go true e more h = more h
    go false e more h = absurd (unequal x y e h)
