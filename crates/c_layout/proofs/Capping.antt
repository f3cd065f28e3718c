-- Numbers that stop at one past the limit give the same as those that don't.
use Rattle.std.proofs.Common.{◌≡◌, ℕ, zero, suc, ◌+◌, ◌*◌, ◌<◌, ◌≤◌, max, List, [], ◌∷◌, ◌⊎◌, inl, inr, Bool, true, false, Option, None, Some, refl, ap, arith}
use Rattle.std.specs.Option.{option_map}
use Rattle.c_layout.specs.declared.types.Layout.{Layout}
use Rattle.c_layout.specs.declared.sizes.Placed.{Placed}
use Rattle.c_layout.specs.Layouts.{judged, repeated, aligned, end_of, last_place, greatest_size, greatest_align, aggregate, rounded}
use Rattle.c_layout.specs.Capped.{capped_size, capped, last_behind, placed_behind, placed, with_member, aggregate_of}

-- an alignment that a type may have
pub record IsFair (l : Layout) : Type 0 where
  pub positive : 0 < l.align
  pub small : l.align ≤ 8

pub data AreFair : List Layout → Type 0 where
  none : AreFair []
  some : {l : Layout} {ls : List Layout} → IsFair l → AreFair ls → AreFair (l ∷ ls)

alike : (x y : ℕ) → capped_size x ≡ capped_size y → (x ≡ y) ⊎ ((4194305 ≤ x) × (4194305 ≤ y))
alike x y e = grind arith

-- a size that was cut is past the limit exactly where the size is
within : (s : ℕ) (a : ℕ) → judged (Some (capped (record { size = s; align = a }))) ≡ judged (Some (record { size = s; align = a }))
within s a = grind arith

pub judged_capped : (o : Option Layout) → judged (option_map capped o) ≡ judged o
judged_capped None = refl
judged_capped (Some l) = within l.size l.align

product_cut : (s n : ℕ) → capped_size (capped_size s * n) ≡ capped_size (s * n)
product_cut s zero = grind arith
product_cut s (suc n) = grind arith

pub repeated-capped : (n : ℕ) (l : Layout) → capped (repeated n (capped l)) ≡ capped (repeated n l)
repeated-capped n l = let e = product_cut l.size n in cc

aligned_le : (x a : ℕ) → 0 < a → x ≤ aligned x a
aligned_le x a h = omega arith

aligned_alike : (x y a s t : ℕ) → 0 < a → capped_size x ≡ capped_size y → capped_size s ≡ capped_size t →
    capped_size (aligned x a + s) ≡ capped_size (aligned y a + t)
aligned_alike x y a s t h e f = elim (alike x y e) [
  | inl p ↦ let q : aligned x a ≡ aligned y a = ap (λ n. aligned n a) p in grind arith
  | inr p ↦ let u = aligned_le x a h in let v = aligned_le y a h in grind arith
]

pub end_of_alike : (ls : List Layout) (x y : ℕ) → AreFair ls → capped_size x ≡ capped_size y →
    capped_size (end_of x ls) ≡ capped_size (end_of y ls)
end_of_alike [] x y f e = e
end_of_alike (l ∷ ls) x y (some f fs) e = end_of_alike ls _ _ fs (aligned_alike x y l.align l.size l.size f.positive e refl)

last_place_alike : (l : Layout) (ls : List Layout) (x y : ℕ) → AreFair (l ∷ ls) → capped_size x ≡ capped_size y →
    capped_size (last_place x (l ∷ ls)) ≡ capped_size (last_place y (l ∷ ls))
last_place_alike l [] x y (some f fs) e = let z = aligned_alike x y l.align 0 0 f.positive e refl in grind arith
last_place_alike l (m ∷ ls) x y (some f fs) e = last_place_alike m ls _ _ fs (aligned_alike x y l.align l.size l.size f.positive e refl)

behind_cut : (place s : ℕ) → capped_size (place + s) ≡ capped_size (capped_size (capped_size place + capped_size s))
behind_cut place s = grind arith

last_with : (p : Placed) (l : Layout) (ls : List Layout) → AreFair ls →
    capped_size (last_behind p.last p.end (l ∷ ls)) ≡
    capped_size (last_behind (with_member p (capped l)).last (with_member p (capped l)).end ls)
last_with p l [] fs = grind arith
last_with p l (m ∷ ls) fs = last_place_alike m ls _ _ fs (behind_cut (aligned p.end l.align) l.size)

sizes_cut : (a b c : ℕ) → capped_size (max a (max b c)) ≡ capped_size (max (capped_size (max a (capped_size b))) c)
sizes_cut a b c = grind arith

greatest : (a b c : ℕ) → max a (max b c) ≡ max (max a b) c
greatest a b c = grind arith

-- placing one member and then the others
pub placed_behind-cons : (p : Placed) (l : Layout) (ls : List Layout) → AreFair ls →
    placed_behind p (l ∷ ls) ≡ placed_behind (with_member p (capped l)) ls
placed_behind-cons p l ls fs =
    let last = last_with p l ls fs in
    let end = end_of_alike ls _ _ fs (behind_cut (aligned p.end l.align) l.size) in
    let size = sizes_cut p.size l.size (greatest_size ls) in
    let align = greatest p.align l.align (greatest_align ls) in
    cc

pub placed_behind-nil : (p : Placed) → p.last ≤ 4194305 → p.end ≤ 4194305 → p.size ≤ 4194305 → 1 ≤ p.align →
    placed_behind p [] ≡ p
placed_behind-nil p a b c d =
    let last : capped_size p.last ≡ p.last = grind arith in
    let end : capped_size p.end ≡ p.end = grind arith in
    let size : capped_size (max p.size 0) ≡ p.size = grind arith in
    let align : max p.align 1 ≡ p.align = grind arith in
    let parts : placed_behind p [] ≡ record { last = p.last; end = p.end; size = p.size; align = p.align } = cc in
    parts

pub greatest_fair : {ls : List Layout} → AreFair ls → (1 ≤ greatest_align ls) × (greatest_align ls ≤ 8)
greatest_fair none = (omega arith, omega arith)
greatest_fair (some f fs) = let h = greatest_fair fs in (omega arith, omega arith)

rounded_cut : (size align : ℕ) → 0 < align → capped (rounded (capped_size size) align) ≡ capped (rounded size align)
rounded_cut size align h =
    let e : capped_size (aligned (capped_size size) align + 0) ≡ capped_size (aligned size align + 0) =
    aligned_alike (capped_size size) size align 0 0 h (grind arith) refl in
    let f : capped_size (aligned (capped_size size) align) ≡ capped_size (aligned size align) = grind arith in
    cc

structure_cut : (ls : List Layout) → AreFair ls →
    capped (rounded (placed ls).end (placed ls).align) ≡ capped (aggregate false ls)
structure_cut ls fs =
    let h = greatest_fair fs in
    let e : max 1 (greatest_align ls) ≡ greatest_align ls = grind arith in
    let f = rounded_cut (end_of 0 ls) (greatest_align ls) h.0 in
    cc

union_cut : (ls : List Layout) → AreFair ls →
    capped (rounded (placed ls).size (placed ls).align) ≡ capped (aggregate true ls)
union_cut ls fs =
    let h = greatest_fair fs in
    let e : max 1 (greatest_align ls) ≡ greatest_align ls = grind arith in
    let g : max 0 (greatest_size ls) ≡ greatest_size ls = grind arith in
    let f = rounded_cut (greatest_size ls) (greatest_align ls) h.0 in
    cc

pub aggregate_cut : (u : Bool) (ls : List Layout) → AreFair ls → capped (aggregate_of u (placed ls)) ≡ capped (aggregate u ls)
aggregate_cut false ls fs = structure_cut ls fs
aggregate_cut true ls fs = union_cut ls fs
