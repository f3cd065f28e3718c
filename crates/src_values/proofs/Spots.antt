-- What a spot tells of an operation.
use Rattle.std.proofs.Common.{◌≡◌, ℕ, zero, suc, ◌+◌, ◌<◌, ◌≤◌, Bool, true, false, not, ◌&&◌, ◌||◌, ltb, List, [], ◌∷◌, ◌-◌, length, take, drop, get_or, set, Result, Ok, Err, refl, sym, ap, ◌∙◌, subst, arith, drop-cons}
use Rattle.std.specs.Prelude.{if◌then◌else◌, ℤ, pos, negsuc, ◌+ℤ◌, nat_abs}
use Rattle.std.proofs.lemmas.Bool.{leb-true, lt-ltb}
use Rattle.std.proofs.lemmas.Int.{ints}
use Rattle.std.specs.List.{list_any}
use Rattle.fc_base.specs.Widths.{width_bytes}
use Rattle.fc_base.specs.declared.levels.Width.{Width}
use Rattle.fc_base.specs.declared.undefined.UndefKind.{UndefKind}
use Rattle.fc_base.specs.declared.undefined.UndefKind.TheVariants as kind
use Rattle.library_meaning.specs.Memory.{put}
use Rattle.library_meaning.specs.Scan.{and_then}
use Rattle.object_meaning.specs.Cells.{byte_then, bytes_in, number_of, is_uninit, pointer_from, pointer_in}
use Rattle.object_meaning.specs.Memory.{IsMemory, load_cells, load, load_pointer, store_cells}
use Rattle.object_meaning.specs.Objects.{Object, object_at, is_live, size_at, cells_behind, with_cells, put_cells}
use Rattle.object_meaning.specs.Touches.{test, tested, lies_in, touch_tests, cells_from, put_at}
use Rattle.object_meaning.specs.declared.values.Cell.{Cell}
use Rattle.object_meaning.specs.declared.values.Cell.TheVariants.{Byte, Uninit, Part}
use Rattle.object_meaning.specs.declared.values.Ptr.{Ptr}
use Rattle.object_meaning.specs.declared.values.PtrValue.{PtrValue}
use Rattle.object_meaning.specs.declared.values.PtrValue.TheVariants.{Null, At}
use Rattle.object_meaning.proofs.Validity.{live_there}
use Rattle.src_values.specs.Numbers.{digit_then, number_in}
use Rattle.src_values.specs.Parts.{pointer_by}
use Rattle.src_values.specs.Spots.{spot_for}
use Rattle.src_values.specs.declared.copies.Spot.{Spot}

same_tests : {X : Type 0} (live within written writable some : Bool) (spot : Spot) (r : Result X UndefKind) → some ≡ true
    → tested (test (not live || false) kind.DeadObject ∷ test ((false && some) || false) kind.NullPointer ∷ test
    (not within || false) kind.OutOfObject ∷ test ((written && (not writable && some)) || false) kind.ReadOnly ∷ []) r
    ≡ and_then (if live then (if within then (if written && not writable then Err kind.ReadOnly else Ok spot) else Err kind.OutOfObject)
    else Err kind.DeadObject) (λ s. r)
same_tests false within written writable some spot r e = refl
same_tests true false written writable some spot r e = refl
same_tests true true false writable some spot r e = refl
same_tests true true true true some spot r e = refl
same_tests true true true false true spot r e = refl
same_tests true true true false false spot r e = absurd (cc)

tested_by : {X : Type 0} (objs : List Object) (written : Bool) (v : PtrValue) (n : ℕ) (r : Result X UndefKind) → 0 < n
    → tested (touch_tests objs (record { written = written; pointer = v; offset = 0; count = n } ∷ [])) r
    ≡ and_then (spot_for objs written v n) (λ s. r)
tested_by objs written (Null claim) n r l = rw (lt-ltb 0 n l) refl
tested_by objs written (At p) n r l =
    let none : p.offset +ℤ pos 0 ≡ p.offset = omega (arith, ints) in
    rw none (same_tests (is_live objs p.object) (lies_in (size_at objs p.object) p.offset n) written (object_at objs p.object).writable
    (ltb 0 n) (record { object = p.object; start = nat_abs p.offset }) r (lt-ltb 0 n l))

-- where a spot is
pub record SpotIs (objs : List Object) (v : PtrValue) (n : ℕ) (spot : Spot) : Type 0 where
  pub live : is_live objs spot.object ≡ true
  pub fits : spot.start + n ≤ size_at objs spot.object
  pub cells : cells_from objs v 0 ≡ drop spot.start (object_at objs spot.object).cells
  pub put : (new : List Cell) → put_at objs v 0 new ≡ put_cells objs spot.object (pos spot.start) new

abbrev spot_at : Ptr → Spot
spot_at p = record { object = p.object; start = nat_abs p.offset }

pub spot_tells : (objs : List Object) (written : Bool) (v : PtrValue) (n : ℕ) (spot : Spot) → spot_for objs written v n ≡ Ok spot
    → SpotIs objs v n spot
spot_tells objs written (Null claim) n spot e = absurd (cc)
spot_tells objs written (At p) n spot e = go (is_live objs p.object) (lies_in (size_at objs p.object) p.offset n)
    (written && not (object_at objs p.object).writable) refl refl e
  where
    here : (z : ℤ) → p.offset ≡ z → is_live objs p.object ≡ true → lies_in (size_at objs p.object) z n ≡ true
        → SpotIs objs (At p) n (record { object = p.object; start = nat_abs z })
    here (pos k) f l w =
        let same : p.offset +ℤ pos 0 ≡ pos k = omega (arith, ints, f) in
        record {
          live = l;
          fits = leb-true _ _ w;
          cells = ap (cells_behind (object_at objs p.object).cells) same;
          put = λ new. ap (λ z. put_cells objs p.object z new) same;
        }
    here (negsuc k) f l w = absurd (cc)

    go : (live within fixed : Bool) → is_live objs p.object ≡ live → lies_in (size_at objs p.object) p.offset n ≡ within
        → (if live then (if within then (if fixed then Err kind.ReadOnly
        else Ok (record { object = p.object; start = nat_abs p.offset })) else Err kind.OutOfObject) else Err kind.DeadObject)
        ≡ Ok spot → SpotIs objs (At p) n spot
    go false within fixed l w e = absurd (cc)
    go true false fixed l w e = absurd (cc)
    go true true true l w e = absurd (cc)
    go true true false l w e = let same : spot_at p ≡ spot = cc in subst (SpotIs objs (At p) n) same (here p.offset refl l w)

-- a number is that of its bytes
digits_are : (c : Cell) (r : Result (List ℕ) UndefKind)
    → and_then (byte_then c r) (λ bytes. Ok (number_of bytes)) ≡ digit_then c (and_then r (λ bytes. Ok (number_of bytes)))
digits_are (Byte b) (Ok bytes) = refl
digits_are (Byte b) (Err e) = refl
digits_are Uninit r = refl
digits_are (Part p k) (Ok bytes) = refl
digits_are (Part p k) (Err e) = refl

pub number_is : (cells : List Cell) → and_then (bytes_in cells) (λ bytes. Ok (number_of bytes)) ≡ number_in cells
number_is [] = refl
number_is (c ∷ cs) = digits_are c (bytes_in cs) ∙ ap (digit_then c) (number_is cs)

-- loads
load_cells_is : (objs : List Object) (v : PtrValue) (n : ℕ) (r : Result Spot UndefKind) → 0 < n → spot_for objs false v n ≡ r
    → load_cells objs v n ≡ and_then r (λ s. Ok (take n (cells_from objs v 0)))
load_cells_is objs v n r l e = tested_by objs false v n (Ok (take n (cells_from objs v 0))) l
    ∙ ap (λ x. and_then x (λ s. Ok (take n (cells_from objs v 0)))) e

pub load_is : (objs : List Object) (v : PtrValue) (width : Width) (spot : Spot) → 0 < width_bytes width
    → spot_for objs false v (width_bytes width) ≡ Ok spot
    → load objs v width ≡ number_in (take (width_bytes width) (drop spot.start (object_at objs spot.object).cells))
load_is objs v width spot l e =
    let s = spot_tells objs false v (width_bytes width) spot e in
    ap (λ x. and_then x (λ cells. and_then (bytes_in cells) (λ bytes. Ok (number_of bytes))))
    (load_cells_is objs v (width_bytes width) (Ok spot) l e)
    ∙ number_is (take (width_bytes width) (cells_from objs v 0)) ∙ ap (λ cs. number_in (take (width_bytes width) cs)) s.cells

pub load_stops : (objs : List Object) (v : PtrValue) (width : Width) (k : UndefKind) → 0 < width_bytes width
    → spot_for objs false v (width_bytes width) ≡ Err k → load objs v width ≡ Err k
load_stops objs v width k l e = ap (λ x. and_then x (λ cells. and_then (bytes_in cells) (λ bytes. Ok (number_of bytes))))
    (load_cells_is objs v (width_bytes width) (Err k) l e)

pub load_pointer_is : (objs : List Object) (v : PtrValue) (spot : Spot) → spot_for objs false v 8 ≡ Ok spot
    → load_pointer objs v ≡ pointer_in (take 8 (drop spot.start (object_at objs spot.object).cells))
load_pointer_is objs v spot e =
    let s = spot_tells objs false v 8 spot e in
    ap (λ x. and_then x pointer_in) (load_cells_is objs v 8 (Ok spot) (omega arith) e) ∙ ap (λ cs. pointer_in (take 8 cs)) s.cells

pub load_pointer_stops : (objs : List Object) (v : PtrValue) (k : UndefKind) → spot_for objs false v 8 ≡ Err k → load_pointer objs v ≡ Err k
load_pointer_stops objs v k e = ap (λ x. and_then x pointer_in) (load_cells_is objs v 8 (Err k) (omega arith) e)

-- stores
pub store_cells_is : (objs : List Object) (v : PtrValue) (new : List Cell) (n : ℕ) (spot : Spot) → length new ≡ n → 0 < n
    → spot_for objs true v n ≡ Ok spot → store_cells objs v new ≡ Ok (put_cells objs spot.object (pos spot.start) new)
store_cells_is objs v new n spot same l e =
    let s = spot_tells objs true v n spot e in
    tested_by objs true v (length new) (Ok (put_at objs v 0 new)) (omega (arith, l, same))
    ∙ ap (λ x. and_then x (λ s. Ok (put_at objs v 0 new))) (ap (spot_for objs true v) same ∙ e) ∙ ap Ok (s.put new)

pub store_cells_stops : (objs : List Object) (v : PtrValue) (new : List Cell) (n : ℕ) (k : UndefKind) → length new ≡ n → 0 < n
    → spot_for objs true v n ≡ Err k → store_cells objs v new ≡ Err k
store_cells_stops objs v new n k same l e =
    tested_by objs true v (length new) (Ok (put_at objs v 0 new)) (omega (arith, l, same))
    ∙ ap (λ x. and_then x (λ s. Ok (put_at objs v 0 new))) (ap (spot_for objs true v) same ∙ e)

-- the object of a spot, as it was found
pub get_or_any : {X : Type 0} (xs : List X) (i : ℕ) (d e : X) → i < length xs → get_or xs i d ≡ get_or xs i e
get_or_any [] i d e l = absurd (omega arith)
get_or_any (x ∷ xs) zero d e l = refl
get_or_any (x ∷ xs) (suc i) d e l = get_or_any xs i d e (omega arith)

pub there : (items objs : List Object) (o : ℕ) → items ≡ objs → is_live objs o ≡ true → o < length items
there items objs o same l = live_there items o (ap (λ xs. is_live xs o) same ∙ l)

pub found : (items objs : List Object) (o : ℕ) (x : Object) → items ≡ objs → x ≡ object_at items o → x ≡ object_at objs o
found items objs o x same e = e ∙ ap (λ xs. object_at xs o) same

pub room_in : (items objs : List Object) (o start n : ℕ) (x : Object) → IsMemory items → items ≡ objs → is_live objs o ≡ true
    → start + n ≤ size_at objs o → x ≡ object_at items o → start + n ≤ length x.cells
room_in items objs o start n x w same l fits e =
    let full = (subst IsMemory same w).full o l in
    let is = ap (λ (y : Object). length y.cells) (found items objs o x same e) in
    omega (arith, full, is, fits)

-- the next of the cells that are read
pub take_next : (cells : List Cell) (at n : ℕ) → 0 < n → at < length cells
    → take n (drop at cells) ≡ get_or cells at Uninit ∷ take (n - 1) (drop (at + 1) cells)
take_next cells at n l there =
    let e : n ≡ suc (n - 1) = omega (arith, l) in
    let f : at + 1 ≡ suc at = omega arith in
    ap (λ xs. take n xs) (drop-cons cells at Uninit there) ∙ ap (λ k. take k (get_or cells at Uninit ∷ drop (suc at) cells)) e
    ∙ ap (λ k. get_or cells at Uninit ∷ take (n - 1) (drop k cells)) (sym f)

-- the objects with one that was found and written
pub written_is : (items objs : List Object) (o start : ℕ) (x y : Object) (new : List Cell) → items ≡ objs
    → x ≡ object_at items o → y ≡ with_cells x (put start new x.cells) → set items o y ≡ put_cells objs o (pos start) new
written_is items objs o start x y new same e w =
    ap (λ xs. set xs o y) same ∙ ap (set objs o) (w
    ∙ ap (λ (z : Object). with_cells z (put start new z.cells)) (found items objs o x same e))

-- of the cells that are read, the first says what kind of pointer they are
pub pointer_by_first : (cells : List Cell) (at : ℕ) → at < length cells → list_any is_uninit (take 8 (drop at cells)) ≡ false
    → pointer_in (take 8 (drop at cells)) ≡ pointer_by (get_or cells at Uninit) (take 8 (drop at cells))
pointer_by_first cells at there none =
    let first = take_next cells at 8 (omega arith) there in
    rw none (rw first (by_first (get_or cells at Uninit) (take 7 (drop (at + 1) cells))))
  where
    by_first : (c : Cell) (cs : List Cell) → pointer_from (c ∷ cs) ≡ pointer_by c (c ∷ cs)
    by_first (Byte b) cs = refl
    by_first Uninit cs = refl
    by_first (Part p k) cs = refl
