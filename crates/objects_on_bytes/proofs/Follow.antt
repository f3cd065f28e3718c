-- Each act on bytes follows the act on objects.
use Rattle.std.proofs.Common.{◌≡◌, ◌≢◌, ℕ, zero, suc, ◌+◌, ◌-◌, ◌<◌, ◌≤◌, Bool, true, false, not, ◌||◌, ◌&&◌, ◌⊎◌, inl, inr, eqb, leb, ltb, List, [], ◌∷◌, length, map, get_or, take, drop, ⊎_elim, Result, Ok, Err, refl, sym, ap, ◌∙◌, subst, arith}
use Rattle.std.specs.Prelude.{if◌then◌else◌, ℤ, pos, negsuc, ◌+ℤ◌}
use Rattle.std.specs.List.{list_any}
use Rattle.std.proofs.Math.Bool.{and-false}
use Rattle.std.proofs.Math.Nat.{add-zero}
use Rattle.std.proofs.lemmas.Bool.{not-false, ltb-false, leb-true, le-leb, eqb-true, eq-eqb, cases_eq}
use Rattle.std.proofs.lemmas.Int.{ints}
use Rattle.std.proofs.lemmas.List.{get_or-take, get_or-drop, length-take, length-drop, length-map, take-append-drop, nil_from_length}
use Rattle.fc_base.specs.declared.undefined.UndefKind.TheVariants as kind
use Rattle.run_meaning.specs.Worlds.{AreBytes}
use Rattle.library_meaning.specs.Memory.{first_valid, memory_size, are_valid, bytes_at, put}
use Rattle.library_meaning.specs.OnBytes.{bytes_from as memory_from, address, byte_look, is_valid, all_valid, meets, meets_any, valid_then, flat_bytes, flat_store}
use Rattle.library_meaning.specs.Rows.{Stretch, stretch, Touched, Stored, These, Cells}
use Rattle.library_meaning.specs.Scan.{at_limit, scan, scan_both}
use Rattle.library_meaning.specs.declared.stops.HostStop.{HostStop}
use Rattle.library_meaning.specs.declared.stops.HostStop.TheVariants as host
use Rattle.library_meaning.proofs.Meets.{no_meet, meet_none}
use Rattle.object_meaning.specs.Cells.{byte_at, bytes_in}
use Rattle.object_meaning.specs.Memory.{IsCell}
use Rattle.object_meaning.specs.Objects.{Object, object_at, is_live, size_at, cells_behind, put_cells}
use Rattle.object_meaning.specs.OnObjects.{operand, as_pointer, pointer_at, reach_of, reading, writing, touched_tests, stretch_cells, all_cells, scan_tests, text_from, bytes_from, both_from, point_tests, meets_behind, overlap, overlaps_any, apart_tests, store_at}
use Rattle.object_meaning.specs.Touches.{Test, test, tested, is_null, is_dead, Reach, touches, is_out, touch_tests, cells_from, put_at}
use Rattle.object_meaning.specs.declared.values.Cell.{Cell}
use Rattle.object_meaning.specs.declared.values.Cell.TheVariants.{Byte, Uninit, Part}
use Rattle.object_meaning.specs.declared.values.Ptr.{Ptr}
use Rattle.object_meaning.specs.declared.values.PtrValue.{PtrValue}
use Rattle.object_meaning.specs.declared.values.PtrValue.TheVariants.{Null, At}
use Rattle.object_meaning.specs.declared.values.Value.{Value}
use Rattle.object_meaning.specs.declared.values.Value.TheVariants as value
use Rattle.objects_on_bytes.specs.Calls.{ValuesAre}
use Rattle.objects_on_bytes.specs.Relation.{CellIs, address_of, ValueIs, Memories}
use Rattle.objects_on_bytes.specs.Rows.{StoresBytes}
use Rattle.object_meaning.proofs.Stores.{start_of}
use Rattle.object_meaning.proofs.Tested.{AllPass, or_left, or_right}
use Rattle.objects_on_bytes.proofs.Acts.{Does, does_tested, Match, match_from, CellSmall, Small, small_from, FoundIs, nothing_read, scan_follows, PairIs, both_follow, BytesAre, bytes_in_follows}
use Rattle.object_meaning.proofs.Puts.{length-put}
use Rattle.objects_on_bytes.proofs.Stores.{Kept, put_follows}

-- a number that stands for a place; nothing is said of null
abbrev pub PlaceIs : (ℕ → ℕ) → (ℕ → Bool) → PtrValue → ℕ → Type 0
PlaceIs at alive (Null claim) r = Unit {0}
PlaceIs at alive (At p) r = alive p.object ≡ true → pos r ≡ address_of at p

place_is : (at : ℕ → ℕ) (alive : ℕ → Bool) (v : Value) (r : ℕ) → ValueIs at alive v r → PlaceIs at alive (as_pointer v) r
place_is at alive (value.Int n) r h = tt
place_is at alive (value.Pointer (Null claim)) r h = tt
place_is at alive (value.Pointer (At p)) r h = h
place_is at alive value.Uninit r h = tt
place_is at alive value.Nothing r h = tt

-- an object's cells from a place on are the machine's bytes from its address on
module _ (at : ℕ → ℕ) (objs : List Object) (m : List ℕ) (k : Memories at objs m) where
  cell_length : (o off : ℕ) → is_live objs o ≡ true → length (drop off (object_at objs o).cells) ≡ size_at objs o - off
  cell_length o off l = let n = k.is_memory.full o l in omega (arith, n, length-drop off (object_at objs o).cells)

  low : (o off : ℕ) → is_live objs o ≡ true → leb first_valid (at o + off) ≡ true
  low o off l = let a = k.corresponds.layout.above o l in le-leb _ _ (omega (arith, a))

  from_is : (o off : ℕ) → is_live objs o ≡ true → memory_from m (at o + off) ≡ drop (at o + off) m
  from_is o off l = rw (low o off l) refl

  drop_match : (o off : ℕ) → is_live objs o ≡ true → Match at (is_live objs) (drop off (object_at objs o).cells) (drop (at o + off) m)
  drop_match o off l =
      let below = k.corresponds.layout.below o l in
      let n = cell_length o off l in
      let size = k.size in
      match_from at (is_live objs) _ _ (omega (arith, n, below, size, length-drop (at o + off) m)) (λ i lt.
      let e : at o + off + i ≡ at o + (off + i) = omega arith in
      rw (get_or-drop off (object_at objs o).cells i Uninit, get_or-drop (at o + off) m i 0, e) (k.corresponds.cells o (off + i) l (omega (arith, n))))

  small_of : (c : Cell) → IsCell objs c → CellSmall c
  small_of (Byte v) f = f
  small_of Uninit f = tt
  small_of (Part p j) f = tt

  drop_small : (o off : ℕ) → is_live objs o ≡ true → Small (drop off (object_at objs o).cells)
  drop_small o off l =
      let n = cell_length o off l in
      small_from _ (λ i lt. small_of (get_or (drop off (object_at objs o).cells) i Uninit) (rw (get_or-drop off (object_at objs o).cells i Uninit) (k.is_memory.cells o (off + i) l (omega (arith, n)))))

  part_length : (o off n : ℕ) → is_live objs o ≡ true → off + n ≤ size_at objs o → length (take n (drop off (object_at objs o).cells)) ≡ n
  part_length o off n l b = omega (arith, cell_length o off l, length-take n (drop off (object_at objs o).cells))

  bytes_length : (o off n : ℕ) → is_live objs o ≡ true → off + n ≤ size_at objs o → length (bytes_at m (at o + off) n) ≡ n
  bytes_length o off n l b =
      let below = k.corresponds.layout.below o l in
      let size = k.size in
      omega (arith, below, size, length-take n (drop (at o + off) m), length-drop (at o + off) m)

  part_match : (o off n : ℕ) → is_live objs o ≡ true → off + n ≤ size_at objs o → Match at (is_live objs) (take n (drop off (object_at objs o).cells)) (bytes_at m (at o + off) n)
  part_match o off n l b =
      let cs = part_length o off n l b in
      let bs = bytes_length o off n l b in
      match_from at (is_live objs) _ _ (omega (arith, cs, bs)) (λ i lt.
      let e : at o + off + i ≡ at o + (off + i) = omega arith in
      let under : i < n = omega (arith, cs) in
      rw (get_or-take n (drop off (object_at objs o).cells) i Uninit under, get_or-drop off (object_at objs o).cells i Uninit, get_or-take n (drop (at o + off) m) i 0 under, get_or-drop (at o + off) m i 0, e) (k.corresponds.cells o (off + i) l (omega arith)))

  part_cells : (o off n : ℕ) → is_live objs o ≡ true → off + n ≤ size_at objs o → (i : ℕ) → i < n → IsCell objs (get_or (take n (drop off (object_at objs o).cells)) i Uninit)
  part_cells o off n l b i lt =
      rw (get_or-take n (drop off (object_at objs o).cells) i Uninit lt, get_or-drop off (object_at objs o).cells i Uninit) (k.is_memory.cells o (off + i) l (omega arith))

  part_small : (o off n : ℕ) → is_live objs o ≡ true → off + n ≤ size_at objs o → Small (take n (drop off (object_at objs o).cells))
  part_small o off n l b =
      let cs = part_length o off n l b in
      small_from _ (λ i lt. small_of (get_or (take n (drop off (object_at objs o).cells)) i Uninit) (part_cells o off n l b i (omega (arith, cs))))

  -- where bytes lie that are j behind a place
  pub record Spot (p : Ptr) (j n r : ℕ) : Type 0 where
    pub start : ℕ
    pub offset : p.offset +ℤ pos j ≡ pos start
    pub fits : start + n ≤ size_at objs p.object
    pub address : r + j ≡ at p.object + start

  spot_of : (p : Ptr) (j n r : ℕ) → pos r ≡ address_of at p → is_out objs j n (At p) ≡ false → Spot p j n r
  spot_of p j n r is inside =
      let s = start_of objs p j n inside in
      let e = s.is in
      record { start = s.start; offset = e; fits = s.fits; address = omega (arith, ints, is, e) }

  module _ (args : List Value) (numbers : List ℕ) (values : ValuesAre at (is_live objs) args numbers) where
    places : (i : ℕ) → PlaceIs at (is_live objs) (pointer_at args i) (get_or numbers i 0)
    places i = place_is at (is_live objs) (operand args i) (get_or numbers i 0) (values i)

    -- a scan
    text_at : (stops : ℕ → Bool) (n j r : ℕ) (v : PtrValue) → eqb n 0 ≡ false → PlaceIs at (is_live objs) v r → AllPass (scan_tests objs v) → Does FoundIs (scan byte_at kind.OutOfObject stops n (cells_from objs v j)) (scan byte_look host.BadAddress stops n (memory_from m (r + j)))
    text_at stops n j r (Null claim) some is a = let b = a.1.0 in absurd (cc)
    text_at stops n j r (At p) some is a = go (p.offset +ℤ pos j) refl
      where
        l : is_live objs p.object ≡ true
        l = not-false _ a.0

        go : (z : ℤ) → p.offset +ℤ pos j ≡ z → Does FoundIs (scan byte_at kind.OutOfObject stops n (cells_behind (object_at objs p.object).cells z)) (scan byte_look host.BadAddress stops n (memory_from m (r + j)))
        go (negsuc q) e = subst (λ t. Does FoundIs (if t then Ok at_limit else Err kind.OutOfObject) (scan byte_look host.BadAddress stops n (memory_from m (r + j)))) (sym some) tt
        go (pos q) e =
            let place : r + j ≡ at p.object + q = let i = is l in omega (arith, ints, i, e) in
            rw (place, from_is p.object q l) (scan_follows at (is_live objs) stops n _ _ (drop_match p.object q l) (drop_small p.object q l))

    pub text_follows : (stops : ℕ → Bool) (s : Stretch) → Does FoundIs (text_from args objs stops s) (scan byte_look host.BadAddress stops s.count (memory_from m (address numbers s.operand s.offset)))
    text_follows stops s = go (eqb s.count 0) refl
      where
        go : (t : Bool) → eqb s.count 0 ≡ t → Does FoundIs (if t then Ok at_limit else tested (scan_tests objs (pointer_at args s.operand)) (scan byte_at kind.OutOfObject stops s.count (cells_from objs (pointer_at args s.operand) s.offset))) (scan byte_look host.BadAddress stops s.count (memory_from m (address numbers s.operand s.offset)))
        go true e = (at_limit, nothing_read byte_look host.BadAddress stops s.count _ e, (refl, tt))
        go false e = does_tested FoundIs (scan_tests objs (pointer_at args s.operand)) _ _ (λ a. text_at stops s.count s.offset (get_or numbers s.operand 0) (pointer_at args s.operand) e (places s.operand) a)

    abbrev both_tests : PtrValue → PtrValue → List Test
    both_tests u v = test (is_dead objs u || is_dead objs v) kind.DeadObject ∷ test (is_null u || is_null v) kind.NullPointer ∷ []

    both_at : (u v : PtrValue) (r q : ℕ) → PlaceIs at (is_live objs) u r → PlaceIs at (is_live objs) v q → AllPass (both_tests u v) → Does PairIs (scan_both byte_at kind.OutOfObject (cells_from objs u 0) (cells_from objs v 0)) (scan_both byte_look host.BadAddress (memory_from m (r + 0)) (memory_from m (q + 0)))
    both_at (Null claim) v r q is it a = let b = a.1.0 in absurd (cc)
    both_at (At p) (Null claim) r q is it a = let b = a.1.0 in absurd (cc)
    both_at (At p) (At o) r q is it a = left (p.offset +ℤ pos 0) refl
      where
        l : is_live objs p.object ≡ true
        l = not-false _ (or_left (not (is_live objs p.object)) (not (is_live objs o.object)) a.0)

        h : is_live objs o.object ≡ true
        h = not-false _ (or_right (not (is_live objs p.object)) (not (is_live objs o.object)) a.0)

        right : (x : ℕ) → p.offset +ℤ pos 0 ≡ pos x → (y : ℤ) → o.offset +ℤ pos 0 ≡ y → Does PairIs (scan_both byte_at kind.OutOfObject (drop x (object_at objs p.object).cells) (cells_behind (object_at objs o.object).cells y)) (scan_both byte_look host.BadAddress (memory_from m (r + 0)) (memory_from m (q + 0)))
        right x e (pos y) f =
            let first : r + 0 ≡ at p.object + x = let i = is l in omega (arith, ints, i, e) in
            let second : q + 0 ≡ at o.object + y = let i = it h in omega (arith, ints, i, f) in
            rw (first, second, from_is p.object x l, from_is o.object y h) (both_follow at (is_live objs) _ _ _ _ (drop_match p.object x l) (drop_match o.object y h))
        right x e (negsuc y) f = no_second (drop x (object_at objs p.object).cells) _
          where
            no_second : (cs : List Cell) (r : Result _ HostStop) → Does PairIs (scan_both byte_at kind.OutOfObject cs []) r
            no_second [] r = tt
            no_second (Byte b ∷ cs) r = tt
            no_second (Uninit ∷ cs) r = tt
            no_second (Part t j ∷ cs) r = tt

        left : (x : ℤ) → p.offset +ℤ pos 0 ≡ x → Does PairIs (scan_both byte_at kind.OutOfObject (cells_behind (object_at objs p.object).cells x) (cells_from objs (At o) 0)) (scan_both byte_look host.BadAddress (memory_from m (r + 0)) (memory_from m (q + 0)))
        left (negsuc x) e = tt
        left (pos x) e = right x e (o.offset +ℤ pos 0) refl

    pub both_follows : (i j : ℕ) → Does PairIs (both_from args objs i j) (scan_both byte_look host.BadAddress (memory_from m (address numbers i 0)) (memory_from m (address numbers j 0)))
    both_follows i j = does_tested PairIs (both_tests (pointer_at args i) (pointer_at args j)) _ _ (λ a. both_at (pointer_at args i) (pointer_at args j) (get_or numbers i 0) (get_or numbers j 0) (places i) (places j) a)

    or_true : (t : Bool) → t || true ≡ true
    or_true true = refl
    or_true false = refl

    -- bytes that may be touched
    reach_valid : (v : PtrValue) (r j n : ℕ) → PlaceIs at (is_live objs) v r → is_dead objs v ≡ false → is_null v && ltb 0 n ≡ false → is_out objs j n v ≡ false → are_valid (r + j) n ≡ true
    reach_valid (Null claim) r j n is d z o =
        let e : n ≡ 0 = let l = ltb-false 0 n z in omega (arith, l) in
        rw e refl
    reach_valid (At p) r j n is d z o =
        let l : is_live objs p.object ≡ true = not-false _ d in
        let s = spot_of p j n r (is l) o in
        let fits = s.fits in
        let place = s.address in
        let above = k.corresponds.layout.above p.object l in
        let below = k.corresponds.layout.below p.object l in
        let lo : leb first_valid (r + j) ≡ true = le-leb _ _ (omega (arith, place, above)) in
        let hi : leb (r + j + n) memory_size ≡ true = le-leb _ _ (omega (arith, place, below, fits)) in
        rw (lo, hi) (or_true (eqb n 0))

    -- what the tests of a touch say of one reach
    pub record Passes (r : Reach) : Type 0 where
      pub alive : is_dead objs r.pointer ≡ false
      pub some : is_null r.pointer && touches r ≡ false
      pub inside : is_out objs r.offset r.count r.pointer ≡ false

    abbrev AllOf : List Reach → Type 0
    AllOf [] = Unit {0}
    AllOf (r ∷ rs) = Passes r × AllOf rs

    passes : (rs : List Reach) → list_any (λ r. is_dead objs r.pointer) rs ≡ false → list_any (λ r. is_null r.pointer && touches r) rs ≡ false → list_any (λ r. is_out objs r.offset r.count r.pointer) rs ≡ false → AllOf rs
    passes [] d z o = tt
    passes (r ∷ rs) d z o = (
      record {
        alive = or_left (is_dead objs r.pointer) (list_any (λ r. is_dead objs r.pointer) rs) d;
        some = or_left (is_null r.pointer && touches r) (list_any (λ r. is_null r.pointer && touches r) rs) z;
        inside = or_left (is_out objs r.offset r.count r.pointer) (list_any (λ r. is_out objs r.offset r.count r.pointer) rs) o;
      },
      passes rs
          (or_right (is_dead objs r.pointer) (list_any (λ r. is_dead objs r.pointer) rs) d)
          (or_right (is_null r.pointer && touches r) (list_any (λ r. is_null r.pointer && touches r) rs) z)
          (or_right (is_out objs r.offset r.count r.pointer) (list_any (λ r. is_out objs r.offset r.count r.pointer) rs) o),
    )

    all_pass : (rs : List Reach) → AllPass (touch_tests objs rs) → AllOf rs
    all_pass rs a = passes rs a.0 a.1.0 a.1.1.0

    valid_of : (t : Touched) → Passes (reach_of args t) → is_valid numbers t.at ≡ true
    valid_of t p = reach_valid (pointer_at args t.at.operand) (get_or numbers t.at.operand 0) t.at.offset t.at.count (places t.at.operand) p.alive p.some p.inside

    all_valid_of : (ts : List Touched) → AllOf (map (reach_of args) ts) → all_valid numbers ts ≡ true
    all_valid_of [] a = refl
    all_valid_of (t ∷ ts) a = rw (valid_of t a.0) (all_valid_of ts a.1)

    abbrev Stay : List Object → List ℕ → Type 0
    Stay new bytes = (new ≡ objs) × (bytes ≡ m)

    pub point_follows : (pointers touched : List ℕ) → Does Stay (tested (point_tests args objs pointers touched) (Ok objs)) (Ok m)
    point_follows pointers touched = does_tested Stay (point_tests args objs pointers touched) (Ok objs) (Ok m) (λ a. (m, refl, (refl, refl)))

    pub touch_follows : (ts : List Touched) → Does Stay (tested (touched_tests args objs ts) (Ok objs)) (valid_then (all_valid numbers ts) m)
    touch_follows ts = does_tested Stay (touched_tests args objs ts) (Ok objs) _ (λ a. rw (all_valid_of ts (all_pass (map (reach_of args) ts) a)) (m, refl, (refl, refl)))

    -- the cells of one stretch, and its bytes
    pub record Same (s : Stretch) : Type 0 where
      pub match : Match at (is_live objs) (stretch_cells args objs s) (bytes_at m (address numbers s.operand s.offset) s.count)
      pub long : length (stretch_cells args objs s) ≡ s.count
      pub bytes_long : length (bytes_at m (address numbers s.operand s.offset) s.count) ≡ s.count
      pub small : Small (stretch_cells args objs s)
      pub are_cells : (i : ℕ) → i < s.count → IsCell objs (get_or (stretch_cells args objs s) i Uninit)

    same_of : (s : Stretch) → Passes (reach_of args (reading s)) → Same s
    same_of s p = go (pointer_at args s.operand) refl (places s.operand) p.alive p.some p.inside
      where
        go : (v : PtrValue) → pointer_at args s.operand ≡ v → PlaceIs at (is_live objs) v (get_or numbers s.operand 0) → is_dead objs v ≡ false → is_null v && ltb 0 s.count ≡ false → is_out objs s.offset s.count v ≡ false → Same s
        go (Null claim) e is d z o =
            let n : s.count ≡ 0 = let l = ltb-false 0 s.count z in omega (arith, l) in
            let none : stretch_cells args objs s ≡ [] = ap (λ x. take x (cells_from objs (pointer_at args s.operand) s.offset)) n in
            let no_bytes : bytes_at m (address numbers s.operand s.offset) s.count ≡ [] = ap (λ x. bytes_at m (address numbers s.operand s.offset) x) n in
            record {
              match = rw none tt;
              long = rw none (sym n);
              bytes_long = rw no_bytes (sym n);
              small = rw none tt;
              are_cells = λ i lt. absurd (omega arith);
            }
        go (At p) e is d z o =
            let l : is_live objs p.object ≡ true = not-false _ d in
            let spot = spot_of p s.offset s.count (get_or numbers s.operand 0) (is l) o in
            let is_there : stretch_cells args objs s ≡ take s.count (drop spot.start (object_at objs p.object).cells) = ap (λ x. take s.count (cells_from objs x s.offset)) e ∙ ap (λ x. take s.count (cells_behind (object_at objs p.object).cells x)) spot.offset in
            record {
              match = rw (is_there, spot.address) (part_match p.object spot.start s.count l spot.fits);
              long = rw is_there (part_length p.object spot.start s.count l spot.fits);
              bytes_long = rw (spot.address) (bytes_length p.object spot.start s.count l spot.fits);
              small = rw is_there (part_small p.object spot.start s.count l spot.fits);
              are_cells = λ i lt. rw is_there (part_cells p.object spot.start s.count l spot.fits i lt);
            }

    bytes_each : (ss : List Stretch) → AllOf (map (reach_of args) (map reading ss)) → Does BytesAre (bytes_in (all_cells args objs ss)) (flat_bytes numbers m ss)
    bytes_each [] a = ([], refl, (refl, tt))
    bytes_each (s ∷ ss) a =
        let h = same_of s a.0 in
        rw (valid_of (reading s) a.0) (bytes_in_follows at (is_live objs) (stretch_cells args objs s) (bytes_at m (address numbers s.operand s.offset) s.count) (all_cells args objs ss) (flat_bytes numbers m ss) h.match (h.long ∙ sym h.bytes_long) h.small (bytes_each ss a.1))

    pub bytes_follow : (ss : List Stretch) → Does BytesAre (bytes_from args objs ss) (flat_bytes numbers m ss)
    bytes_follow ss = does_tested BytesAre (touched_tests args objs (map reading ss)) _ _ (λ a. bytes_each ss (all_pass (map (reach_of args) (map reading ss)) a))

    pub record KeptIs (new : List Object) (bytes : List ℕ) : Type 0 where
      pub kept : Kept at objs new bytes
      pub long : length bytes ≡ memory_size

    match_at : (cs : List Cell) (bs : List ℕ) → Match at (is_live objs) cs bs → (i : ℕ) → i < length cs → CellIs at (is_live objs) (get_or cs i Uninit) (get_or bs i 0)
    match_at [] bs h i lt = absurd (omega arith)
    match_at (c ∷ cs) [] h i lt = absurd h
    match_at (c ∷ cs) (b ∷ bs) h zero lt = h.0
    match_at (c ∷ cs) (b ∷ bs) h (suc i) lt = match_at cs bs h.1 i (omega arith)

    put_no_bytes : (a : ℕ) → put a [] m ≡ m
    put_no_bytes a = rw add-zero (take-append-drop a m)

    -- cells and bytes that say the same, stored at an operand's place
    stored_at : (i j n : ℕ) (new : List Cell) (bs : List ℕ) → length new ≡ n → length bs ≡ n → ((q : ℕ) → q < n → IsCell objs (get_or new q Uninit)) → ((q : ℕ) → q < n → CellIs at (is_live objs) (get_or new q Uninit) (get_or bs q 0)) → Passes (reach_of args (writing (stretch i j n))) → KeptIs (put_at objs (pointer_at args i) j new) (put (address numbers i j) bs m)
    stored_at i j n new bs ln lb cells same p = go (pointer_at args i) (places i) p.alive p.some p.inside
      where
        go : (v : PtrValue) → PlaceIs at (is_live objs) v (get_or numbers i 0) → is_dead objs v ≡ false → is_null v && ltb 0 n ≡ false → is_out objs j n v ≡ false → KeptIs (put_at objs v j new) (put (address numbers i j) bs m)
        go (Null claim) is d z o =
            let none : bs ≡ [] = nil_from_length bs (let l = ltb-false 0 n z in omega (arith, l)) in
            let same_memory : put (address numbers i j) bs m ≡ m = ap (λ x. put (address numbers i j) x m) none ∙ put_no_bytes (address numbers i j) in
            rw same_memory (record { kept = record { corresponds = k.corresponds; is_memory = k.is_memory; same = record { live = λ q. refl; sizes = λ q. refl; count = refl } }; long = k.size })
        go (At p) is d z o =
            let l : is_live objs p.object ≡ true = not-false _ d in
            let spot = spot_of p j n (get_or numbers i 0) (is l) o in
            let fits = spot.fits in
            let place = spot.address in
            let below = k.corresponds.layout.below p.object l in
            let size = k.size in
            subst (λ x. KeptIs (put_cells objs p.object x new) (put (address numbers i j) bs m)) (sym spot.offset) (record {
              kept = put_follows at objs m p.object spot.start (address numbers i j) new bs k.corresponds k.is_memory k.size l (omega (arith, fits, ln)) place (ln ∙ sym lb) (λ q lt. cells q (omega (arith, ln))) (λ q lt. same q (omega (arith, ln)));
              long = length-put (address numbers i j) bs m (omega (arith, place, fits, lb, below, size)) ∙ size;
            })

    byte_in : (bs : List ℕ) (q : ℕ) → AreBytes bs → get_or bs q 0 < 256
    byte_in [] q h = omega arith
    byte_in (b ∷ bs) zero h = h.0
    byte_in (b ∷ bs) (suc q) h = byte_in bs q h.1

    byte_cell : (bs : List ℕ) (q : ℕ) → q < length bs → get_or (map Byte bs) q Uninit ≡ Byte (get_or bs q 0)
    byte_cell [] q l = absurd (omega arith)
    byte_cell (b ∷ bs) zero l = refl
    byte_cell (b ∷ bs) (suc q) l = byte_cell bs q (omega arith)

    pub store_follows : (i j : ℕ) (what : Stored) → StoresBytes what → Does KeptIs (store_at args objs i j what) (flat_store numbers m i j what)
    store_follows i j (These bs) h = does_tested KeptIs (touched_tests args objs (writing (stretch i j (length bs)) ∷ [])) (Ok (put_at objs (pointer_at args i) j (map Byte bs))) _ (λ a.
        let all = all_pass (map (reach_of args) (writing (stretch i j (length bs)) ∷ [])) a in
        rw (valid_of (writing (stretch i j (length bs))) all.0) (
          put (address numbers i j) bs m,
          refl,
          stored_at i j (length bs) (map Byte bs) bs (length-map bs Byte) refl
              (λ q lt. rw (byte_cell bs q lt) (byte_in bs q h))
              (λ q lt. rw (byte_cell bs q lt) refl) all.0,
        ))
    store_follows i j (Cells s) h = does_tested KeptIs (touched_tests args objs (writing (stretch i j s.count) ∷ reading s ∷ [])) (Ok (put_at objs (pointer_at args i) j (stretch_cells args objs s))) _ (λ a.
        let all = all_pass (map (reach_of args) (writing (stretch i j s.count) ∷ reading s ∷ [])) a in
        let c = same_of s all.1.0 in
        rw (valid_of (writing (stretch i j s.count)) all.0, valid_of (reading s) all.1.0) (
          put (address numbers i j) (bytes_at m (address numbers s.operand s.offset) s.count) m,
          refl,
          stored_at i j s.count (stretch_cells args objs s) (bytes_at m (address numbers s.operand s.offset) s.count) c.long c.bytes_long c.are_cells
              (λ q lt. match_at _ _ c.match q (let n = c.long in omega (arith, n))) all.0,
        ))

    apart_at : (u v : PtrValue) (r q : ℕ) (to s : Stretch) → PlaceIs at (is_live objs) u r → PlaceIs at (is_live objs) v q → is_dead objs u ≡ false → is_null u && ltb 0 to.count ≡ false → is_out objs to.offset to.count u ≡ false → is_dead objs v ≡ false → is_null v && ltb 0 s.count ≡ false → is_out objs s.offset s.count v ≡ false → overlap u to v s ≡ false → meets (r + to.offset) to.count (q + s.offset) s.count ≡ false
    apart_at (Null claim) v r q to s is it du zu ou dv zv ov far = no_meet (r + to.offset) to.count (q + s.offset) s.count (inl (let e = ltb-false 0 to.count zu in omega (arith, e)))
    apart_at (At p) (Null claim) r q to s is it du zu ou dv zv ov far = no_meet (r + to.offset) to.count (q + s.offset) s.count (inr (inl (let e = ltb-false 0 s.count zv in omega (arith, e))))
    apart_at (At p) (At o) r q to s is it du zu ou dv zv ov far =
        let lp : is_live objs p.object ≡ true = not-false _ du in
        let lo : is_live objs o.object ≡ true = not-false _ dv in
        let sp = spot_of p to.offset to.count r (is lp) ou in
        let so = spot_of o s.offset s.count q (it lo) ov in
        let bp = sp.fits in
        let bo = so.fits in
        let ep = sp.address in
        let eo = so.address in
        ⊎_elim
        (λ (h : p.object ≡ o.object).
        let both : meets sp.start to.count so.start s.count ≡ false =
        ap (λ x. meets_behind x to.count (pos so.start) s.count) (sym sp.offset)
        ∙ ap (λ x. meets_behind (p.offset +ℤ pos to.offset) to.count x s.count) (sym so.offset)
        ∙ ap (λ t. t && meets_behind (p.offset +ℤ pos to.offset) to.count (o.offset +ℤ pos s.offset) s.count) (sym (eq-eqb p.object o.object h)) ∙ far in
        let same : at p.object ≡ at o.object = ap at h in
        ⊎_elim (λ (x : to.count ≡ 0). no_meet (r + to.offset) to.count (q + s.offset) s.count (inl x))
        (λ (y : (s.count ≡ 0) ⊎ ((sp.start + to.count ≤ so.start) ⊎ (so.start + s.count ≤ sp.start))). ⊎_elim (λ (x : s.count ≡ 0). no_meet (r + to.offset) to.count (q + s.offset) s.count (inr (inl x)))
        (λ (z : (sp.start + to.count ≤ so.start) ⊎ (so.start + s.count ≤ sp.start)). ⊎_elim (λ (x : sp.start + to.count ≤ so.start). no_meet (r + to.offset) to.count (q + s.offset) s.count (inr (inr (inl (omega (arith, ep, eo, same, x)))))) (λ (x : so.start + s.count ≤ sp.start). no_meet (r + to.offset) to.count (q + s.offset) s.count (inr (inr (inr (omega (arith, ep, eo, same, x)))))) z) y)
        (meet_none _ _ _ _ both))
        (λ (h : p.object ≢ o.object).
        ⊎_elim (λ (x : at p.object + size_at objs p.object < at o.object). no_meet (r + to.offset) to.count (q + s.offset) s.count (inr (inr (inl (omega (arith, ep, eo, bp, x)))))) (λ (x : at o.object + size_at objs o.object < at p.object). no_meet (r + to.offset) to.count (q + s.offset) s.count (inr (inr (inr (omega (arith, ep, eo, bo, x)))))) (k.corresponds.layout.apart p.object o.object lp lo h))
        (cases_eq p.object o.object)

    apart_each : (to : Stretch) (ss : List Stretch) → Passes (reach_of args (writing to)) → AllOf (map (reach_of args) (map reading ss)) → overlaps_any args to ss ≡ false → meets_any numbers to ss ≡ false
    apart_each to [] p a h = refl
    apart_each to (s ∷ ss) p a h =
        let one = or_left (overlap (pointer_at args to.operand) to (pointer_at args s.operand) s) (overlaps_any args to ss) h in
        let first = apart_at (pointer_at args to.operand) (pointer_at args s.operand) (get_or numbers to.operand 0) (get_or numbers s.operand 0) to s (places to.operand) (places s.operand) p.alive p.some p.inside a.0.alive a.0.some a.0.inside one in
        rw first (apart_each to ss p a.1 (or_right (overlap (pointer_at args to.operand) to (pointer_at args s.operand) s) (overlaps_any args to ss) h))

    pub apart_follows : (strict : Bool) (to : Stretch) (ss : List Stretch) → Does Stay (tested (apart_tests args objs to ss) (Ok objs)) (valid_then (not (strict && meets_any numbers to ss)) m)
    apart_follows strict to ss = does_tested Stay (apart_tests args objs to ss) (Ok objs) _ (λ a.
        let all = passes (map (reach_of args) (writing to ∷ map reading ss)) a.0 a.1.0 a.1.1.0 in
        rw (apart_each to ss all.0 all.1 a.1.1.1.1.0, and-false strict) (m, refl, (refl, refl)))
