-- What is put behind a pointer where there is room.
use Rattle.std.proofs.Common.{◌≡◌, ℕ, zero, suc, ◌+◌, ◌<◌, ◌≤◌, ◌^◌, true, false, not, List, [], ◌∷◌, ◌++◌, Option, length, map, replicate, take, drop, get_or, set, refl, sym, ap, subst, ◌∙◌, arith, length-append, Fits, w8, w64}
use Rattle.std.specs.Prelude.{ℤ, pos, negsuc, ◌+ℤ◌, ◌≤ℤ◌, nat_abs}
use Rattle.std.specs.Int.{cast_signed, cast_unsigned}
use Rattle.std.proofs.lemmas.Bool.{not-false, leb-true, le-leb}
use Rattle.std.proofs.lemmas.Int.{ints}
use Rattle.std.proofs.lemmas.List.{length-replicate, get_or-replicate, set-get_or, set-set, take_all}
use Rattle.library_meaning.specs.Memory.{put}
use Rattle.object_meaning.specs.Memory.{IsCell, IsMemory}
use Rattle.object_meaning.specs.Objects.{Object, ended, object_at, is_live, size_at, cells_behind, with_cells, put_cells}
use Rattle.object_meaning.specs.Touches.{is_out, lies_in, reads, cells_from, cells_at, put_at}
use Rattle.object_meaning.specs.declared.values.Cell.{Cell}
use Rattle.object_meaning.specs.declared.values.Cell.TheVariants.{Byte, Uninit}
use Rattle.object_meaning.specs.declared.values.Ptr.{Ptr}
use Rattle.object_meaning.specs.declared.values.PtrValue.{PtrValue}
use Rattle.object_meaning.specs.declared.values.PtrValue.TheVariants.{Null, At}
use Rattle.object_meaning.proofs.Puts.{length-put}
use Rattle.object_meaning.proofs.Stores.{start_of, put_at_keeps, cells_are, set_same, stored}
use Rattle.src_values.specs.Room.{IsRoom}
use Rattle.src_values.proofs.Putting.{put_none, put_more, copied_long}
use Rattle.src_values.proofs.Spots.{written_is}

-- where the cells begin
pub record RoomIs (items objs : List Object) (p : Ptr) (offset count : ℕ) : Type 0 where
  pub live : is_live items p.object ≡ true
  pub start : p.offset +ℤ pos offset ≡ pos (nat_abs p.offset + offset)
  pub fits : nat_abs p.offset + offset + count ≤ length (object_at items p.object).cells
  pub small : nat_abs p.offset + offset + count ≤ 2 ^ 32

up_from : (z : ℤ) (offset : ℕ) → pos 0 ≤ℤ z → z +ℤ pos offset ≡ pos (nat_abs z + offset)
up_from (pos k) offset l = refl
up_from (negsuc k) offset l = absurd (omega (arith, ints, l))

pub room_is : (items objs : List Object) (v : PtrValue) (p : Ptr) (offset count : ℕ) → IsMemory items → items ≡ objs → v ≡ At p
    → IsRoom objs v offset count → RoomIs items objs p offset count
room_is items objs v p offset count w same e room =
    let here : IsRoom objs (At p) offset count = subst (λ x. IsRoom objs x offset count) e room in
    let live : is_live objs p.object ≡ true = not-false _ here.live in
    let valid = here.pointer.valid live in
    let start = up_from p.offset offset valid.starts.0 in
    let found = start_of objs p offset count here.within in
    let fits = found.fits in
    let is = sym start ∙ found.is in
    let small = valid.small in
    let full = (subst IsMemory same w).full p.object live in
    let under : nat_abs p.offset + offset + count ≤ size_at objs p.object = omega (arith, ints, fits, is) in
    record {
      live = ap (λ xs. is_live xs p.object) same ∙ live;
      start = start;
      fits = subst (λ xs. nat_abs p.offset + offset + count ≤ length (object_at xs p.object).cells) (sym same) (omega (arith, under, full));
      small = omega (arith, under, small);
    }

-- its offset, as code reads it
pub offset_is : (objs : List Object) (v : PtrValue) (p : Ptr) (offset count : ℕ) → v ≡ At p → IsRoom objs v offset count
    → cast_signed w64 (cast_unsigned w64 p.offset) ≡ p.offset
offset_is objs v p offset count e room =
    let here : IsRoom objs (At p) offset count = subst (λ x. IsRoom objs x offset count) e room in
    let valid = here.pointer.valid (not-false _ here.live) in
    let starts = valid.starts in
    let small = valid.small in
    omega (arith, ints, starts, small)

-- objects with these cells put
pub record IsPut (objs new : List Object) (v : PtrValue) (offset : ℕ) (cells : List Cell) : Type 0 where
  pub is : new ≡ put_at objs v offset cells
  pub is_memory : IsMemory new

put_by : (items objs : List Object) (v : PtrValue) (p : Ptr) (offset count : ℕ) (cells : List Cell) → IsMemory items → items ≡ objs
    → v ≡ At p → IsRoom objs v offset count → length cells ≡ count → ((j : ℕ) → j < length cells → IsCell objs (get_or cells j Uninit))
    → IsPut objs (put_cells objs p.object (pos (nat_abs p.offset + offset)) cells) v offset cells
put_by items objs v p offset count cells w same e room long are =
    let found = room_is items objs v p offset count w same e room in
    let within : is_out objs offset (length cells) v ≡ false = ap (λ n. is_out objs offset n v) long ∙ room.within in
    let is : put_cells objs p.object (pos (nat_abs p.offset + offset)) cells ≡ put_at objs v offset cells =
    ap (λ z. put_cells objs p.object z cells) (sym found.start) ∙ ap (λ x. put_at objs x offset cells) (sym e) in
    record {
      is = is;
      is_memory = subst IsMemory (sym is) (put_at_keeps objs v offset cells (subst IsMemory same w) room.live within are).is_memory;
    }

-- less room
pub less_room : (objs : List Object) (v : PtrValue) (offset n k : ℕ) → k ≤ n → IsRoom objs v offset n → IsRoom objs v offset k
less_room objs (Null claim) offset n k l room = record { pointer = tt; live = refl; within = refl }
less_room objs (At p) offset n k l room = record {
  pointer = room.pointer;
  live = room.live;
  within = go (p.offset +ℤ pos offset) room.within;
}
  where
    go : (z : ℤ) → not (lies_in (size_at objs p.object) z n) ≡ false → not (lies_in (size_at objs p.object) z k) ≡ false
    go (negsuc q) h = h
    go (pos q) h = let b = leb-true _ _ (not-false _ h) in rw (le-leb (q + k) (size_at objs p.object) (omega (arith, b, l))) refl

both_are : (objs : List Object) (xs ys : List Cell) → ((j : ℕ) → j < length xs → IsCell objs (get_or xs j Uninit))
    → ((j : ℕ) → j < length ys → IsCell objs (get_or ys j Uninit))
    → (j : ℕ) → j < length (xs ++ ys) → IsCell objs (get_or (xs ++ ys) j Uninit)
both_are objs [] ys h k j lt = k j lt
both_are objs (x ∷ xs) ys h k zero lt = h 0 (omega arith)
both_are objs (x ∷ xs) ys h k (suc j) lt = both_are objs xs ys (λ i l. h (suc i) (omega arith)) k j (omega arith)

-- an object that was found, and changed
pub put_done : (items objs : List Object) (v : PtrValue) (p : Ptr) (offset count : ℕ) (cells : List Cell) (old new : Object)
    → IsMemory items → items ≡ objs → v ≡ At p → IsRoom objs v offset count → length cells ≡ count
    → ((j : ℕ) → j < length cells → IsCell objs (get_or cells j Uninit)) → old ≡ object_at items p.object
    → new ≡ with_cells old (put (nat_abs p.offset + offset) cells old.cells) → IsPut objs (set items p.object new) v offset cells
put_done items objs v p offset count cells old new w same e room long are found changed =
    subst (λ xs. IsPut objs xs v offset cells)
    (sym (written_is items objs p.object (nat_abs p.offset + offset) old new cells same found changed))
    (put_by items objs v p offset count cells w same e room long are)

pub same_are : (objs : List Object) (count byte : ℕ) → byte < 256 → (j : ℕ) → j < length (replicate count (Byte byte))
    → IsCell objs (get_or (replicate count (Byte byte)) j Uninit)
same_are objs count byte small j lt =
    subst (IsCell objs) (sym (get_or-replicate count j (Byte byte) Uninit (let n = length-replicate count (Byte byte) in omega (arith, n, lt)))) small

pub bytes_are : (objs : List Object) (bytes : List ℕ) → ((i : ℕ) → Fits w8 (get_or bytes i 0)) → (j : ℕ) → j < length (map Byte bytes)
    → IsCell objs (get_or (map Byte bytes) j Uninit)
bytes_are objs [] h j lt = absurd (omega arith)
bytes_are objs (b ∷ bs) h zero lt = let first = h 0 in omega (arith, first)
bytes_are objs (b ∷ bs) h (suc j) lt = bytes_are objs bs (λ i. h (suc i)) j (omega arith)

-- cells behind a pointer, as they are copied
pub record Source (objs : List Object) (v : PtrValue) (q : Ptr) (count : ℕ) : Type 0 where
  pub live : is_live objs q.object ≡ true
  pub fits : nat_abs q.offset + count ≤ length (object_at objs q.object).cells
  pub small : nat_abs q.offset + count ≤ 2 ^ 32
  pub is : take count (drop (nat_abs q.offset) (object_at objs q.object).cells) ≡ cells_at objs (reads v count)
  pub long : count ≡ length (cells_at objs (reads v count))

pub source_is : (objs : List Object) (v : PtrValue) (q : Ptr) (count : ℕ) → IsMemory objs → v ≡ At q → IsRoom objs v 0 count
    → Source objs v q count
source_is objs v q count w e room =
    let behind = room_is objs objs v q 0 count w refl e room in
    let none : nat_abs q.offset + 0 ≡ nat_abs q.offset = omega arith in
    let fits = behind.fits in
    let small = behind.small in
    let is : take count (drop (nat_abs q.offset) (object_at objs q.object).cells) ≡ cells_at objs (reads v count) =
    ap (λ k. take count (cells_behind (object_at objs q.object).cells (pos k))) (sym none)
    ∙ ap (λ z. take count (cells_behind (object_at objs q.object).cells z)) (sym behind.start)
    ∙ ap (λ x. take count (cells_from objs x 0)) (sym e) in
    record {
      live = behind.live;
      fits = omega (arith, fits);
      small = omega (arith, small);
      is = is;
      long = sym (ap length (sym is) ∙ copied_long (object_at objs q.object).cells (nat_abs q.offset) count (omega (arith, fits)));
    }

pub none_behind : (objs : List Object) (v : PtrValue) (claim : Option ℕ) (count : ℕ) → v ≡ Null claim → cells_at objs (reads v count) ≡ []
none_behind objs v claim count e = ap (λ x. take count (cells_from objs x 0)) e ∙ take_all count [] (omega arith)

pub none_put : (objs : List Object) (o start : ℕ) → put_cells objs o (pos start) [] ≡ objs
none_put objs o start = ap (λ cs. set objs o (with_cells (object_at objs o) cs)) (put_none start (object_at objs o).cells)
    ∙ set-get_or objs o ended

-- the object that has the first of two parts
found_as : (items objs mid : List Object) (v : PtrValue) (p : Ptr) (offset count zeros : ℕ) (xs : List Cell) (old : Object)
    → IsMemory items → items ≡ objs → v ≡ At p → IsRoom objs v offset (count + zeros)
    → mid ≡ put_cells items p.object (pos (nat_abs p.offset + offset)) xs → old ≡ object_at mid p.object
    → old ≡ stored items p.object (nat_abs p.offset + offset) xs
found_as items objs mid v p offset count zeros xs old w same e room first found =
    let at = room_is items objs v p offset (count + zeros) w same e room in
    found ∙ ap (λ ms. object_at ms p.object) first
    ∙ set_same items p.object (stored items p.object (nat_abs p.offset + offset) xs) at.live

-- there is room for the second
pub second_room : (items objs mid : List Object) (v : PtrValue) (p : Ptr) (offset count zeros copied : ℕ) (xs : List Cell) (old : Object)
    → IsMemory items → items ≡ objs → v ≡ At p → IsRoom objs v offset (count + zeros) → copied ≡ length xs → copied ≤ count
    → mid ≡ put_cells items p.object (pos (nat_abs p.offset + offset)) xs → old ≡ object_at mid p.object
    → nat_abs p.offset + offset + copied + zeros ≤ length old.cells
second_room items objs mid v p offset count zeros copied xs old w same e room long few first found =
    let at = room_is items objs v p offset (count + zeros) w same e room in
    let fits = at.fits in
    let found_is = found_as items objs mid v p offset count zeros xs old w same e room first found in
    let under : nat_abs p.offset + offset + length xs ≤ length (object_at items p.object).cells = omega (arith, fits, long, few) in
    let size : length old.cells ≡ length (object_at items p.object).cells = ap (λ (x : Object). length x.cells) found_is
    ∙ length-put (nat_abs p.offset + offset) xs (object_at items p.object).cells under in
    omega (arith, size, fits, few)

-- two parts that are put one behind the other
pub put_twice : (items objs mid : List Object) (v : PtrValue) (p : Ptr) (offset count zeros copied : ℕ) (xs : List Cell) (old new : Object)
    → IsMemory items → items ≡ objs → v ≡ At p → IsRoom objs v offset (count + zeros) → copied ≡ length xs → copied ≤ count
    → ((j : ℕ) → j < length xs → IsCell objs (get_or xs j Uninit))
    → mid ≡ put_cells items p.object (pos (nat_abs p.offset + offset)) xs → old ≡ object_at mid p.object
    → new ≡ with_cells old (put (nat_abs p.offset + offset + copied) (replicate zeros (Byte 0)) old.cells)
    → IsPut objs (set mid p.object new) v offset (xs ++ replicate zeros (Byte 0))
put_twice items objs mid v p offset count zeros copied xs old new w same e room long few are first found second =
    let at = room_is items objs v p offset (count + zeros) w same e room in
    let fits = at.fits in
    let start = nat_abs p.offset + offset in
    let before = (object_at items p.object).cells in
    let found_is = found_as items objs mid v p offset count zeros xs old w same e room first found in
    let under : start + length xs ≤ length before = omega (arith, fits, long, few) in
    let cells_are : put (start + copied) (replicate zeros (Byte 0)) old.cells ≡ put start (xs ++ replicate zeros (Byte 0)) before =
    ap (λ k. put (start + k) (replicate zeros (Byte 0)) old.cells) long
    ∙ ap (λ (x : Object). put (start + length xs) (replicate zeros (Byte 0)) x.cells) found_is
    ∙ put_more start xs (replicate zeros (Byte 0)) before under in
    let new_is : new ≡ stored items p.object start (xs ++ replicate zeros (Byte 0)) =
    second ∙ ap (with_cells old) cells_are
    ∙ ap (λ (x : Object). with_cells x (put start (xs ++ replicate zeros (Byte 0)) before)) found_is in
    let is : set mid p.object new ≡ put_cells objs p.object (pos start) (xs ++ replicate zeros (Byte 0)) =
    ap (λ ms. set ms p.object new) first
    ∙ set-set items p.object (stored items p.object start xs) new
    ∙ ap (set items p.object) new_is
    ∙ ap (λ ms. put_cells ms p.object (pos start) (xs ++ replicate zeros (Byte 0))) same in
    let all_long : length (xs ++ replicate zeros (Byte 0)) ≡ length xs + zeros =
    length-append xs (replicate zeros (Byte 0)) ∙ ap (λ n. length xs + n) (length-replicate zeros (Byte 0)) in
    let shorter : IsRoom objs v offset (length xs + zeros) = less_room objs v offset (count + zeros) (length xs + zeros) (omega (arith, long, few)) room in
    subst (λ ms. IsPut objs ms v offset (xs ++ replicate zeros (Byte 0))) (sym is)
    (put_by items objs v p offset (length xs + zeros) (xs ++ replicate zeros (Byte 0)) w same e shorter all_long
    (both_are objs xs (replicate zeros (Byte 0)) are (same_are objs zeros 0 (omega arith))))
