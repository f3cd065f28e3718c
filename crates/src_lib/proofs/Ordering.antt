-- Bytes that are read all at once.
use Rattle.std.proofs.Common.{◌≡◌, ◌≢◌, ℕ, zero, suc, ◌+◌, ◌<◌, ◌≤◌, Bool, true, false, ◌&&◌, ◌||◌, eqb, List, [], ◌∷◌, ◌++◌, length, map, get_or, take, drop, Result, Ok, Err, refl, sym, ap, ◌∙◌, arith, append-nil, ⊎_elim}
use Rattle.std.specs.Prelude.{if◌then◌else◌, nat_lt}
use Rattle.std.specs.List.{list_any}
use Rattle.std.proofs.lemmas.Bool.{le-ltb, lt-ltb, cases_eq}
use Rattle.std.proofs.lemmas.List.{drop_more, get_or-drop, get_or-take, length-drop, length-take-le}
use Rattle.std.proofs.lemmas.List.Folds.{list_any-append}
use Rattle.fc_base.specs.declared.undefined.UndefKind.{UndefKind}
use Rattle.fc_base.specs.declared.undefined.UndefKind.TheVariants as kind
use Rattle.run_meaning.specs.Worlds.{World}
use Rattle.library_meaning.specs.Rows.{Count, answer, run}
use Rattle.library_meaning.specs.Scan.{and_then}
use Rattle.library_meaning.specs.Table as table
use Rattle.library_meaning.specs.Table.{no_limit, order, order_of}
use Rattle.object_meaning.specs.Cells.{byte_then, bytes_in, is_uninit}
use Rattle.object_meaning.specs.Memory.{IsMemory}
use Rattle.object_meaning.specs.Objects.{Object}
use Rattle.object_meaning.specs.OnObjects.{on_objects, unless_undefined}
use Rattle.object_meaning.specs.Provenance.{IsPointer}
use Rattle.object_meaning.specs.Touches.{is_null, reads, touch_tests, cells_at}
use Rattle.object_meaning.specs.declared.values.Cell.{Cell}
use Rattle.object_meaning.specs.declared.values.Cell.TheVariants.{Byte, Uninit, Part}
use Rattle.object_meaning.specs.declared.values.PtrValue.{PtrValue}
use Rattle.object_meaning.specs.declared.values.PtrValue.TheVariants.{Null, At}
use Rattle.object_meaning.specs.declared.values.Value.TheVariants.{Int, Pointer}
use Rattle.object_meaning.proofs.Tested.{AllPass, or_left}
use Rattle.src_values.specs.Room.{IsRoom}
use Rattle.src_values.proofs.Rooms.{source_is}
use Rattle.src_lib.specs.Blocks.{is_part, ordered}
use Rattle.src_lib.specs.Reaches.{is_nothing, reach_of}
use Rattle.src_lib.specs.Stores.{read_at}
use Rattle.src_lib.specs.Texts.{byte_in}
use Rattle.src_lib.proofs.Tests.{room_of_first, tested_pass}

-- the next of so many cells
pub next_cell : (cells : List Cell) (start count k : ℕ) (c : Cell) → start + count ≤ length cells → k < count
    → c ≡ get_or cells (start + k) Uninit → drop k (take count (drop start cells)) ≡ c ∷ drop (k + 1) (take count (drop start cells))
next_cell cells start count k c room less is =
    let long : length (take count (drop start cells)) ≡ count = length-take-le count (drop start cells) (omega (arith, room, length-drop start cells)) in
    drop_more (take count (drop start cells)) k Uninit (omega (arith, long, less))
    ∙ ap (λ x. x ∷ drop (k + 1) (take count (drop start cells)))
    (get_or-take count (drop start cells) k Uninit less ∙ get_or-drop start cells k Uninit ∙ sym is)

-- the bytes of cells, by what is among them
abbrev in_all : (u p : Bool) → List ℕ → Result (List ℕ) UndefKind
in_all u p bytes = if u then Err kind.Uninitialised else (if p then Err kind.PointerBytes else Ok bytes)

then_all : (c : Cell) (u p : Bool) (bytes : List ℕ)
    → byte_then c (in_all u p bytes) ≡ in_all (is_uninit c || u) (is_part c || p) (byte_in c ∷ bytes)
then_all (Byte b) true p bytes = refl
then_all (Byte b) false true bytes = refl
then_all (Byte b) false false bytes = refl
then_all Uninit u p bytes = refl
then_all (Part q k) true p bytes = refl
then_all (Part q k) false true bytes = refl
then_all (Part q k) false false bytes = refl

pub bytes_all : (cells : List Cell) → bytes_in cells ≡ in_all (list_any is_uninit cells) (list_any is_part cells) (map byte_in cells)
bytes_all [] = refl
bytes_all (c ∷ cs) = ap (byte_then c) (bytes_all cs) ∙ then_all c (list_any is_uninit cs) (list_any is_part cs) (map byte_in cs)

map_both : (xs ys : List Cell) → map byte_in (xs ++ ys) ≡ map byte_in xs ++ map byte_in ys
map_both [] ys = refl
map_both (x ∷ xs) ys = ap (λ bs. byte_in x ∷ bs) (map_both xs ys)

take_front : (n : ℕ) (xs : List Cell) (ys : List ℕ) → length xs ≡ n → take n (map byte_in xs ++ ys) ≡ map byte_in xs
take_front zero [] ys e = refl
take_front (suc n) [] ys e = absurd (omega arith)
take_front zero (x ∷ xs) ys e = absurd (omega arith)
take_front (suc n) (x ∷ xs) ys e = ap (λ bs. byte_in x ∷ bs) (take_front n xs ys (omega arith))

drop_front : (n : ℕ) (xs : List Cell) (ys : List ℕ) → length xs ≡ n → drop n (map byte_in xs ++ ys) ≡ ys
drop_front zero [] ys e = refl
drop_front (suc n) [] ys e = absurd (omega arith)
drop_front zero (x ∷ xs) ys e = absurd (omega arith)
drop_front (suc n) (x ∷ xs) ys e = drop_front n xs ys (omega arith)

-- the order of two blocks, as a row gives it
orders : (objs : List Object) (w : World) (n : ℕ) (xs ys : List Cell) → length xs ≡ n
    → and_then (unless_undefined (bytes_in (xs ++ (ys ++ [])))) (λ bytes. Ok (answer objs w (Count (order_of (take n bytes) (drop n bytes)))))
    ≡ and_then (unless_undefined (ordered xs ys)) (λ o. Ok (answer objs w (Count o)))
orders objs w n xs ys long =
    ap (λ zs. and_then (unless_undefined (bytes_in (xs ++ zs))) (λ bytes. Ok (answer objs w (Count (order_of (take n bytes) (drop n bytes))))))
    (append-nil ys)
    ∙ ap (λ r. and_then (unless_undefined r) (λ bytes. Ok (answer objs w (Count (order_of (take n bytes) (drop n bytes)))))) (bytes_all (xs ++ ys))
    ∙ rw (list_any-append is_uninit xs ys, list_any-append is_part xs ys, map_both xs ys)
    (go (list_any is_uninit xs || list_any is_uninit ys) (list_any is_part xs || list_any is_part ys))
  where
    go : (u p : Bool)
        → and_then (unless_undefined (in_all u p (map byte_in xs ++ map byte_in ys))) (λ bytes. Ok (answer objs w (Count (order_of (take n bytes) (drop n bytes)))))
        ≡ and_then (unless_undefined (if u then Err kind.Uninitialised else (if p then Err kind.PointerBytes
        else Ok (order_of (map byte_in xs) (map byte_in ys))))) (λ o. Ok (answer objs w (Count o)))
    go true p = refl
    go false true = refl
    go false false = ap (λ bs. Ok (answer objs w (Count (order_of bs (drop n (map byte_in xs ++ map byte_in ys)))))) (take_front n xs (map byte_in ys) long)
        ∙ ap (λ bs. Ok (answer objs w (Count (order_of (map byte_in xs) bs)))) (drop_front n xs (map byte_in ys) long)

-- the order of two blocks at a place of both
pub both_next : (lefts rights : List Cell) (from at count k : ℕ) (x y : Cell) → from + count ≤ length lefts → at + count ≤ length rights
    → k < count → x ≡ get_or lefts (from + k) Uninit → y ≡ get_or rights (at + k) Uninit
    → order_of (map byte_in (drop k (take count (drop from lefts)))) (map byte_in (drop k (take count (drop at rights))))
    ≡ (if eqb (byte_in x) (byte_in y)
    then order_of (map byte_in (drop (k + 1) (take count (drop from lefts)))) (map byte_in (drop (k + 1) (take count (drop at rights))))
    else order (byte_in x) (byte_in y))
both_next lefts rights from at count k x y l r less e f =
    ap (λ zs. order_of (map byte_in zs) (map byte_in (drop k (take count (drop at rights))))) (next_cell lefts from count k x l less e)
    ∙ ap (λ zs. order_of (map byte_in (x ∷ drop (k + 1) (take count (drop from lefts)))) (map byte_in zs)) (next_cell rights at count k y r less f)

pub order_less : (a b : ℕ) → a < b → order a b ≡ no_limit
order_less a b l = rw (lt-ltb a b l) refl

pub order_more : (a b : ℕ) → b < a → order a b ≡ 1
order_more a b l = rw (le-ltb a b (omega (arith, l)), lt-ltb b a l) refl

-- ---- memcmp

cells_long : (objs : List Object) (v : PtrValue) (n : ℕ) → IsMemory objs → IsRoom objs v 0 n → is_null v && nat_lt 0 n ≡ false
    → length (cells_at objs (reads v n)) ≡ n
cells_long objs (Null claim) n w room h = ⊎_elim (λ (e : n ≡ 0). rw e refl) (λ (ne : n ≢ 0). absurd (let l = lt-ltb 0 n (omega (arith, ne)) in cc)) (cases_eq n 0)
cells_long objs (At p) n w room h = sym (source_is objs (At p) p n w refl room).long

pub blocks_row : (objs : List Object) (w : World) (a b : PtrValue) (n : ℕ) → IsMemory objs → IsPointer objs a
    → AllPass (touch_tests objs (reach_of (read_at a n) ∷ reach_of (read_at b n) ∷ []))
    → run (on_objects (Pointer a ∷ Pointer b ∷ Int n ∷ [])) table.memcmp objs w
    ≡ and_then (unless_undefined (ordered (cells_at objs (reads a n)) (cells_at objs (reads b n)))) (λ o. Ok (answer objs w (Count o)))
blocks_row objs w a b n m h p =
    let xs = cells_at objs (reads a n) in
    let ys = cells_at objs (reads b n) in
    let room = room_of_first objs (read_at a n) (read_at b n) h p in
    let long = cells_long objs a n m room (or_left (is_nothing (read_at a n)) (is_nothing (read_at b n) || false) p.1.0) in
    ap (λ r. and_then (unless_undefined r) (λ bytes. Ok (answer objs w (Count (order_of (take n bytes) (drop n bytes))))))
    (tested_pass (touch_tests objs (reach_of (read_at a n) ∷ reach_of (read_at b n) ∷ [])) (bytes_in (xs ++ (ys ++ []))) p)
    ∙ orders objs w n xs ys long
