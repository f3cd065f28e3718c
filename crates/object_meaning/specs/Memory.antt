-- What the operations on memory do: their result, or the kind of undefined operation that they are (C11 6.5p2, 6.5.3.2, 6.5.6,
-- 6.5.16.1). Nothing is changed by one that is undefined. This project's own.
use Rattle.std.specs.Prelude.{◌≡◌, ℕ, ◌+◌, ◌<◌, Bool, true, false, not, ◌&&◌, ◌||◌, List, [], ◌∷◌, length, map, Result, Ok, nat_eq, ⊤}
use Rattle.std.specs.Prelude.{ℤ, pos, ◌+ℤ◌}
use Rattle.std.specs.Ordering.{int_eq}
use Rattle.fc_base.specs.Widths.{width_bytes}
use Rattle.fc_base.specs.declared.levels.Width.{Width}
use Rattle.fc_base.specs.declared.levels.Mode.TheVariants.{M0}
use Rattle.fc_base.specs.declared.undefined.UndefKind.{UndefKind}
use Rattle.fc_base.specs.declared.undefined.UndefKind.TheVariants as kind
use Rattle.library_meaning.specs.Scan.{and_then}
use Rattle.object_meaning.specs.Objects.{Object, object_at, is_live, size_at, cell_at}
use Rattle.object_meaning.specs.Provenance.{named, part, trail, moved, is_claim, sized, at_place, IsPlace}
use Rattle.object_meaning.specs.Sizes.{rest_of}
use Rattle.object_meaning.specs.Cells.{bytes_in, number_of, bytes_of, pointer_in, cells_of}
use Rattle.object_meaning.specs.Touches.{Test, test, tested, is_null, is_dead, lies_in, reads, writes, is_out, touch_tests, cells_at, put_at}
use Rattle.object_meaning.specs.declared.values.Cell.{Cell}
use Rattle.object_meaning.specs.declared.values.Cell.TheVariants.{Byte, Uninit, Part}
use Rattle.object_meaning.specs.declared.values.PtrValue.{PtrValue}
use Rattle.object_meaning.specs.declared.values.PtrValue.TheVariants.{Null, At}

-- ---- loads and stores

abbrev pub load_cells : List Object → PtrValue → ℕ → Result (List Cell) UndefKind
load_cells objs v n = tested (touch_tests objs (reads v n ∷ [])) (Ok (cells_at objs (reads v n)))

-- the number of a width, the lowest byte first
abbrev pub load : List Object → PtrValue → Width → Result ℕ UndefKind
load objs v width = and_then (load_cells objs v (width_bytes width)) (λ cells. and_then (bytes_in cells) (λ bytes. Ok (number_of bytes)))

abbrev pub load_pointer : List Object → PtrValue → Result PtrValue UndefKind
load_pointer objs v = and_then (load_cells objs v 8) pointer_in

abbrev pub store_cells : List Object → PtrValue → List Cell → Result (List Object) UndefKind
store_cells objs v cells = tested (touch_tests objs (writes v (length cells) ∷ [])) (Ok (put_at objs v 0 cells))

abbrev pub store : List Object → PtrValue → Width → ℕ → Result (List Object) UndefKind
store objs v width x = store_cells objs v (map Byte (bytes_of (width_bytes width) x))

abbrev pub store_pointer : List Object → PtrValue → PtrValue → Result (List Object) UndefKind
store_pointer objs v x = store_cells objs v (cells_of x)

-- cells as they are, uninitialised and parts of pointers too, as if all were read before one is stored
abbrev pub copy : List Object → PtrValue → PtrValue → ℕ → Result (List Object) UndefKind
copy objs to from n = tested (touch_tests objs (writes to n ∷ reads from n ∷ [])) (Ok (put_at objs to 0 (cells_at objs (reads from n))))

-- ---- pointers that come from others

-- null is moved by nothing, and a place within its object, one past the end with it (C11 6.5.6p8)
abbrev pub leaves_object : List Object → ℤ → PtrValue → Bool
leaves_object objs d (Null claim) = false
leaves_object objs d (At p) = not (lies_in (size_at objs p.object) (p.offset +ℤ d) 0)

abbrev pub move_tests : List Object → PtrValue → ℤ → List Test
move_tests objs v d =
    test (is_dead objs v) kind.DeadObject
    ∷ test (is_null v && not (int_eq d (pos 0))) kind.NullPointer
    ∷ test (leaves_object objs d v) kind.BadArithmetic
    ∷ []

abbrev pub move_by : List Object → PtrValue → ℤ → Result PtrValue UndefKind
move_by objs v d = tested (move_tests objs v d) (Ok (moved d v))

-- a member, or an array used as a pointer: it may begin no later than its object's end, and the bytes `within` must be in it
abbrev pub place_tests : List Object → PtrValue → ℕ → List Test
place_tests objs v within =
    test (is_dead objs v) kind.DeadObject
    ∷ test (is_null v) kind.NullPointer
    ∷ test (is_out objs 0 within v) kind.OutOfObject
    ∷ []

-- of s bytes and k behind its base: on a path from a variable or literal; on one from a pointer; and there a trailing array
abbrev pub named_place : List Object → ℕ → ℕ → PtrValue → Result PtrValue UndefKind
named_place objs k s v = tested (place_tests objs v (k + s)) (Ok (at_place (named k s) v))

abbrev pub part_place : List Object → ℕ → ℕ → PtrValue → Result PtrValue UndefKind
part_place objs k s v = tested (place_tests objs v k) (Ok (at_place (part objs k s) v))

abbrev pub trail_place : List Object → ℕ → PtrValue → Result PtrValue UndefKind
trail_place objs k v = tested (place_tests objs v k) (Ok (at_place (trail objs k) v))

-- a result that is neither null nor has exactly the claimed bytes behind it
abbrev pub has_other_size : List Object → ℕ → PtrValue → Bool
has_other_size objs size (Null claim) = false
has_other_size objs size (At p) = not (nat_eq (rest_of M0 (size_at objs p.object) p) size)

abbrev pub attribute_tests : List Object → ℕ → PtrValue → List Test
attribute_tests objs size v =
    test (is_dead objs v || (is_claim size && has_other_size objs size v)) kind.FalseAttribute ∷ []

-- what a call gives whose function has the attribute `alloc_size`, for its body's result
abbrev pub attribute_result : List Object → ℕ → PtrValue → Result PtrValue UndefKind
attribute_result objs size v = tested (attribute_tests objs size v) (Ok (sized objs size v))

-- ---- what memory keeps

-- the byte of a cell is a byte, and its pointer has eight of them
abbrev pub IsCell : List Object → Cell → Type 0
IsCell objs (Byte b) = b < 256
IsCell objs Uninit = ⊤
IsCell objs (Part p k) = IsPlace objs p × (k < 8)

pub record IsMemory (objs : List Object) : Type 0 where
  pub full : (o : ℕ) → is_live objs o ≡ true → length (object_at objs o).cells ≡ size_at objs o
  pub cells : (o k : ℕ) → is_live objs o ≡ true → k < size_at objs o → IsCell objs (cell_at objs o k)

-- the same objects are there and live, and have their sizes
pub record SameObjects (old new : List Object) : Type 0 where
  pub live : (o : ℕ) → is_live new o ≡ is_live old o
  pub sizes : (o : ℕ) → size_at new o ≡ size_at old o
  pub count : length new ≡ length old
