-- Bytes that an operation touches, as code hands them on, and the tests of it as code reads them.
use Rattle.std.specs.Prelude.{ℕ, ◌≤◌, ◌^◌, Bool, false, ◌&&◌, ◌||◌, List, [], ◌∷◌, ◌++◌, Result, Ok, Err, if◌then◌else◌, nat_lt, pos, ◌+ℤ◌, ◌≤ℤ◌, ⊤}
use Rattle.fc_base.specs.declared.undefined.UndefKind.{UndefKind}
use Rattle.fc_base.specs.declared.undefined.UndefKind.TheVariants as kind
use Rattle.library_meaning.specs.Rows.{stretch}
use Rattle.library_meaning.specs.Table.{pointers}
use Rattle.object_meaning.specs.Objects.{Object}
use Rattle.object_meaning.specs.OnObjects.{overlap}
use Rattle.object_meaning.specs.Touches as touches
use Rattle.object_meaning.specs.Touches.{Test, test, touch_tests, is_null, is_dead, is_out, is_fixed}
use Rattle.object_meaning.specs.declared.values.PtrValue.{PtrValue}
use Rattle.object_meaning.specs.declared.values.PtrValue.TheVariants.{Null, At}
use Rattle.src_lib.specs.declared.reaches.Reach.{Reach}

abbrev pub reach_of : Reach → touches.Reach
reach_of r = record { written = r.written; pointer = r.pointer; offset = r.offset; count = r.count }

-- null that is touched, a byte outside its object, a byte of an object that may not be written
abbrev pub is_nothing : Reach → Bool
is_nothing r = is_null r.pointer && nat_lt 0 r.count

abbrev pub leaves : List Object → Reach → Bool
leaves objs r = is_out objs r.offset r.count r.pointer

abbrev pub is_kept : List Object → Reach → Bool
is_kept objs r = r.written && (is_fixed objs r.pointer && nat_lt 0 r.count)

-- two reaches in the order of the tests, and one
abbrev pub touched_both : List Object → Reach → Reach → Result (Unit {0}) UndefKind
touched_both objs a b =
    if is_dead objs a.pointer || is_dead objs b.pointer then Err kind.DeadObject
    else (if is_nothing a || is_nothing b then Err kind.NullPointer
    else (if leaves objs a || leaves objs b then Err kind.OutOfObject
    else (if is_kept objs a || is_kept objs b then Err kind.ReadOnly else Ok tt)))

abbrev pub touched_one : List Object → Reach → Result (Unit {0}) UndefKind
touched_one objs a =
    if is_dead objs a.pointer then Err kind.DeadObject
    else (if is_nothing a then Err kind.NullPointer
    else (if leaves objs a then Err kind.OutOfObject
    else (if is_kept objs a then Err kind.ReadOnly else Ok tt)))

-- the tests of bytes that are stored from what is read, which may not overlap them
abbrev pub overlaps : Reach → Reach → Bool
overlaps to from = overlap to.pointer (stretch 0 to.offset to.count) from.pointer (stretch 1 from.offset from.count)

-- a pointer that is not before its object, and so far behind it
abbrev pub StartsIn : ℕ → PtrValue → Type 0
StartsIn offset (Null claim) = ⊤
StartsIn offset (At p) = (pos 0 ≤ℤ p.offset) × (offset ≤ 2 ^ 32)

-- a place so far behind a pointer is one of an object
abbrev pub IsBehind : PtrValue → ℕ → Type 0
IsBehind (Null claim) count = ⊤
IsBehind (At p) count = (pos 0 ≤ℤ p.offset) × ((p.offset +ℤ pos count) ≤ℤ pos (2 ^ 32))

abbrev pub apart_tests : List Object → Reach → Reach → List Test
apart_tests objs to from =
    touch_tests objs (reach_of to ∷ reach_of from ∷ []) ++ test (overlaps to from || false) kind.Overlap ∷ []

-- a look at the two pointers of a call, and at those of them that it touches
abbrev pub pointed : List Object → PtrValue → PtrValue → Bool → Bool → Result (Unit {0}) UndefKind
pointed objs d s writes reads =
    if is_dead objs d || is_dead objs s then Err kind.DeadObject
    else (if (writes && is_null d) || (reads && is_null s) then Err kind.NullPointer else Ok tt)

-- the pointers that are touched, where the second one may be read or not
abbrev pub touched_for : Bool → List ℕ
touched_for reads = if reads then pointers else 0 ∷ []
