-- The library's rows over objects: the plain meaning of a call, with the kinds of undefined operations in their order. This
-- project's own; the rows stand in `library_meaning`.
use Rattle.std.specs.Prelude.{ℕ, ◌==◌, Bool, true, false, ◌&&◌, ◌||◌, List, [], ◌∷◌, ◌++◌, length, map, get_or, Option, None, Some, Result, Ok, Err, if◌then◌else◌}
use Rattle.std.specs.Prelude.{ℤ, pos, ◌+ℤ◌}
use Rattle.std.specs.List.{list_any}
use Rattle.fc_base.specs.declared.undefined.UndefKind.{UndefKind}
use Rattle.fc_base.specs.declared.undefined.UndefKind.TheVariants as kind
use Rattle.library_meaning.specs.OnBytes.{meets}
use Rattle.library_meaning.specs.Rows.{Side, Stretch, stretch, Touched, Stored, These, Cells, Given, Count, Behind, Forgot, Nowhere}
use Rattle.library_meaning.specs.Scan.{Found, at_limit, scan, Pair, scan_both}
use Rattle.object_meaning.specs.Cells.{byte_at, bytes_in}
use Rattle.object_meaning.specs.Objects.{Object}
use Rattle.object_meaning.specs.Provenance.{null, moved, forgot}
use Rattle.object_meaning.specs.Touches.{Test, test, tested, is_null, is_dead, Reach, touch_tests, cells_from, cells_at, put_at}
use Rattle.object_meaning.specs.declared.values.Cell.{Cell}
use Rattle.object_meaning.specs.declared.values.Cell.TheVariants.{Byte}
use Rattle.object_meaning.specs.declared.values.PtrValue.{PtrValue}
use Rattle.object_meaning.specs.declared.values.PtrValue.TheVariants.{Null, At}
use Rattle.object_meaning.specs.declared.values.Value.{Value}
use Rattle.object_meaning.specs.declared.values.Value.TheVariants.{Int, Pointer, Uninit, Nothing}

-- why a call ends a run, or is undefined
pub data ObjectStop : Type 0 where
  Overflow : ObjectStop
  BadFormat : ObjectStop
  Undefined : (kind : UndefKind) → ObjectStop

abbrev pub unless_undefined : {X : Type 0} → Result X UndefKind → Result X ObjectStop
unless_undefined (Ok x) = Ok x
unless_undefined (Err k) = Err (Undefined k)

-- ---- operands

abbrev pub operand : List Value → ℕ → Value
operand args i = get_or args i Uninit

-- behind what is no pointer there is as much as behind null. The types of a call's arguments rule it out
abbrev pub as_pointer : Value → PtrValue
as_pointer (Int n) = null
as_pointer (Pointer v) = v
as_pointer Uninit = null
as_pointer Nothing = null

abbrev pub pointer_at : List Value → ℕ → PtrValue
pointer_at args i = as_pointer (operand args i)

abbrev pub as_number : Value → Result ℕ UndefKind
as_number (Int n) = Ok n
as_number (Pointer v) = Err kind.Uninitialised
as_number Uninit = Err kind.Uninitialised
as_number Nothing = Err kind.Uninitialised

abbrev pub reach_of : List Value → Touched → Reach
reach_of args t = record { written = t.written; pointer = pointer_at args t.at.operand; offset = t.at.offset; count = t.at.count }

abbrev pub reading : Stretch → Touched
reading s = record { written = false; at = s }

abbrev pub writing : Stretch → Touched
writing s = record { written = true; at = s }

-- stretches that one operation touches
abbrev pub touched_tests : List Value → List Object → List Touched → List Test
touched_tests args objs all = touch_tests objs (map (reach_of args) all)

abbrev pub stretch_cells : List Value → List Object → Stretch → List Cell
stretch_cells args objs s = cells_at objs (reach_of args (reading s))

abbrev pub all_cells : List Value → List Object → List Stretch → List Cell
all_cells args objs [] = []
all_cells args objs (s ∷ ss) = stretch_cells args objs s ++ all_cells args objs ss

-- ---- the acts

-- a scan looks at its pointer once a cell is read, and then comes from cell to cell
abbrev pub scan_tests : List Object → PtrValue → List Test
scan_tests objs v = test (is_dead objs v) kind.DeadObject ∷ test (is_null v) kind.NullPointer ∷ []

abbrev pub text_from : List Value → List Object → (ℕ → Bool) → Stretch → Result Found UndefKind
text_from args objs stops s =
    if s.count == 0
    then Ok at_limit
    else tested (scan_tests objs (pointer_at args s.operand))
    (scan byte_at kind.OutOfObject stops s.count (cells_from objs (pointer_at args s.operand) s.offset))

-- all bytes at once: an uninitialised cell of any comes before a part of a pointer of any
abbrev pub bytes_from : List Value → List Object → List Stretch → Result (List ℕ) UndefKind
bytes_from args objs from = tested (touched_tests args objs (map reading from)) (bytes_in (all_cells args objs from))

-- null is tested over both, and then the cells come by turns
abbrev pub both_from : List Value → List Object → ℕ → ℕ → Result Pair UndefKind
both_from args objs a b =
    tested (test (is_dead objs (pointer_at args a) || is_dead objs (pointer_at args b)) kind.DeadObject
    ∷ test (is_null (pointer_at args a) || is_null (pointer_at args b)) kind.NullPointer
    ∷ []) (scan_both byte_at kind.OutOfObject (cells_from objs (pointer_at args a) 0) (cells_from objs (pointer_at args b) 0))

-- a dead one among all pointers of the call, then null among those that it will touch
abbrev pub point_tests : List Value → List Object → List ℕ → List ℕ → List Test
point_tests args objs pointers touched =
    test (list_any (λ i. is_dead objs (pointer_at args i)) pointers) kind.DeadObject
    ∷ test (list_any (λ i. is_null (pointer_at args i)) touched) kind.NullPointer
    ∷ []

-- so many bytes from each of two offsets on meet
abbrev pub meets_behind : ℤ → ℕ → ℤ → ℕ → Bool
meets_behind (pos a) n (pos b) k = meets a n b k
meets_behind _ n _ k = false

-- two stretches of one object have a byte in common
abbrev pub overlap : PtrValue → Stretch → PtrValue → Stretch → Bool
overlap (At p) s (At q) t = p.object == q.object && meets_behind (p.offset +ℤ pos s.offset) s.count (q.offset +ℤ pos t.offset) t.count
overlap _ s _ t = false

abbrev pub overlaps_any : List Value → Stretch → List Stretch → Bool
overlaps_any args to from = list_any (λ s. overlap (pointer_at args to.operand) to (pointer_at args s.operand) s) from

abbrev pub apart_tests : List Value → List Object → Stretch → List Stretch → List Test
apart_tests args objs to from =
    touched_tests args objs (writing to ∷ map reading from) ++ test (overlaps_any args to from) kind.Overlap ∷ []

abbrev pub store_at : List Value → List Object → ℕ → ℕ → Stored → Result (List Object) UndefKind
store_at args objs i k (These bytes) =
    tested (touched_tests args objs (writing (stretch i k (length bytes)) ∷ [])) (Ok (put_at objs (pointer_at args i) k (map Byte bytes)))
store_at args objs i k (Cells s) =
    tested (touched_tests args objs (writing (stretch i k s.count) ∷ reading s ∷ []))
    (Ok (put_at objs (pointer_at args i) k (stretch_cells args objs s)))

-- args are the operands, as many as the call has
abbrev pub on_objects : List Value → Side (List Object) ObjectStop
on_objects args = record {
  number = λ i. unless_undefined (as_number (operand args i));
  text = λ objs stops from. unless_undefined (text_from args objs stops from);
  bytes = λ objs from. unless_undefined (bytes_from args objs from);
  both = λ objs a b. unless_undefined (both_from args objs a b);
  point = λ objs pointers touched. unless_undefined (tested (point_tests args objs pointers touched) (Ok objs));
  touch = λ objs all. unless_undefined (tested (touched_tests args objs all) (Ok objs));
  apart = λ objs strict to from. unless_undefined (tested (apart_tests args objs to from) (Ok objs));
  store = λ objs i k what. unless_undefined (store_at args objs i k what);
  overflow = Overflow;
  bad_format = BadFormat;
}

-- ---- before and after a row

-- a place behind a value; null has none but itself
abbrev pub behind_pointer : PtrValue → ℕ → Value
behind_pointer (Null claim) k = if k == 0 then Pointer (Null claim) else Uninit
behind_pointer (At p) k = Pointer (moved (pos k) (At p))

abbrev pub behind : Value → ℕ → Value
behind (Int n) k = Uninit
behind (Pointer v) k = behind_pointer v k
behind Uninit k = Uninit
behind Nothing k = Uninit

abbrev pub forgotten : Value → Value
forgotten (Int n) = Int n
forgotten (Pointer v) = Pointer (forgot v)
forgotten Uninit = Uninit
forgotten Nothing = Nothing

-- the value that a call gives
abbrev pub value_of : List Value → Given → Value
value_of args (Count n) = Int n
value_of args (Behind i k) = behind (operand args i) k
value_of args (Forgot i k) = forgotten (behind (operand args i) k)
value_of args Nowhere = Pointer null

abbrev pub is_missing : Value → Bool
is_missing (Int n) = false
is_missing (Pointer v) = false
is_missing Uninit = true
is_missing Nothing = true

abbrev pub is_dead_destination : List Value → List Object → Option ℕ → Bool
is_dead_destination args objs None = false
is_dead_destination args objs (Some destination) = is_dead objs (pointer_at args destination)

-- what ends a call before its row: an argument that was never given, and then, before its size is asked, a dead destination of a
-- function with a checked form
abbrev pub call_tests : List Value → List Object → Option ℕ → List Test
call_tests args objs destination =
    test (list_any is_missing args) kind.Uninitialised
    ∷ test (is_dead_destination args objs destination) kind.DeadObject
    ∷ []
