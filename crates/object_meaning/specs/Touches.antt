-- Operations that read and write bytes behind pointers, and what is undefined about them (C11 6.5.3.2p4, 6.2.4p2 and 6.4.5p7), in
-- the order in which the kinds are taken: each is tested over all pointers of an operation before the next. This project's own.
use Rattle.std.specs.Prelude.{ℕ, ◌+◌, Bool, true, false, not, ◌&&◌, List, [], ◌∷◌, Result, Err, nat_le, nat_lt, if◌then◌else◌, take}
use Rattle.std.specs.Prelude.{ℤ, pos, negsuc, ◌+ℤ◌}
use Rattle.std.specs.List.{list_any}
use Rattle.fc_base.specs.declared.undefined.UndefKind.{UndefKind}
use Rattle.fc_base.specs.declared.undefined.UndefKind.TheVariants as kind
use Rattle.object_meaning.specs.Objects.{Object, object_at, is_live, size_at, cells_behind, put_cells}
use Rattle.object_meaning.specs.declared.values.Cell.{Cell}
use Rattle.object_meaning.specs.declared.values.PtrValue.{PtrValue}
use Rattle.object_meaning.specs.declared.values.PtrValue.TheVariants.{Null, At}

-- a test that an operation may fail, and the kind that it then is
pub record Test : Type 0 where
  pub fails : Bool
  pub kind : UndefKind

abbrev pub test : Bool → UndefKind → Test
test fails kind = record { fails = fails; kind = kind }

-- the first that fails, or the result
abbrev pub tested : {X : Type 0} → List Test → Result X UndefKind → Result X UndefKind
tested [] result = result
tested (t ∷ ts) result = if t.fails then Err t.kind else tested ts result

abbrev pub is_null : PtrValue → Bool
is_null (Null claim) = true
is_null (At p) = false

abbrev pub is_dead : List Object → PtrValue → Bool
is_dead objs (Null claim) = false
is_dead objs (At p) = not (is_live objs p.object)

-- so many bytes from an offset on lie in an object of this size
abbrev pub lies_in : ℕ → ℤ → ℕ → Bool
lies_in size (pos start) count = nat_le (start + count) size
lies_in size (negsuc k) count = false

-- bytes that one operation reads or writes: so many, from so far behind a pointer on
pub record Reach : Type 0 where
  pub written : Bool
  pub pointer : PtrValue
  pub offset : ℕ
  pub count : ℕ

abbrev pub reads : PtrValue → ℕ → Reach
reads v count = record { written = false; pointer = v; offset = 0; count = count }

abbrev pub writes : PtrValue → ℕ → Reach
writes v count = record { written = true; pointer = v; offset = 0; count = count }

-- no byte is touched where the count is 0
abbrev pub touches : Reach → Bool
touches r = nat_lt 0 r.count

abbrev pub is_out : List Object → ℕ → ℕ → PtrValue → Bool
is_out objs offset count (Null claim) = false
is_out objs offset count (At p) = not (lies_in (size_at objs p.object) (p.offset +ℤ pos offset) count)

abbrev pub is_fixed : List Object → PtrValue → Bool
is_fixed objs (Null claim) = false
is_fixed objs (At p) = not (object_at objs p.object).writable

abbrev pub touch_tests : List Object → List Reach → List Test
touch_tests objs all =
    test (list_any (λ r. is_dead objs r.pointer) all) kind.DeadObject
    ∷ test (list_any (λ r. is_null r.pointer && touches r) all) kind.NullPointer
    ∷ test (list_any (λ r. is_out objs r.offset r.count r.pointer) all) kind.OutOfObject
    ∷ test (list_any (λ r. r.written && (is_fixed objs r.pointer && touches r)) all) kind.ReadOnly
    ∷ []

-- cells behind a pointer. There are none behind null
abbrev pub cells_from : List Object → PtrValue → ℕ → List Cell
cells_from objs (Null claim) offset = []
cells_from objs (At p) offset = cells_behind (object_at objs p.object).cells (p.offset +ℤ pos offset)

-- the cells that an operation reads
abbrev pub cells_at : List Object → Reach → List Cell
cells_at objs r = take r.count (cells_from objs r.pointer r.offset)

-- other cells behind a pointer
abbrev pub put_at : List Object → PtrValue → ℕ → List Cell → List Object
put_at objs (Null claim) offset cells = objs
put_at objs (At p) offset cells = put_cells objs p.object (p.offset +ℤ pos offset) cells
