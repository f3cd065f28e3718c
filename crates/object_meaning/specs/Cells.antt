-- What cells say together: bytes, a number (C11 6.2.6.1), a pointer. This project's own.
use Rattle.std.specs.Prelude.{ℕ, zero, suc, ◌+◌, ◌*◌, ◌/◌, ◌%◌, ◌==◌, Bool, true, false, ◌&&◌, List, [], ◌∷◌, replicate, Result, Ok, Err, if◌then◌else◌}
use Rattle.std.specs.List.{list_any, list_all}
use Rattle.std.specs.Ordering.{int_eq}
use Rattle.fc_base.specs.declared.undefined.UndefKind.{UndefKind}
use Rattle.fc_base.specs.declared.undefined.UndefKind.TheVariants as kind
use Rattle.object_meaning.specs.Provenance.{null, forgot}
use Rattle.object_meaning.specs.declared.values.Cell.{Cell}
use Rattle.object_meaning.specs.declared.values.Cell.TheVariants.{Byte, Uninit, Part}
use Rattle.object_meaning.specs.declared.values.Ptr.{Ptr}
use Rattle.object_meaning.specs.declared.values.PtrValue.{PtrValue}
use Rattle.object_meaning.specs.declared.values.PtrValue.TheVariants.{Null, At}
use Rattle.object_meaning.specs.declared.values.Tag.{Tag}
use Rattle.object_meaning.specs.declared.values.Tag.TheVariants.{Known, Bound, Unknown}

-- a cell that is looked at by itself
abbrev pub byte_at : Cell → Result ℕ UndefKind
byte_at (Byte b) = Ok b
byte_at Uninit = Err kind.Uninitialised
byte_at (Part p k) = Err kind.PointerBytes

-- cells that one operation looks at: an uninitialised one anywhere comes before a part of a pointer anywhere
abbrev pub byte_then : Cell → Result (List ℕ) UndefKind → Result (List ℕ) UndefKind
byte_then (Byte b) (Ok bytes) = Ok (b ∷ bytes)
byte_then (Byte b) (Err e) = Err e
byte_then Uninit rest = Err kind.Uninitialised
byte_then (Part p k) (Ok bytes) = Err kind.PointerBytes
byte_then (Part p k) (Err e) = Err e

abbrev pub bytes_in : List Cell → Result (List ℕ) UndefKind
bytes_in [] = Ok []
bytes_in (c ∷ cs) = byte_then c (bytes_in cs)

-- the number of bytes, the lowest first, and the n lowest bytes of a number
abbrev pub number_of : List ℕ → ℕ
number_of [] = 0
number_of (b ∷ bs) = b + 256 * number_of bs

abbrev pub bytes_of : ℕ → ℕ → List ℕ
bytes_of zero x = []
bytes_of (suc n) x = x % 256 ∷ bytes_of n (x / 256)

-- ---- pointers

abbrev pub same_tag : Tag → Tag → Bool
same_tag Known Known = true
same_tag (Bound r) (Bound s) = int_eq r s
same_tag Unknown Unknown = true
same_tag _ _ = false

abbrev pub same_place : Ptr → Ptr → Bool
same_place p q = p.object == q.object && (int_eq p.offset q.offset && (int_eq p.end q.end && same_tag p.tag q.tag))

abbrev pub is_part : Ptr → ℕ → Cell → Bool
is_part p k (Part q j) = same_place p q && k == j
is_part p k _ = false

-- the parts of one pointer in order, from the k-th on
abbrev pub are_parts : Ptr → ℕ → List Cell → Bool
are_parts p k [] = true
are_parts p k (c ∷ cs) = is_part p k c && are_parts p (suc k) cs

abbrev pub is_uninit : Cell → Bool
is_uninit Uninit = true
is_uninit _ = false

abbrev pub is_zero : Cell → Bool
is_zero (Byte b) = b == 0
is_zero _ = false

-- what is loaded of a pointer is its place, and nothing is known of it
abbrev pub pointer_from : List Cell → Result PtrValue UndefKind
pointer_from [] = Err kind.PointerBytes
pointer_from (Part p k ∷ cs) = if are_parts p 0 (Part p k ∷ cs) then Ok (forgot (At p)) else Err kind.PointerBytes
pointer_from (Byte b ∷ cs) = if list_all is_zero (Byte b ∷ cs) then Ok null else Err kind.PointerBytes
pointer_from (Uninit ∷ cs) = Err kind.PointerBytes

-- the pointer of eight cells: the eight parts of one in order, or eight zero bytes for null
abbrev pub pointer_in : List Cell → Result PtrValue UndefKind
pointer_in cells = if list_any is_uninit cells then Err kind.Uninitialised else pointer_from cells

abbrev pub parts_of : Ptr → ℕ → ℕ → List Cell
parts_of p k zero = []
parts_of p k (suc n) = Part p k ∷ parts_of p (suc k) n

-- a pointer as it is stored, with all that is known of it; null loses its claim
abbrev pub cells_of : PtrValue → List Cell
cells_of (Null claim) = replicate 8 (Byte 0)
cells_of (At p) = parts_of p 0 8
