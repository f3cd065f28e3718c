-- Pointer values, and the rules by which a pointer comes from another: what is known of the bytes behind it. This project's own;
-- what is known of them is what `__builtin_dynamic_object_size` gives (GCC manual, "Object Size Checking").
use Rattle.std.specs.Prelude.{◌≡◌, ℕ, ◌+◌, ◌<◌, ◌≤◌, ◌^◌, Bool, true, List, length, Option, None, Some, if◌then◌else◌, nat_lt, ⊤}
use Rattle.std.specs.Prelude.{ℤ, pos, ◌+ℤ◌, ◌-ℤ◌, ◌≤ℤ◌}
use Rattle.std.specs.Int.{int_min}
use Rattle.object_meaning.specs.Objects.{Object, is_live, size_at}
use Rattle.object_meaning.specs.declared.values.Ptr.{Ptr}
use Rattle.object_meaning.specs.declared.values.PtrValue.{PtrValue}
use Rattle.object_meaning.specs.declared.values.PtrValue.TheVariants.{Null, At}
use Rattle.object_meaning.specs.declared.values.Tag.{Tag}
use Rattle.object_meaning.specs.declared.values.Tag.TheVariants.{Known, Bound, Unknown}

abbrev pub place : ℕ → ℤ → ℤ → Tag → Ptr
place object offset end tag = record { object = object; offset = offset; end = end; tag = tag }

-- the null constant (C11 6.3.2.3p3)
abbrev pub null : PtrValue
null = Null None

-- a rule on places does nothing to null
abbrev pub at_place : (Ptr → Ptr) → PtrValue → PtrValue
at_place rule (Null claim) = Null claim
at_place rule (At p) = At (rule p)

-- ---- the rules

-- a variable or a string literal: all of its object
abbrev pub home : List Object → ℕ → PtrValue
home objs o = At (place o (pos 0) (pos (size_at objs o)) Known)

-- a member, or an array used as a pointer, of s bytes and k behind its base, where the path starts at a variable or literal
abbrev pub named : ℕ → ℕ → Ptr → Ptr
named k s p = place p.object (p.offset +ℤ pos k) (p.offset +ℤ pos (k + s)) Known

-- what is known of a member of s bytes behind a pointer of which this is known: the declared bytes, if no more
abbrev pub part_tag : ℕ → Tag → Tag
part_tag s Known = Known
part_tag s (Bound r) = Bound (pos s)
part_tag s Unknown = Bound (pos s)

-- the same where the path starts at a pointer: it ends with its object at the latest
abbrev pub part : List Object → ℕ → ℕ → Ptr → Ptr
part objs k s p =
    place p.object (p.offset +ℤ pos k) (int_min (p.offset +ℤ pos (k + s)) (pos (size_at objs p.object))) (part_tag s p.tag)

abbrev pub trail_tag : Tag → Tag
trail_tag Known = Known
trail_tag (Bound r) = Unknown
trail_tag Unknown = Unknown

-- a trailing array on such a path: it ends with its object
abbrev pub trail : List Object → ℕ → Ptr → Ptr
trail objs k p = place p.object (p.offset +ℤ pos k) (pos (size_at objs p.object)) (trail_tag p.tag)

abbrev pub moved_tag : ℤ → Tag → Tag
moved_tag d Known = Known
moved_tag d (Bound r) = Bound (r -ℤ d)
moved_tag d Unknown = Unknown

-- a pointer moved by so many bytes (C11 6.5.6p8). Null is moved by none
abbrev pub moved : ℤ → PtrValue → PtrValue
moved d v = at_place (λ p. record p { offset = p.offset +ℤ d; tag = moved_tag d p.tag }) v

-- a pointer of which nothing is known: one loaded from memory, one that a function got or gave, the null constant
abbrev pub forgot : PtrValue → PtrValue
forgot (Null claim) = Null None
forgot (At p) = At (record p { tag = Unknown })

-- a cast, an assignment, a chosen operand
abbrev pub same : PtrValue → PtrValue
same v = v

-- ---- allocations (GCC manual, the attribute `alloc_size`)

-- a size that a result is known by, which no object passes (PTRDIFF_MAX). A product that 64 bits don't hold is above it
abbrev pub is_claim : ℕ → Bool
is_claim size = nat_lt size (2 ^ 63)

abbrev pub allocated : Option ℕ → ℕ → PtrValue
allocated None size = Null (Some size)
allocated (Some o) size = At (place o (pos 0) (pos size) Known)

-- what malloc, calloc and realloc give for so many bytes: this object, or null where there is none, which keeps the size
abbrev pub fresh : Option ℕ → ℕ → PtrValue
fresh object size = if is_claim size then allocated object size else forgot (allocated object size)

abbrev pub attributed : List Object → ℕ → PtrValue → PtrValue
attributed objs size (Null claim) = Null (Some size)
attributed objs size (At p) = At (place p.object p.offset (pos (size_at objs p.object)) Known)

-- what a call gives whose function has the attribute, where its body gives this and its arguments name so many bytes
abbrev pub sized : List Object → ℕ → PtrValue → PtrValue
sized objs size v = if is_claim size then attributed objs size v else forgot v

-- ---- what every pointer keeps

-- from an object's start to one past its end
abbrev pub IsWithin : ℕ → ℤ → Type 0
IsWithin size offset = (pos 0 ≤ℤ offset) × (offset ≤ℤ pos size)

-- a bound holds all bytes up to the end, and no sum of it is near the numbers' limit
abbrev pub BoundHolds : ℤ → ℤ → Tag → Type 0
BoundHolds offset end Known = ⊤
BoundHolds offset end (Bound r) = ((end -ℤ offset) ≤ℤ r) × ((r +ℤ offset) ≤ℤ pos (2 ^ 62))
BoundHolds offset end Unknown = ⊤

-- of a pointer to a live object of so many bytes
pub record IsValid (size : ℕ) (p : Ptr) : Type 0 where
  pub small : size ≤ 2 ^ 32
  pub starts : IsWithin size p.offset
  pub ends : IsWithin size p.end
  pub bound : BoundHolds p.offset p.end p.tag

-- a pointer is to an object that is there, and valid while that lives
pub record IsPlace (objs : List Object) (p : Ptr) : Type 0 where
  pub there : p.object < length objs
  pub valid : is_live objs p.object ≡ true → IsValid (size_at objs p.object) p

abbrev pub IsPointer : List Object → PtrValue → Type 0
IsPointer objs (Null claim) = ⊤
IsPointer objs (At p) = IsPlace objs p
