-- Address constants (C11 6.6p9): pointers into objects with static storage, where they point, and the end of the subobject that they were
-- made from (GCC manual, "Object Size Checking"). `?:` of two is one too, which is this project's own.
use Rattle.std.specs.Prelude.{ℕ, ℤ, pos, negsuc, ◌+◌, ◌+ℤ◌, ◌*ℤ◌, neg_ℤ, ◌==◌, nat_le, min, Bool, true, false, not, ◌&&◌, ◌||◌, if◌then◌else◌, is_some, List, slice_get, Option, None, Some, option_and_then, Result, Ok, Err}
use Rattle.std.specs.Option.{option_map, option_map_or}
use Rattle.c_arithmetic.specs.Arithmetic.{integer}
use Rattle.c_layout.specs.declared.types.CType.{CType}
use Rattle.c_layout.specs.declared.tags.TagDef.{TagDef}
use Rattle.c_layout.specs.declared.types.Layout.{Layout}
use Rattle.c_layout.specs.declared.types.LayoutFault.{LayoutFault}
use Rattle.c_layout.specs.Layouts.{layout_within_limit, declared_within_limit, offset}
use Rattle.c_layout.specs.Types.{is_pointer, is_array, tag_of, pointed}
use Rattle.c_tree.specs.declared.constants.Constant.TheVariants.{NotConstant, Undefined, Value}
use Rattle.c_tree.specs.declared.constants.Constant.{Constant}
use Rattle.c_tree.specs.declared.operators.BinaryOp.TheVariants.{Add, Sub}
use Rattle.c_tree.specs.declared.operators.PrefixOp.TheVariants.{Address, Indirection}
use Rattle.c_tree.specs.declared.programs.DataDef.{DataDef}
use Rattle.c_tree.specs.declared.typed.TypedExpr.{TypedExpr, fold-TypedExpr}
use Rattle.c_tree.specs.declared.typed.TypedKind.{TypedKind, roll-TypedKind}
use Rattle.c_tree.specs.declared.typed.TypedKind.TheFolds.{map-TypedKind}
use Rattle.c_tree.specs.declared.typed.TypedKind.TheOpen.{TypedKind-F, TypedExpr-F}
use Rattle.c_tree.specs.Constants.{constant, constant_of}
use Rattle.c_tree.specs.Conversions.{number_type}
use Rattle.c_tree.specs.Paths.{is_trailing}
use Rattle.elab_meaning.specs.declared.addresses.AddressConstant.{AddressConstant}
use Rattle.elab_meaning.specs.declared.addresses.AddressConstant.TheVariants as address
use Rattle.elab_meaning.specs.declared.addresses.Pointer.{Pointer}
use Rattle.elab_meaning.specs.declared.addresses.Pointer.TheVariants.{Null, At}
use Rattle.elab_meaning.specs.declared.addresses.Spot.{Spot}

-- ---- pointer values

abbrev pub with_address : AddressConstant → (Bool → Pointer → AddressConstant) → AddressConstant
with_address address.NotConstant f = address.NotConstant
with_address address.Undefined f = address.Undefined
with_address (address.Value is_named p) f = f is_named p

abbrev pub with_number : Constant → (ℕ → AddressConstant) → AddressConstant
with_number NotConstant f = address.NotConstant
with_number Undefined f = address.Undefined
with_number (Value n) f = f n

-- an operand that isn't evaluated must be an address constant too
abbrev pub beside : AddressConstant → AddressConstant → AddressConstant
beside address.NotConstant b = address.NotConstant
beside _ b = b

-- on a pointer path from here on
abbrev pub by_pointer : AddressConstant → AddressConstant
by_pointer a = with_address a (λ is_named p. address.Value false p)

-- the size of a layout, if there is one
abbrev pub sized : Result Layout LayoutFault → Option ℕ
sized (Ok l) = Some l.size
sized (Err e) = None

-- a number within the object of this size
abbrev pub within : ℕ → ℤ → Option ℕ
within size (pos n) = if nat_le n size then Some n else None
within size (negsuc n) = None

module _ (tags : List TagDef) (objects : List DataDef) where
  abbrev pub object_size : ℕ → ℕ
  object_size number = option_map_or (λ o. o.size) (slice_get objects number) 0

  -- the bytes of a type, where it has a size within the limit
  abbrev pub size_of : CType → Option ℕ
  size_of t = sized (layout_within_limit tags t)

  -- ---- pointers that are moved (6.5.6p8): from the object's start to one past its end; null by nothing but 0

  abbrev pub moved_spot : Bool → Spot → ℤ → AddressConstant
  moved_spot is_named s bytes =
      option_map_or (λ n. address.Value is_named (At (record s { offset = n }))) (within (object_size s.object) (pos s.offset +ℤ bytes)) address.Undefined

  abbrev pub is_zero : ℤ → Bool
  is_zero (pos n) = n == 0
  is_zero (negsuc n) = false

  abbrev pub moved_pointer : ℤ → Bool → Pointer → AddressConstant
  moved_pointer bytes is_named Null = if is_zero bytes then address.Value is_named Null else address.Undefined
  moved_pointer bytes is_named (At s) = moved_spot is_named s bytes

  -- a pointer to a type, moved by so many of it
  abbrev pub moved : CType → ℤ → AddressConstant → AddressConstant
  moved t number a = option_map_or (λ size. with_address a (moved_pointer (number *ℤ pos size))) (size_of t) address.NotConstant

  -- ---- members and arrays

  -- a member: it begins within the object, and on a named path ends within it; its end is its own, but no further than the object's. A
  -- trailing array on a pointer path ends where the object does.
  abbrev pub part_at : Bool → Spot → ℕ → ℕ → Bool → AddressConstant
  part_at is_named s offset size trails =
      if not (nat_le offset (object_size s.object)) || (is_named && not (nat_le (offset + size) (object_size s.object))) then address.Undefined
      else address.Value is_named (At (record s {
        offset = offset;
        end = if trails then object_size s.object else min (offset + size) (object_size s.object);
      }))

  -- null has no member
  abbrev pub member_at : ℕ → ℕ → Bool → Bool → Pointer → AddressConstant
  member_at offset size trails is_named Null = address.Undefined
  member_at offset size trails is_named (At s) = part_at is_named s (s.offset + offset) size trails

  -- the bytes of a member: a flexible array member takes none (6.7.2.1p18)
  abbrev pub member_size : ℕ → ℕ → Option ℕ
  member_size tag member = option_and_then (λ def. option_and_then (λ m. sized (declared_within_limit tags m.ctype))
      (slice_get def.members member)) (slice_get tags tag)

  -- a member of a structure or union, by its number
  abbrev pub member_in : ℕ → ℕ → Bool → AddressConstant → AddressConstant
  member_in tag member trails a = option_map_or
      (λ start. option_map_or (λ size. with_address a (member_at start size trails)) (member_size tag member) address.NotConstant)
      (offset tags tag member) address.NotConstant

  abbrev pub member_of : CType → ℕ → Bool → AddressConstant → AddressConstant
  member_of t member trails a = option_map_or (λ tag. member_in tag member trails a) (tag_of t) address.NotConstant

  -- an array used as a pointer: where it isn't trailing, it ends at its own end. One without a size ends where it does as a member or
  -- variable.
  abbrev pub array_at : Option ℕ → Bool → Bool → Pointer → AddressConstant
  array_at size trails is_named Null = address.Undefined
  array_at None trails is_named (At s) = address.Value is_named (At s)
  array_at (Some size) trails is_named (At s) = part_at is_named s s.offset size trails

-- ---- expressions

-- a part of a node: itself; as an address constant, if its type is a pointer's; and the pointer to the place that it designates
pub record Part : Type 0 where
  pub whole : TypedExpr
  pub pointer : AddressConstant
  pub place : AddressConstant

-- the same of a kind of expression: the place by whether it is a trailing array
pub record KindPart : Type 0 where
  pub whole : TypedKind
  pub pointer : AddressConstant
  pub place : Bool → AddressConstant

module _ (tags : List TagDef) (objects : List DataDef) where
  -- the number of a pointer sum
  abbrev pub number : Part → (ℤ → AddressConstant) → AddressConstant
  number index f = with_number (constant tags index.whole) (λ n. f (integer (number_type index.whole.ctype).signed n))

  abbrev pub plus : (ℤ → ℤ) → Part → Part → AddressConstant
  plus sign p index = number index (λ n. moved tags objects (pointed p.whole.ctype) (sign n) p.pointer)

  -- 6.5.6p8: the pointer and the number in either order
  abbrev pub sum : Part → Part → AddressConstant
  sum a b = if is_pointer a.whole.ctype then plus (λ n. n) a b else plus (λ n. n) b a

  -- an array, a pointer, or an integer constant expression of value 0
  abbrev pub cast_pointer : Part → AddressConstant
  cast_pointer of =
      if is_array of.whole.ctype
      then with_address of.place (array_at tags objects (size_of tags objects of.whole.ctype) (is_trailing tags of.whole))
      else (if is_pointer of.whole.ctype then by_pointer of.pointer
      else with_number (constant tags of.whole) (λ n. if n == 0 then address.Value false Null else address.NotConstant))

  -- 6.5.15p4: the arm that the test, an integer constant expression, chooses
  abbrev pub chosen : Part → Part → Part → AddressConstant
  chosen test a b =
      beside a.pointer (beside b.pointer (with_number (constant tags test.whole) (λ n. if n == 0 then b.pointer else a.pointer)))

  abbrev pub kind_pointer : TypedKind-F KindPart Part → AddressConstant
  kind_pointer (TypedKind-F.Cast of added) = cast_pointer of
  kind_pointer (TypedKind-F.Prefix Address of) = by_pointer of.place
  kind_pointer (TypedKind-F.Binary Add a b) = by_pointer (sum a b)
  kind_pointer (TypedKind-F.Binary Sub a b) = by_pointer (plus neg_ℤ a b)
  kind_pointer (TypedKind-F.Cond test a b) = by_pointer (chosen test a b)
  kind_pointer _ = address.NotConstant

  abbrev pub kind_place : TypedKind-F KindPart Part → Bool → AddressConstant
  kind_place (TypedKind-F.Object n) trails = address.Value true (At (record { object = n; offset = 0; end = object_size tags objects n }))
  -- an element keeps the end of its array, and `a[i]` the path of the array a
  kind_place (TypedKind-F.Index a b) trails = sum a b
  kind_place (TypedKind-F.Prefix Indirection of) trails = by_pointer of.pointer
  kind_place (TypedKind-F.Member base true member) trails =
      member_of tags objects (pointed base.whole.ctype) member trails (by_pointer base.pointer)
  kind_place (TypedKind-F.Member base false member) trails = member_of tags objects base.whole.ctype member trails base.place
  kind_place _ trails = address.NotConstant

  abbrev pub kind_part : TypedKind-F KindPart Part → KindPart
  kind_part k = record {
    whole = roll-TypedKind (map-TypedKind KindPart Part TypedKind TypedExpr (λ a. a.whole) (λ a. a.whole) k);
    pointer = kind_pointer k;
    place = kind_place k;
  }

  abbrev pub whole_of : TypedExpr-F KindPart Part → TypedExpr
  whole_of x = record { kind = x.kind.whole; ctype = x.ctype; place = x.place }

  abbrev pub expr_part : TypedExpr-F KindPart Part → Part
  expr_part x = record { whole = whole_of x; pointer = x.kind.pointer; place = x.kind.place (is_trailing tags (whole_of x)) }

  abbrev pub part_of : TypedExpr → Part
  part_of = fold-TypedExpr KindPart Part kind_part expr_part

  abbrev pub known : AddressConstant → Option Pointer
  known (address.Value is_named p) = Some p
  known _ = None

  -- the pointer that an address constant is
  abbrev pub address_of : TypedExpr → Option Pointer
  address_of x = if is_pointer x.ctype then known (part_of x).pointer else None

  -- what a static initialiser may be: an integer constant expression or an address constant (6.7.9p4)
  abbrev pub is_constant : TypedExpr → Bool
  is_constant x = is_some (constant_of tags x) || is_some (address_of x)
