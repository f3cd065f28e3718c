-- The operators: which operands they take, to which types these are converted, and of which type the result is (C11 6.5.3 and 6.5.5 to
-- 6.5.16). One equation an operator, or a group of them that C11 describes together.
use Rattle.std.specs.Prelude.{Bool, true, false, not, ◌&&◌, ◌||◌, if◌then◌else◌, List, Option, None, Some}
use Rattle.c_layout.specs.declared.types.CType.{CType, out-CType}
use Rattle.c_layout.specs.declared.types.CType.TheOpen.{CType-F}
use Rattle.c_layout.specs.declared.types.CType.TheVariants.{Void, Ptr}
use Rattle.c_layout.specs.declared.tags.TagDef.{TagDef}
use Rattle.c_tree.specs.declared.operators.AssignOp.{AssignOp}
use Rattle.c_tree.specs.declared.operators.AssignOp.TheVariants as assign
use Rattle.c_tree.specs.declared.operators.BinaryOp.{BinaryOp}
use Rattle.c_tree.specs.declared.operators.BinaryOp.TheVariants as binary
use Rattle.c_tree.specs.declared.operators.PrefixOp.{PrefixOp}
use Rattle.c_tree.specs.declared.operators.PrefixOp.TheVariants as prefix
use Rattle.c_layout.specs.Types.{Layer, is_void, is_integer, is_pointer, is_scalar, is_array, is_structure, pointed, same_type, promoted, int, long, agreeing_pointers}
use Rattle.c_tree.specs.Conversions.{common}
use Rattle.elab_meaning.specs.declared.operations.Operation.{Operation}
use Rattle.elab_meaning.specs.declared.operations.Single.{Single}
use Rattle.elab_meaning.specs.Conversions.{Operand, is_void_pointer, points_to_no_size, fits}

-- operands that are taken, at these types
abbrev pub takes : CType → CType → CType → Operation
takes left right result = record { incomplete = false; refused = false; left = left; right = right; result = result }

abbrev pub refuses : Operation
refuses = record { incomplete = false; refused = true; left = Void; right = Void; result = Void }

-- taken where the test holds
abbrev pub only_if : Bool → Operation → Operation
only_if holds taken = if holds then taken else refuses

-- what an operand is to an operator
pub data Kind : Type 0 where
  integer : Kind
  pointer : Kind
  other : Kind

abbrev pub kind_layer : Layer → Kind
kind_layer (CType-F.Int width signed plain_char long_long) = integer
kind_layer (CType-F.Ptr of) = pointer
kind_layer _ = other

abbrev pub kind : CType → Kind
kind t = kind_layer (out-CType t)

-- ---- binary operators

-- two integers, both converted to the common type, which is the result's
abbrev pub in_common : CType → CType → Operation
in_common a b = takes (common a b) (common a b) (common a b)

-- two integers, both converted to the common type, that give an int
abbrev pub compared : CType → CType → Operation
compared a b = takes (common a b) (common a b) int

-- 6.5.8p2: both integers, or pointers that agree
abbrev pub ordered : Kind → Kind → CType → CType → Operation
ordered integer integer a b = compared a b
ordered pointer pointer a b = only_if (agreeing_pointers a b) (takes a a int)
ordered _ _ a b = refuses

-- 6.5.9p2: the same, or a pointer and a null pointer constant
abbrev pub equated : Kind → Kind → Operand → Operand → Operation
equated integer integer a b = compared a.ctype b.ctype
equated pointer pointer a b = only_if (agreeing_pointers a.ctype b.ctype) (takes a.ctype a.ctype int)
equated pointer integer a b = only_if b.null (takes a.ctype a.ctype int)
equated integer pointer a b = only_if a.null (takes b.ctype b.ctype int)
equated _ _ a b = refuses

abbrev pub both_integers : Operand → Operand → Operation → Operation
both_integers a b = only_if (is_integer a.ctype && is_integer b.ctype)

module _ (tags : List TagDef) where
  -- a pointer that is moved: what it points to needs a size. The number is not converted.
  abbrev pub moved : CType → CType → CType → Operation
  moved p left right = record { incomplete = points_to_no_size tags p; refused = false; left = left; right = right; result = p }

  -- 6.5.6p2: both integers, or a pointer and an integer
  abbrev pub added : Kind → Kind → CType → CType → Operation
  added integer integer a b = in_common a b
  added pointer integer a b = moved a a b
  added integer pointer a b = moved b a b
  added _ _ a b = refuses

  -- 6.5.6p3: both integers, pointers that agree, or a pointer and an integer. A difference of pointers is a long.
  abbrev pub difference : CType → CType → Operation
  difference a b = record {
    incomplete = points_to_no_size tags a || points_to_no_size tags b;
    refused = not (agreeing_pointers a b);
    left = a;
    right = b;
    result = long;
  }

  abbrev pub subtracted : Kind → Kind → CType → CType → Operation
  subtracted integer integer a b = in_common a b
  subtracted pointer integer a b = moved a a b
  subtracted pointer pointer a b = difference a b
  subtracted _ _ a b = refuses

  -- the table
  abbrev pub operation : BinaryOp → Operand → Operand → Operation
  -- 6.5.14p2 and 6.5.13p2: scalars, as they are
  operation binary.LogicalOr a b = only_if (is_scalar a.ctype && is_scalar b.ctype) (takes a.ctype b.ctype int)
  operation binary.LogicalAnd a b = only_if (is_scalar a.ctype && is_scalar b.ctype) (takes a.ctype b.ctype int)
  -- 6.5.12p2, 6.5.11p2, 6.5.10p2
  operation binary.BitOr a b = both_integers a b (in_common a.ctype b.ctype)
  operation binary.BitXor a b = both_integers a b (in_common a.ctype b.ctype)
  operation binary.BitAnd a b = both_integers a b (in_common a.ctype b.ctype)
  operation binary.Equal a b = equated (kind a.ctype) (kind b.ctype) a b
  operation binary.NotEqual a b = equated (kind a.ctype) (kind b.ctype) a b
  operation binary.Less a b = ordered (kind a.ctype) (kind b.ctype) a.ctype b.ctype
  operation binary.Greater a b = ordered (kind a.ctype) (kind b.ctype) a.ctype b.ctype
  operation binary.LessEqual a b = ordered (kind a.ctype) (kind b.ctype) a.ctype b.ctype
  operation binary.GreaterEqual a b = ordered (kind a.ctype) (kind b.ctype) a.ctype b.ctype
  -- 6.5.7p2, p3: each is promoted by itself, and the result is of the left one's type
  operation binary.ShiftLeft a b = both_integers a b (takes (promoted a.ctype) (promoted b.ctype) (promoted a.ctype))
  operation binary.ShiftRight a b = both_integers a b (takes (promoted a.ctype) (promoted b.ctype) (promoted a.ctype))
  operation binary.Add a b = added (kind a.ctype) (kind b.ctype) a.ctype b.ctype
  operation binary.Sub a b = subtracted (kind a.ctype) (kind b.ctype) a.ctype b.ctype
  -- 6.5.5p2
  operation binary.Mul a b = both_integers a b (in_common a.ctype b.ctype)
  operation binary.Div a b = both_integers a b (in_common a.ctype b.ctype)
  operation binary.Rem a b = both_integers a b (in_common a.ctype b.ctype)

-- ---- assignment

-- The operator that a compound assignment applies (6.5.16.2p3)
abbrev pub applied : AssignOp → Option BinaryOp
applied assign.Plain = None
applied assign.Mul = Some binary.Mul
applied assign.Div = Some binary.Div
applied assign.Rem = Some binary.Rem
applied assign.Add = Some binary.Add
applied assign.Sub = Some binary.Sub
applied assign.ShiftLeft = Some binary.ShiftLeft
applied assign.ShiftRight = Some binary.ShiftRight
applied assign.BitAnd = Some binary.BitAnd
applied assign.BitXor = Some binary.BitXor
applied assign.BitOr = Some binary.BitOr

-- the left side is kept, and the result is of its type
abbrev pub kept : CType → Operation → Operation
kept to o = record o { left = to; result = to }

module _ (tags : List TagDef) where
  -- 6.5.16.2p1, p2: both integers, or for += and -= a pointer and an integer. The right side is converted as the operator's.
  abbrev pub compound : BinaryOp → Kind → Kind → Operand → Operand → Operation
  compound op integer integer to from = kept to.ctype (operation tags op to from)
  compound op pointer integer to from = kept to.ctype (operation tags op to from)
  compound op _ _ to from = refuses

  -- 6.5.16.1p1: the right side is converted to the type of the left one
  abbrev pub assigned : Option BinaryOp → Operand → Operand → Operation
  assigned None to from = only_if (fits from to.ctype) (takes to.ctype to.ctype to.ctype)
  assigned (Some op) to from = compound op (kind to.ctype) (kind from.ctype) to from

  abbrev pub assignment : AssignOp → Operand → Operand → Operation
  assignment op to from = assigned (applied op) to from

-- ---- the conditional operator (6.5.15)

-- p6: pointers: the type of the other where one is a null pointer constant, else pointer to void where one is that, else the first's
abbrev pub chosen : Operand → Operand → CType
chosen a b =
    if a.null then b.ctype
    else (if b.null then a.ctype
    else (if is_void_pointer b.ctype then b.ctype
    else a.ctype))

-- p3, p5: integers, pointers, two of one structure type, or both void
abbrev pub joined : Kind → Kind → Operand → Operand → Operation
joined integer integer a b = in_common a.ctype b.ctype
joined pointer pointer a b = only_if (agreeing_pointers a.ctype b.ctype) (takes (chosen a b) (chosen a b) (chosen a b))
joined pointer integer a b = only_if b.null (takes a.ctype a.ctype a.ctype)
joined integer pointer a b = only_if a.null (takes b.ctype b.ctype b.ctype)
joined other other a b = only_if (same_type a.ctype b.ctype && (is_structure a.ctype || is_void a.ctype)) (takes a.ctype a.ctype a.ctype)
joined _ _ a b = refuses

-- the two arms
abbrev pub conditional : Operand → Operand → Operation
conditional a b = joined (kind a.ctype) (kind b.ctype) a b

-- ---- operators with one operand

-- what an operator wants of its operand: its value, a place, or a place that isn't an array and can be changed (6.3.2.1p1)
pub data Wanted : Type 0 where
  plain_value : Wanted
  any_place : Wanted
  modifiable_place : Wanted

abbrev pub wanted : PrefixOp → Wanted
wanted prefix.Increment = modifiable_place
wanted prefix.Decrement = modifiable_place
wanted prefix.Address = any_place
wanted prefix.Indirection = plain_value
wanted prefix.Plus = plain_value
wanted prefix.Minus = plain_value
wanted prefix.BitNot = plain_value
wanted prefix.Not = plain_value

abbrev pub single : Bool → CType → CType → Single
single refused operand result = record { incomplete = false; refused = refused; operand = operand; result = result }

-- the sum of a pointer and an integer, as what it points to
abbrev pub pointer_sum : Operation → Single
pointer_sum o = record {
  incomplete = o.incomplete;
  refused = o.refused || not (is_pointer o.result);
  operand = o.result;
  result = pointed o.result;
}

module _ (tags : List TagDef) where
  -- 6.5.3.1 and 6.5.2.4: a scalar, where a pointer is moved by one element. An array is refused as what can't be changed.
  abbrev pub stepped : CType → Single
  stepped t = record { incomplete = points_to_no_size tags t; refused = not (is_scalar t || is_array t); operand = t; result = t }

  abbrev pub unary : PrefixOp → CType → Single
  unary prefix.Increment t = stepped t
  unary prefix.Decrement t = stepped t
  -- 6.5.3.2p1, p3
  unary prefix.Address t = single false t (Ptr t)
  -- 6.5.3.2p2, p4
  unary prefix.Indirection t =
      record { incomplete = points_to_no_size tags t; refused = not (is_pointer t); operand = t; result = pointed t }
  -- 6.5.3.3p1 to p4: an integer, promoted
  unary prefix.Plus t = single (not (is_integer t)) (promoted t) (promoted t)
  unary prefix.Minus t = single (not (is_integer t)) (promoted t) (promoted t)
  unary prefix.BitNot t = single (not (is_integer t)) (promoted t) (promoted t)
  -- 6.5.3.3p1, p5: a scalar, as it is
  unary prefix.Not t = single (not (is_scalar t)) t int

  -- 6.5.2.1: `a[b]` is `*(a + b)`, with one pointer and one integer
  abbrev pub subscript : Operand → Operand → Single
  subscript a b = pointer_sum (operation tags binary.Add a b)

-- ---- casts (6.5.4)

-- p2: to void, or from a scalar to a scalar
abbrev pub can_be_cast : CType → CType → Bool
can_be_cast from to = is_void to || (is_scalar from && is_scalar to)

-- between an integer and a pointer, but of a null pointer constant to a pointer. This project's own.
abbrev pub crosses : Operand → CType → Bool
crosses from to = (is_pointer from.ctype && is_integer to) || (is_integer from.ctype && is_pointer to && not from.null)
