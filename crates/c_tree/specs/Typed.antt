-- Expressions in which each conversion is written out: every node is typed by its operands as they stand, by the rules of C11 6.5, one
-- line a kind of node. A conversion stands where the types would differ, as a node of its own (6.3).
use Rattle.std.specs.Prelude.{◌≡◌, ◌≢◌, ℕ, ◌-◌, ◌==◌, ◌≤◌, ◌⊎◌, ⊤, Bool, true, false, not, if◌then◌else◌, List, [], ◌∷◌, length, map, take, drop, take_while, All, slice_get, Option, None, Some, option_and_then, IsSome, IsSomeAnd, IsTrue}
use Rattle.c_arithmetic.specs.Arithmetic.{cut}
use Rattle.c_library.specs.Library.{row_of}
use Rattle.c_layout.specs.declared.tags.TagDef.{TagDef}
use Rattle.c_layout.specs.declared.types.CType.{CType, out-CType}
use Rattle.c_layout.specs.declared.types.CType.TheOpen.{CType-F}
use Rattle.c_layout.specs.declared.types.CType.TheVariants.{Ptr, OpenArray}
use Rattle.c_layout.specs.Layouts.{layout}
use Rattle.c_layout.specs.Library.{lib_parameters, lib_result}
use Rattle.c_layout.specs.Types.{int, long, unsigned_long, is_void, is_integer, is_pointer, is_scalar, is_array, tag_of, element, promoted, agrees, agreeing_pointers}
use Rattle.c_tree.specs.declared.operators.AssignOp.{AssignOp}
use Rattle.c_tree.specs.declared.operators.AssignOp.TheVariants as assign
use Rattle.c_tree.specs.declared.operators.BinaryOp.{BinaryOp}
use Rattle.c_tree.specs.declared.operators.BinaryOp.TheVariants as binary
use Rattle.c_tree.specs.declared.operators.PrefixOp.{PrefixOp}
use Rattle.c_tree.specs.declared.operators.PrefixOp.TheVariants as prefix_op
use Rattle.c_tree.specs.declared.programs.DataDef.{DataDef}
use Rattle.c_tree.specs.declared.programs.FnDef.{FnDef}
use Rattle.c_tree.specs.declared.programs.LocalDef.{LocalDef}
use Rattle.c_tree.specs.declared.typed.Callee.{Callee}
use Rattle.c_tree.specs.declared.typed.Callee.TheVariants.{Function, Library}
use Rattle.c_tree.specs.declared.typed.TypedExpr.{TypedExpr, out-TypedExpr, fold-TypedExpr, every-TypedExpr}
use Rattle.c_tree.specs.declared.typed.TypedKind.{TypedKind, out-TypedKind}
use Rattle.c_tree.specs.declared.typed.TypedKind.TheOpen.{TypedKind-F, TypedExpr-F}
use Rattle.c_tree.specs.Constants.{constant_of}
use Rattle.c_tree.specs.Conversions.{common}
use Rattle.c_tree.specs.Operators.{int_type}

abbrev pub type_of : TypedExpr → CType
type_of e = (out-TypedExpr e).ctype

-- ---- types

-- an integer type that the promotions leave (6.3.1.1p2)
abbrev pub IsPromoted : CType → Type 0
IsPromoted t = IsTrue (is_integer t) × (promoted t ≡ t)

-- a value: no array, which would have become a pointer (6.3.2.1p3)
abbrev pub IsValue : TypedExpr → Type 0
IsValue e = is_array (type_of e) ≡ false

abbrev pub IsScalarTyped : TypedExpr → Type 0
IsScalarTyped e = IsTrue (is_scalar (type_of e))

abbrev pub IsIntegerTyped : TypedExpr → Type 0
IsIntegerTyped e = IsTrue (is_integer (type_of e))

module _ (tags : List TagDef) where
  abbrev pub HasSize : CType → Type 0
  HasSize t = IsSome (layout tags t)

  abbrev pub PointsToSized : CType-F CType → Type 0
  PointsToSized (CType-F.Ptr of) = HasSize of
  PointsToSized _ = ⊥

  -- a pointer that can be moved (6.5.6p2)
  abbrev pub IsMovable : CType → Type 0
  IsMovable t = PointsToSized (out-CType t)

-- ---- places (6.3.2.1p1). What `?:`, a comma or an assignment gives is none.

abbrev pub place_layer : TypedKind-F Bool Bool → Bool
place_layer (TypedKind-F.Local number) = true
place_layer (TypedKind-F.Object number) = true
place_layer (TypedKind-F.Index base index) = true
place_layer (TypedKind-F.Prefix prefix_op.Indirection of) = true
place_layer (TypedKind-F.Member base true member) = true
place_layer (TypedKind-F.Member base false member) = base
place_layer _ = false

abbrev pub expr_place : TypedExpr-F Bool Bool → Bool
expr_place e = e.kind

abbrev pub is_place : TypedExpr → Bool
is_place = fold-TypedExpr Bool Bool place_layer expr_place

abbrev pub IsPlace : TypedExpr → Type 0
IsPlace e = IsTrue (is_place e)

-- ---- operators

-- two operands of the operator's type, an integer type (6.5.5, 6.5.6p2, 6.5.10 to 6.5.12)
abbrev pub IsArithmetic : CType → TypedExpr → TypedExpr → Type 0
IsArithmetic t a b = IsPromoted t × (type_of a ≡ t) × (type_of b ≡ t)

-- two operands of one type: integers, or pointers (6.5.8p2, 6.5.9p2)
abbrev pub IsComparison : CType → TypedExpr → TypedExpr → Type 0
IsComparison t a b = (t ≡ int) × (type_of a ≡ type_of b) × (IsPromoted (type_of a) ⊎ IsTrue (is_pointer (type_of a)))

-- each operand is promoted by itself, and the left one's type is the result's (6.5.7p3)
abbrev pub IsShift : CType → TypedExpr → TypedExpr → Type 0
IsShift t a b = IsPromoted t × (type_of a ≡ t) × IsPromoted (type_of b)

-- Two arms of the type, which is promoted if it is an integer's (6.5.15p3 and p5).
abbrev pub IsChoice : CType → TypedExpr → TypedExpr → Type 0
IsChoice t a b = (type_of a ≡ t) × (type_of b ≡ t) × (is_array t ≡ false) × (IsTrue (is_integer t) → IsPromoted t)

-- operands that are evaluated one after the other (6.5.13p2, 6.5.14p2)
abbrev pub IsLogical : CType → TypedExpr → TypedExpr → Type 0
IsLogical t a b = (t ≡ int) × IsScalarTyped a × IsScalarTyped b

module _ (tags : List TagDef) where
  -- a pointer and an integer, which isn't promoted (6.5.6p8)
  abbrev pub IsMoved : CType → TypedExpr → TypedExpr → Type 0
  IsMoved t pointer index = IsMovable tags t × (type_of pointer ≡ t) × IsIntegerTyped index

  -- two pointers into one array (6.5.6p3)
  abbrev pub IsDifference : CType → TypedExpr → TypedExpr → Type 0
  IsDifference t a b = (t ≡ long) × IsMovable tags (type_of a) × IsMovable tags (type_of b) × IsTrue (agrees (type_of a) (type_of b))

  abbrev pub IsBinary : BinaryOp → CType → TypedExpr → TypedExpr → Type 0
  IsBinary binary.LogicalOr t a b = IsLogical t a b
  IsBinary binary.LogicalAnd t a b = IsLogical t a b
  IsBinary binary.BitOr t a b = IsArithmetic t a b
  IsBinary binary.BitXor t a b = IsArithmetic t a b
  IsBinary binary.BitAnd t a b = IsArithmetic t a b
  IsBinary binary.Equal t a b = IsComparison t a b
  IsBinary binary.NotEqual t a b = IsComparison t a b
  IsBinary binary.Less t a b = IsComparison t a b
  IsBinary binary.Greater t a b = IsComparison t a b
  IsBinary binary.LessEqual t a b = IsComparison t a b
  IsBinary binary.GreaterEqual t a b = IsComparison t a b
  IsBinary binary.ShiftLeft t a b = IsShift t a b
  IsBinary binary.ShiftRight t a b = IsShift t a b
  IsBinary binary.Add t a b = IsArithmetic t a b ⊎ (IsMoved t a b ⊎ IsMoved t b a)
  IsBinary binary.Sub t a b = IsArithmetic t a b ⊎ (IsMoved t a b ⊎ IsDifference t a b)
  IsBinary binary.Mul t a b = IsArithmetic t a b
  IsBinary binary.Div t a b = IsArithmetic t a b
  IsBinary binary.Rem t a b = IsArithmetic t a b

  -- the right side of a compound assignment to that type has the common type of both (6.5.16.2p3)
  abbrev pub IsCombined : CType → CType → Type 0
  IsCombined to from = IsTrue (is_integer to) × IsTrue (is_integer from) × (common to from ≡ from)

  -- that of a shift is promoted
  abbrev pub IsShifting : CType → CType → Type 0
  IsShifting to from = IsTrue (is_integer to) × IsPromoted from

  -- that of a pointer is an integer, which isn't promoted
  abbrev pub IsMoving : CType → CType → Type 0
  IsMoving to from = IsMovable tags to × IsTrue (is_integer from)

  -- a type that is assigned whole: a scalar, or a structure with a size (6.5.16.1p1)
  abbrev pub IsAssignable : CType → Type 0
  IsAssignable t = HasSize tags t × (is_array t ≡ false)

  abbrev pub Assigns : AssignOp → CType → CType → Type 0
  Assigns assign.Plain to from = IsAssignable to × (from ≡ to)
  Assigns assign.Mul to from = IsCombined to from
  Assigns assign.Div to from = IsCombined to from
  Assigns assign.Rem to from = IsCombined to from
  Assigns assign.Add to from = IsCombined to from ⊎ IsMoving to from
  Assigns assign.Sub to from = IsCombined to from ⊎ IsMoving to from
  Assigns assign.ShiftLeft to from = IsShifting to from
  Assigns assign.ShiftRight to from = IsShifting to from
  Assigns assign.BitAnd to from = IsCombined to from
  Assigns assign.BitXor to from = IsCombined to from
  Assigns assign.BitOr to from = IsCombined to from

  -- `++` and `--` of a place (6.5.2.4p1, 6.5.3.1p1)
  abbrev pub IsStep : CType → TypedExpr → Type 0
  IsStep t of = IsPlace of × (type_of of ≡ t) × (IsTrue (is_integer t) ⊎ IsMovable tags t)

  -- the value of a promoted operand (6.5.3.3)
  abbrev pub IsUnary : CType → TypedExpr → Type 0
  IsUnary t of = IsPromoted t × (type_of of ≡ t)

  abbrev pub IsPrefix : PrefixOp → CType → TypedExpr → Type 0
  IsPrefix prefix_op.Increment t of = IsStep t of
  IsPrefix prefix_op.Decrement t of = IsStep t of
  IsPrefix prefix_op.Address t of = IsPlace of × (t ≡ Ptr (type_of of))
  IsPrefix prefix_op.Indirection t of = HasSize tags t × (type_of of ≡ Ptr t)
  IsPrefix prefix_op.Plus t of = IsUnary t of
  IsPrefix prefix_op.Minus t of = IsUnary t of
  IsPrefix prefix_op.BitNot t of = IsUnary t of
  IsPrefix prefix_op.Not t of = (t ≡ int) × IsScalarTyped of

  -- ---- conversions

  -- an integer constant expression of value 0 (6.3.2.3p3)
  abbrev pub IsZero : TypedExpr → Type 0
  IsZero e = IsIntegerTyped e × (constant_of tags e ≡ Some 0)

  -- A conversion that is written: to void, of an integer to one, of a pointer to one, and of 0 to a pointer (6.5.4p2).
  abbrev pub IsWritten : CType → TypedExpr → Type 0
  IsWritten t of = IsTrue (is_void t) × IsValue of ⊎ (IsTrue (is_integer t) × IsIntegerTyped of
      ⊎ (IsTrue (is_pointer t) × (IsTrue (is_pointer (type_of of)) ⊎ IsZero of)))

  -- One that typing adds: an array becomes a pointer to its element (6.3.2.1p3); an integer one of another type; a pointer one of another
  -- type that agrees (6.5.16.1); and 0 a null pointer.
  abbrev pub IsAdded : CType → TypedExpr → Type 0
  IsAdded t of = IsTrue (is_array (type_of of)) × (t ≡ Ptr (element (type_of of)))
      ⊎ ((t ≢ type_of of) × (IsTrue (is_integer t) × IsIntegerTyped of
      ⊎ (IsTrue (is_pointer t) × (IsTrue (agreeing_pointers (type_of of) t) ⊎ IsZero of))))

  abbrev pub IsConversion : Bool → CType → TypedExpr → Type 0
  IsConversion false t of = IsWritten t of
  IsConversion true t of = IsAdded t of

  -- ---- operands behind others

  -- the last of several values gives the type (6.5.17p2)
  abbrev pub IsLast : CType → List TypedExpr → Type 0
  IsLast t [] = ⊥
  IsLast t (e ∷ []) = type_of e ≡ t
  IsLast t (e ∷ f ∷ es) = IsLast t (f ∷ es)

  -- the pointer and the number, in whichever order (6.5.2.1p2)
  abbrev pub IsElement : CType → TypedExpr → TypedExpr → Type 0
  IsElement t a b = HasSize tags t × ((type_of a ≡ Ptr t) × IsIntegerTyped b ⊎ (IsIntegerTyped a × (type_of b ≡ Ptr t)))

  -- the member of that number of a structure or union
  abbrev pub IsMemberOf : CType → CType → ℕ → Type 0
  IsMemberOf t whole member =
      IsSomeAnd (tag_of whole) (λ tag. IsSomeAnd (slice_get tags tag) (λ d. IsSomeAnd (slice_get d.members member) (λ m. m.ctype ≡ t)))

  abbrev pub IsBehind : CType → CType-F CType → ℕ → Type 0
  IsBehind t (CType-F.Ptr of) member = IsMemberOf t of member
  IsBehind t _ member = ⊥

  abbrev pub IsSelected : CType → TypedExpr → Bool → ℕ → Type 0
  IsSelected t base false member = IsMemberOf t (type_of base) member
  IsSelected t base true member = IsBehind t (out-CType (type_of base)) member

  -- a mode is a constant from 0 to 3 (GCC manual, "Object Size Checking")
  abbrev pub IsMode : TypedExpr → Type 0
  IsMode mode = IsIntegerTyped mode × IsSomeAnd (constant_of tags mode) (λ m. m ≤ 3)

-- ---- calls

-- how many arguments a call may have. This project's own.
abbrev pub most_arguments : ℕ
most_arguments = 60

-- Whether the arguments behind a format, by their types, are those that it asks for: `Fits` says it of the bytes of a format.
module _ (tags : List TagDef) (Fits : List ℕ → List CType → Type 0) (objects : List DataDef) where
  -- the bytes of a string literal up to its first NUL
  abbrev pub text_of : DataDef → Option (List ℕ)
  text_of o = if o.writable then None else Some (take_while (λ b. not (b == 0)) o.bytes)

  abbrev pub literal_object : TypedKind-F TypedKind TypedExpr → Option (List ℕ)
  literal_object (TypedKind-F.Object number) = option_and_then text_of (slice_get objects number)
  literal_object _ = None

  abbrev pub literal_pointer : TypedKind-F TypedKind TypedExpr → Option (List ℕ)
  literal_pointer (TypedKind-F.Cast of true) = literal_object (out-TypedKind (out-TypedExpr of).kind)
  literal_pointer _ = None

  -- those of a literal that is used as a pointer
  abbrev pub literal : TypedExpr → Option (List ℕ)
  literal e = literal_pointer (out-TypedKind (out-TypedExpr e).kind)

  -- the arguments behind so many: none, or those of a format, which is the last before them
  abbrev pub AreFurther : Bool → ℕ → List TypedExpr → Type 0
  AreFurther false count args = length args ≡ count
  AreFurther true count args =
      IsSomeAnd (slice_get args (count - 1)) (λ e. IsSomeAnd (literal e) (λ text. Fits text (drop count (map type_of args))))

  -- Arguments have their parameters' types (6.5.2.2p7).
  abbrev pub IsCall : List FnDef → Callee → CType → List TypedExpr → Type 0
  IsCall functions (Function number) t args = IsSomeAnd (slice_get functions number) (λ f. (map type_of args ≡ f.params) × (t ≡ f.result))
  IsCall functions (Library f) t args = (take (length (lib_parameters f)) (map type_of args) ≡ lib_parameters f) × (t ≡ lib_result f)
      × AreFurther (row_of f).variadic (length (lib_parameters f)) args

  -- ---- names

  -- the type of a variable, or `[]` of the same element in its own initialiser (6.7.9p22)
  abbrev pub IsVariable : List LocalDef → Option ℕ → ℕ → CType → Type 0
  IsVariable locals own number t =
      IsSomeAnd (slice_get locals number) (λ l.
      (t ≡ l.ctype) ⊎ ((own ≡ Some number) × IsTrue (is_array l.ctype) × (t ≡ OpenArray (element l.ctype))))

  -- a type of the object's size
  abbrev pub IsObject : ℕ → CType → Type 0
  IsObject number t = IsSomeAnd (slice_get objects number) (λ o. IsSomeAnd (layout tags t) (λ l. l.size ≡ o.size))

  -- ---- expressions

  module _ (functions : List FnDef) (locals : List LocalDef) (own : Option ℕ) where
    -- a kind of expression with that type. A string that initialises an array is no operand.
    abbrev pub IsTyped : TypedKind-F TypedKind TypedExpr → CType → Type 0
    IsTyped (TypedKind-F.Local number) t = IsVariable locals own number t
    IsTyped (TypedKind-F.Object number) t = IsObject number t
    IsTyped (TypedKind-F.Number value) t = IsPromoted t × IsSomeAnd (int_type t) (λ of. cut of value ≡ value)
    IsTyped (TypedKind-F.Str text) t = ⊥
    IsTyped (TypedKind-F.Comma all) t = (2 ≤ length all) × All IsValue all × IsLast tags t all
    IsTyped (TypedKind-F.Assign op to from) t = IsPlace to × (type_of to ≡ t) × Assigns tags op t (type_of from)
    IsTyped (TypedKind-F.Cond test a b) t = IsScalarTyped test × IsChoice t a b
    IsTyped (TypedKind-F.Binary op a b) t = IsBinary tags op t a b
    IsTyped (TypedKind-F.Cast of added) t = IsConversion tags added t of
    IsTyped (TypedKind-F.Prefix op of) t = IsPrefix tags op t of
    IsTyped (TypedKind-F.Postfix op of) t = IsStep tags t of
    IsTyped (TypedKind-F.SizeofExpr of) t = (t ≡ unsigned_long) × HasSize tags (type_of of)
    IsTyped (TypedKind-F.SizeofType of) t = (t ≡ unsigned_long) × HasSize tags of
    IsTyped (TypedKind-F.Index a b) t = IsElement tags t a b
    IsTyped (TypedKind-F.Call callee args) t = (length args ≤ most_arguments) × IsCall functions callee t args
    IsTyped (TypedKind-F.Member base arrow member) t = IsSelected tags t base arrow member
    IsTyped (TypedKind-F.SizeCall pointer mode) t = (t ≡ unsigned_long) × IsTrue (is_pointer (type_of pointer)) × IsMode tags mode

    abbrev pub IsNode : TypedExpr-F TypedKind TypedExpr → Type 0
    IsNode e = IsTyped (out-TypedKind e.kind) e.ctype

    -- an expression each of whose nodes is so
    abbrev pub IsWellTyped : TypedExpr → Type 0
    IsWellTyped = every-TypedExpr (λ kind. ⊤) IsNode
