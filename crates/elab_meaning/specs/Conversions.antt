-- Operands, and the conversions that typing adds: null pointer constants (C11 6.3.2.3p3), arrays that become pointers (6.3.2.1p3), and what
-- fits a type that it is assigned to (6.5.16.1).
use Rattle.std.specs.Prelude.{ℤ, Bool, true, false, not, ◌&&◌, ◌||◌, ◌==◌, is_some, if◌then◌else◌, List, Option}
use Rattle.std.specs.Option.{option_map, option_map_or}
use Rattle.c_arithmetic.specs.Arithmetic.{integer}
use Rattle.c_layout.specs.declared.tags.TagDef.{TagDef}
use Rattle.c_layout.specs.declared.types.CType.{CType}
use Rattle.c_layout.specs.declared.types.CType.TheVariants.{Ptr}
use Rattle.c_layout.specs.Layouts.{layout}
use Rattle.c_layout.specs.Types.{is_void, is_integer, is_pointer, is_array, is_structure, pointed, element, same_type, agreeing_pointers}
use Rattle.c_tree.specs.declared.typed.TypedExpr.{TypedExpr}
use Rattle.c_tree.specs.declared.typed.TypedKind.{TypedKind, out-TypedKind}
use Rattle.c_tree.specs.declared.typed.TypedKind.TheOpen.{TypedKind-F}
use Rattle.c_tree.specs.declared.typed.TypedKind.TheVariants.{Cast}
use Rattle.c_tree.specs.Constants.{constant_of}
use Rattle.c_tree.specs.Conversions.{number_type}

-- an operand by its type, and whether it is a null pointer constant
pub record Operand : Type 0 where
  pub ctype : CType
  pub null : Bool

abbrev pub is_void_pointer : CType → Bool
is_void_pointer t = is_pointer t && is_void (pointed t)

module _ (tags : List TagDef) where
  abbrev pub has_size : CType → Bool
  has_size t = is_some (layout tags t)

  -- a pointer to a type without a size
  abbrev pub points_to_no_size : CType → Bool
  points_to_no_size t = is_pointer t && not (has_size (pointed t))

  -- the mathematical value of an integer constant expression (6.6p6)
  abbrev pub value_of : TypedExpr → Option ℤ
  value_of e = option_map (integer (number_type e.ctype).signed) (constant_of tags e)

  abbrev pub is_zero : TypedExpr → Bool
  is_zero e = is_integer e.ctype && option_map_or (λ n. n == 0) (constant_of tags e) false

  abbrev pub casts_zero : TypedKind-F TypedKind TypedExpr → Bool
  casts_zero (TypedKind-F.Cast of false) = is_zero of
  casts_zero _ = false

  -- an integer constant expression of value 0, or a written cast of one to void *
  abbrev pub is_null : TypedExpr → Bool
  is_null e = is_zero e || (is_void_pointer e.ctype && casts_zero (out-TypedKind e.kind))

  abbrev pub operand : TypedExpr → Operand
  operand e = record { ctype = e.ctype; null = is_null e }

-- Assignment, and with it arguments, initialisers and returned values (6.5.16.1p1): an integer fits an integer, a pointer one that
-- agrees, a null pointer constant each pointer, and a structure its own type.
abbrev pub fits : Operand → CType → Bool
fits from to =
    (is_integer from.ctype && is_integer to) || agreeing_pointers from.ctype to || (is_pointer to && from.null)
    || (is_structure to && same_type from.ctype to)

-- ---- conversions that typing adds

abbrev pub added_cast : CType → TypedExpr → TypedExpr
added_cast to e = record { kind = Cast e true; ctype = to; place = e.place }

-- a conversion to a type is added only where the type differs
abbrev pub converted : CType → TypedExpr → TypedExpr
converted to e = if same_type to e.ctype then e else added_cast to e

-- an array becomes a pointer to its first element
abbrev pub decayed : TypedExpr → TypedExpr
decayed e = if is_array e.ctype then added_cast (Ptr (element e.ctype)) e else e
