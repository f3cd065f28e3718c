-- Integer constant expressions (C11 6.6p3, p4 and p6) over typed trees, and their values: what array bounds, case labels,
-- enumerators and modes want, and what makes a null pointer constant (6.3.2.3p3). An operand that isn't evaluated must have
-- the form too, but may divide or shift badly. That signed results wrap is this project's own.
use Rattle.std.specs.Prelude.{ℕ, ◌==◌, not, if◌then◌else◌, List, Option, None, Some, Result, Ok, Err}
use Rattle.std.specs.Option.{option_map_or}
use Rattle.c_arithmetic.specs.declared.operators.BadOperation.{BadOperation}
use Rattle.c_arithmetic.specs.declared.operators.IntType.{IntType}
use Rattle.c_arithmetic.specs.Arithmetic.{binary, unary, cut, truth}
use Rattle.c_layout.specs.declared.tags.TagDef.{TagDef}
use Rattle.c_layout.specs.declared.types.CType.{CType}
use Rattle.c_layout.specs.declared.types.Layout.{Layout}
use Rattle.c_layout.specs.declared.types.LayoutFault.{LayoutFault}
use Rattle.c_layout.specs.Layouts.{layout_within_limit}
use Rattle.c_tree.specs.declared.constants.Constant.{Constant}
use Rattle.c_tree.specs.declared.constants.Constant.TheVariants.{NotConstant, Undefined, Value}
use Rattle.c_tree.specs.declared.operators.BinaryOp.{BinaryOp}
use Rattle.c_tree.specs.declared.operators.BinaryOp.TheVariants.{LogicalOr, LogicalAnd}
use Rattle.c_tree.specs.declared.typed.TypedExpr.{TypedExpr, fold-TypedExpr}
use Rattle.c_tree.specs.declared.typed.TypedKind.TheOpen.{TypedKind-F, TypedExpr-F}
use Rattle.c_tree.specs.Operators.{int_type, binary_operator, unary_operator}

-- what follows from a value
abbrev pub with_value : Constant → (ℕ → Constant) → Constant
with_value NotConstant f = NotConstant
with_value Undefined f = Undefined
with_value (Value n) f = f n

-- beside an operand that has the form
abbrev pub beside : Constant → Constant → Constant
beside NotConstant c = NotConstant
beside Undefined c = c
beside (Value n) c = c

-- an operation without a value is undefined
abbrev pub judged : Result ℕ BadOperation → Constant
judged (Ok n) = Value n
judged (Err e) = Undefined

-- 1 or 0, by whether a value is other than 0
abbrev pub tested : Constant → Constant
tested c = with_value c (λ n. Value (truth (not (n == 0))))

-- a binary operator where the left operand has that type
abbrev pub combined : BinaryOp → IntType → Constant → Constant → Constant
combined LogicalOr t a b = beside b (with_value a (λ n. if n == 0 then tested b else Value 1))
combined LogicalAnd t a b = beside b (with_value a (λ n. if n == 0 then Value 0 else tested b))
combined op t a b =
    option_map_or (λ o. beside b (with_value a (λ m. with_value b (λ n. judged (binary o t m n))))) (binary_operator op) NotConstant

-- the arm that the test chooses (C11 6.5.15p4)
unfoldable pub chosen : Constant → Constant → Constant → Constant
chosen test a b = beside a (beside b (with_value test (λ n. if n == 0 then b else a)))

-- a size, of a type that has one within the limit
abbrev pub sized : Result Layout LayoutFault → Constant
sized (Ok l) = Value l.size
sized (Err e) = NotConstant

-- what a node reads of an operand
pub record Operand : Type 0 where
  pub ctype : CType
  pub constant : Constant

module _ (tags : List TagDef) where
  -- a kind of expression at its type, an integer's
  abbrev pub kind_constant : TypedKind-F (IntType → Constant) Operand → IntType → Constant
  kind_constant (TypedKind-F.Number value) t = Value value
  kind_constant (TypedKind-F.Cond test then_part else_part) t = chosen test.constant then_part.constant else_part.constant
  kind_constant (TypedKind-F.Binary op a b) t = option_map_or (λ of. combined op of a.constant b.constant) (int_type a.ctype) NotConstant
  kind_constant (TypedKind-F.Cast of added) t = with_value of.constant (λ n. Value (cut t n))
  kind_constant (TypedKind-F.Prefix op of) t =
      option_map_or (λ o. with_value of.constant (λ n. Value (unary o t n))) (unary_operator op) NotConstant
  kind_constant (TypedKind-F.SizeofExpr of) t = sized (layout_within_limit tags of.ctype)
  kind_constant (TypedKind-F.SizeofType of) t = sized (layout_within_limit tags of)
  kind_constant _ t = NotConstant

  -- each node has an integer type
  abbrev pub expr_constant : TypedExpr-F (IntType → Constant) Operand → Operand
  expr_constant e = record { ctype = e.ctype; constant = option_map_or e.kind (int_type e.ctype) NotConstant }

  abbrev pub constant : TypedExpr → Constant
  constant e = (fold-TypedExpr (IntType → Constant) Operand kind_constant expr_constant e).constant

abbrev pub known : Constant → Option ℕ
known (Value n) = Some n
known _ = None

-- the value of an integer constant expression, extended to 64 bits by its type as a `Number` is; none of any other expression
abbrev pub constant_of : List TagDef → TypedExpr → Option ℕ
constant_of tags e = known (constant tags e)
