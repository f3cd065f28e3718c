-- The operators of the tree as those of the arithmetic of integers.
use Rattle.std.specs.Prelude.{Option, None, Some}
use Rattle.c_arithmetic.specs.declared.operators.BinaryOperator.{BinaryOperator}
use Rattle.c_arithmetic.specs.declared.operators.BinaryOperator.TheVariants as binary
use Rattle.c_arithmetic.specs.declared.operators.IntType.{IntType}
use Rattle.c_arithmetic.specs.declared.operators.UnaryOperator.{UnaryOperator}
use Rattle.c_arithmetic.specs.declared.operators.UnaryOperator.TheVariants as unary
use Rattle.c_layout.specs.declared.types.CType.{CType, out-CType}
use Rattle.c_layout.specs.declared.types.CType.TheOpen.{CType-F}
use Rattle.c_tree.specs.declared.operators.AssignOp.{AssignOp}
use Rattle.c_tree.specs.declared.operators.AssignOp.TheVariants as assign
use Rattle.c_tree.specs.declared.operators.BinaryOp.{BinaryOp}
use Rattle.c_tree.specs.declared.operators.BinaryOp.TheVariants as binary_op
use Rattle.c_tree.specs.declared.operators.PrefixOp.{PrefixOp}
use Rattle.c_tree.specs.declared.operators.PrefixOp.TheVariants as prefix_op

abbrev pub int_layer : CType-F CType → Option IntType
int_layer (CType-F.Int width signed plain_char long_long) = Some (record { width = width; signed = signed })
int_layer _ = None

-- the integer type that a type is, as far as values go: how many bytes it has, and whether it is signed
abbrev pub int_type : CType → Option IntType
int_type ctype = int_layer (out-CType ctype)

-- the operator that evaluates both of its operands (C11 6.5.5 to 6.5.12): `||` and `&&` need not
abbrev pub binary_operator : BinaryOp → Option BinaryOperator
binary_operator binary_op.LogicalOr = None
binary_operator binary_op.LogicalAnd = None
binary_operator binary_op.BitOr = Some binary.Or
binary_operator binary_op.BitXor = Some binary.Xor
binary_operator binary_op.BitAnd = Some binary.And
binary_operator binary_op.Equal = Some binary.Equal
binary_operator binary_op.NotEqual = Some binary.NotEqual
binary_operator binary_op.Less = Some binary.Less
binary_operator binary_op.Greater = Some binary.Greater
binary_operator binary_op.LessEqual = Some binary.LessEqual
binary_operator binary_op.GreaterEqual = Some binary.GreaterEqual
binary_operator binary_op.ShiftLeft = Some binary.ShiftLeft
binary_operator binary_op.ShiftRight = Some binary.ShiftRight
binary_operator binary_op.Add = Some binary.Add
binary_operator binary_op.Sub = Some binary.Subtract
binary_operator binary_op.Mul = Some binary.Multiply
binary_operator binary_op.Div = Some binary.Divide
binary_operator binary_op.Rem = Some binary.Remainder

-- the operator that a compound assignment applies (C11 6.5.16.2), none of the plain one
abbrev pub assign_operator : AssignOp → Option BinaryOperator
assign_operator assign.Plain = None
assign_operator assign.Mul = Some binary.Multiply
assign_operator assign.Div = Some binary.Divide
assign_operator assign.Rem = Some binary.Remainder
assign_operator assign.Add = Some binary.Add
assign_operator assign.Sub = Some binary.Subtract
assign_operator assign.ShiftLeft = Some binary.ShiftLeft
assign_operator assign.ShiftRight = Some binary.ShiftRight
assign_operator assign.BitAnd = Some binary.And
assign_operator assign.BitXor = Some binary.Xor
assign_operator assign.BitOr = Some binary.Or

-- the operator on a value alone (C11 6.5.3.3): the others need a place or a pointer
abbrev pub unary_operator : PrefixOp → Option UnaryOperator
unary_operator prefix_op.Increment = None
unary_operator prefix_op.Decrement = None
unary_operator prefix_op.Address = None
unary_operator prefix_op.Indirection = None
unary_operator prefix_op.Plus = Some unary.Plus
unary_operator prefix_op.Minus = Some unary.Minus
unary_operator prefix_op.BitNot = Some unary.Complement
unary_operator prefix_op.Not = Some unary.Not
