-- The numbers of the levels. No public contract names this.
use Rattle.std.specs.Prelude.{ℕ}
use Rattle.macro_conditions.specs.declared.precedence.Level.{Level}
use Rattle.macro_conditions.specs.declared.precedence.Level.TheVariants as level
use Rattle.macro_conditions.specs.Trees.{expression, conditional, logical_or, logical_and, bit_or, bit_xor, bit_and, equality, relational, shift, additive, multiplicative}

abbrev pub number_of : Level → ℕ
number_of level.Expression = expression
number_of level.Conditional = conditional
number_of level.LogicalOr = logical_or
number_of level.LogicalAnd = logical_and
number_of level.BitOr = bit_or
number_of level.BitXor = bit_xor
number_of level.BitAnd = bit_and
number_of level.Equality = equality
number_of level.Relational = relational
number_of level.Shift = shift
number_of level.Additive = additive
number_of level.Multiplicative = multiplicative
