-- What the operations on 64-bit numbers give. A signed number stands in two's complement (C11 6.2.6.2). The table is this project's
-- own.
use Rattle.std.specs.Prelude.{ℕ, ◌+◌, ◌-◌, ◌*◌, ◌/◌, ◌%◌, ◌^◌, ◌==◌, Bool, ◌&&◌, ◌||◌, not, nat_lt, nat_le, cond, Option, None, Some, bit_and, bit_or, bit_xor}
use Rattle.bm_isa.specs.declared.instructions.BinaryOp.{BinaryOp}
use Rattle.bm_isa.specs.declared.instructions.BinaryOp.TheVariants as binary
use Rattle.bm_isa.specs.declared.instructions.DivideOp.{DivideOp}
use Rattle.bm_isa.specs.declared.instructions.DivideOp.TheVariants as divide
use Rattle.bm_isa.specs.declared.instructions.DivideWidth.{DivideWidth}
use Rattle.bm_isa.specs.declared.instructions.DivideWidth.TheVariants as dividing

-- a number's place among all in the order of their signed values
abbrev pub by_sign : ℕ → ℕ
by_sign n = (n + 2 ^ 63) % 2 ^ 64

abbrev pub is_negative : ℕ → Bool
is_negative n = nat_le (2 ^ 63) n

abbrev pub negated : ℕ → ℕ
negated n = (2 ^ 64 - n) % 2 ^ 64

abbrev pub magnitude : ℕ → ℕ
magnitude n = cond (is_negative n) (negated n) n

-- a number with a sign
abbrev pub signed_as : Bool → ℕ → ℕ
signed_as negative n = cond negative (negated n) n

-- a number shifted to the right, with its sign: what a negative one leaves below all ones is shifted
abbrev pub shifted_by_sign : ℕ → ℕ → ℕ
shifted_by_sign a count = cond (is_negative a) (2 ^ 64 - 1 - (2 ^ 64 - 1 - a) / 2 ^ count) (a / 2 ^ count)

-- 1 where a test holds, else 0
abbrev pub truth : Bool → ℕ
truth test = cond test 1 0

-- what an operation on two numbers gives. A division by 0 gives none
abbrev pub binary_value : BinaryOp → ℕ → ℕ → Option ℕ
binary_value binary.Add a b = Some ((a + b) % 2 ^ 64)
binary_value binary.Sub a b = Some ((a + (2 ^ 64 - b)) % 2 ^ 64)
binary_value binary.Mul a b = Some (a * b % 2 ^ 64)
binary_value binary.And a b = Some (bit_and a b)
binary_value binary.Or a b = Some (bit_or a b)
binary_value binary.Xor a b = Some (bit_xor a b)
binary_value binary.ShiftLeft a b = Some (a * 2 ^ (b % 64) % 2 ^ 64)
binary_value binary.ShiftRightUnsigned a b = Some (a / 2 ^ (b % 64))
binary_value binary.ShiftRightSigned a b = Some (shifted_by_sign a (b % 64))
binary_value binary.MulHigh a b = Some (a * b / 2 ^ 64)
binary_value binary.DivUnsigned a b = cond (b == 0) None (Some (a / b))
binary_value binary.RemUnsigned a b = cond (b == 0) None (Some (a % b))
binary_value binary.Equal a b = Some (truth (a == b))
binary_value binary.NotEqual a b = Some (truth (not (a == b)))
binary_value binary.LessUnsigned a b = Some (truth (nat_lt a b))
binary_value binary.AtMostUnsigned a b = Some (truth (nat_le a b))
binary_value binary.LessSigned a b = Some (truth (nat_lt (by_sign a) (by_sign b)))
binary_value binary.AtMostSigned a b = Some (truth (nat_le (by_sign a) (by_sign b)))
binary_value binary.MinSigned a b = Some (cond (nat_lt (by_sign b) (by_sign a)) b a)
binary_value binary.MaxSigned a b = Some (cond (nat_lt (by_sign b) (by_sign a)) a b)
binary_value binary.MinUnsigned a b = Some (cond (nat_lt b a) b a)

-- the least signed number of the width
abbrev pub least_of : DivideWidth → ℕ
least_of dividing.W4 = 2 ^ 64 - 2 ^ 31
least_of dividing.W8 = 2 ^ 63

-- a signed quotient, cut toward zero (C11 6.5.5), and the remainder, which has the dividend's sign
abbrev pub divided : DivideOp → ℕ → ℕ → ℕ
divided divide.Div a b = signed_as (cond (is_negative a) (not (is_negative b)) (is_negative b)) (magnitude a / magnitude b)
divided divide.Rem a b = signed_as (is_negative a) (magnitude a % magnitude b)

-- what a signed division gives: none where the divisor is 0, or is -1 under the least number of the width
abbrev pub divide_value : DivideOp → DivideWidth → ℕ → ℕ → Option ℕ
divide_value op width a b = cond ((b == 0) || ((b == 2 ^ 64 - 1) && (a == least_of width))) None (Some (divided op a b))
