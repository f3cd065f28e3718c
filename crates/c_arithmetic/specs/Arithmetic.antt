-- The arithmetic of C's integers: conversions (C11 6.3.1.3), the unary operators of 6.5.3.3 and the binary ones of 6.5.5 to 6.5.12. Both
-- operands have been converted to one type before (6.3.1.8), but for the count of a shift, which keeps its own. A value is kept as 64 bits:
-- the bytes of its type, extended by the sign bit or by zeros.
-- Where C11 leaves it open, it is this project's own that a signed result wraps which its type doesn't hold (6.5p5), and that a negative
-- number is shifted right as if by a division that rounds down (6.5.7p5).
use Rattle.std.specs.Prelude.{◌≡◌, ◌<◌, ℕ, ◌-◌, ◌*◌, ◌^◌, ◌==◌, Bool, true, not, ◌&&◌, ◌||◌, nat_le, if◌then◌else◌, Result, Ok, Err}
use Rattle.std.specs.Prelude.{ℤ, pos, negsuc, neg_ℤ, ◌+ℤ◌, ◌-ℤ◌, ◌*ℤ◌, int_lt, int_div, int_rem, unsigned_abs, bit_and, bit_or, bit_xor}
use Rattle.std.specs.Int.{w64, cast_signed, int_rem_euclid, int_shr}
use Rattle.fc_base.specs.declared.levels.Width.{Width}
use Rattle.fc_base.specs.Widths.{extended, sign_bit, width_bytes, width_values}
use Rattle.c_arithmetic.specs.declared.operators.BadOperation.{BadOperation}
use Rattle.c_arithmetic.specs.declared.operators.BadOperation.TheVariants.{Division, ShiftCount}
use Rattle.c_arithmetic.specs.declared.operators.BinaryOperator.{BinaryOperator}
use Rattle.c_arithmetic.specs.declared.operators.BinaryOperator.TheVariants as op
use Rattle.c_arithmetic.specs.declared.operators.IntType.{IntType}
use Rattle.c_arithmetic.specs.declared.operators.UnaryOperator.{UnaryOperator}
use Rattle.c_arithmetic.specs.declared.operators.UnaryOperator.TheVariants as un

-- the integer that 64 bits stand for
abbrev pub integer : Bool → ℕ → ℤ
integer signed bits = if signed then cast_signed w64 bits else pos bits

-- the remainder of an integer by 2 ^ 64
abbrev pub low_bits : ℤ → ℕ
low_bits z = unsigned_abs (int_rem_euclid z (pos (2 ^ 64)))

-- an integer converted to a type: reduced modulo 2 to the number of its bits, into its range (6.3.1.3)
abbrev pub converted : IntType → ℤ → ℕ
converted t z = extended (low_bits z) t.width t.signed

abbrev pub truth : Bool → ℕ
truth holds = if holds then 1 else 0

-- ---- operations that have no value

-- the bits of the least number of a signed type
abbrev pub least : Width → ℕ
least width = 2 ^ 64 - sign_bit width

-- by zero (6.5.5p5), or with a quotient that the type doesn't hold: the least number by -1 (6.5.5p6)
abbrev pub divides_badly : IntType → ℕ → ℕ → Bool
divides_badly t a b = b == 0 || (t.signed && (a == least t.width && b == 2 ^ 64 - 1))

-- by a negative count, or by one that is no less than the bits of the left operand's type (6.5.7p3)
abbrev pub shifts_badly : IntType → ℕ → Bool
shifts_badly t count = nat_le (8 * width_bytes t.width) count

-- ---- values

abbrev pub product : IntType → ℕ → ℕ → ℕ
product t a b = converted t (integer t.signed a *ℤ integer t.signed b)

-- the quotient is rounded toward zero (6.5.5p6)
abbrev pub quotient : IntType → ℕ → ℕ → ℕ
quotient t a b = converted t (int_div (integer t.signed a) (integer t.signed b))

abbrev pub remainder : IntType → ℕ → ℕ → ℕ
remainder t a b = converted t (int_rem (integer t.signed a) (integer t.signed b))

abbrev pub sum : IntType → ℕ → ℕ → ℕ
sum t a b = converted t (integer t.signed a +ℤ integer t.signed b)

abbrev pub difference : IntType → ℕ → ℕ → ℕ
difference t a b = converted t (integer t.signed a -ℤ integer t.signed b)

abbrev pub shifted_left : IntType → ℕ → ℕ → ℕ
shifted_left t a count = converted t (integer t.signed a *ℤ pos (2 ^ count))

abbrev pub shifted_right : IntType → ℕ → ℕ → ℕ
shifted_right t a count = converted t (int_shr (integer t.signed a) count)

abbrev pub is_less : IntType → ℕ → ℕ → Bool
is_less t a b = int_lt (integer t.signed a) (integer t.signed b)

abbrev pub negative : IntType → ℕ → ℕ
negative t a = converted t (neg_ℤ (integer t.signed a))

-- the bits, cut to the type
abbrev pub cut : IntType → ℕ → ℕ
cut t bits = extended bits t.width t.signed

-- ---- the operators

abbrev pub unless : Bool → BadOperation → ℕ → Result ℕ BadOperation
unless bad what value = if bad then Err what else Ok value

abbrev pub binary : BinaryOperator → IntType → ℕ → ℕ → Result ℕ BadOperation
binary op.Multiply t a b = Ok (product t a b)
binary op.Divide t a b = unless (divides_badly t a b) Division (quotient t a b)
binary op.Remainder t a b = unless (divides_badly t a b) Division (remainder t a b)
binary op.Add t a b = Ok (sum t a b)
binary op.Subtract t a b = Ok (difference t a b)
binary op.ShiftLeft t a b = unless (shifts_badly t b) ShiftCount (shifted_left t a b)
binary op.ShiftRight t a b = unless (shifts_badly t b) ShiftCount (shifted_right t a b)
binary op.Less t a b = Ok (truth (is_less t a b))
binary op.Greater t a b = Ok (truth (is_less t b a))
binary op.LessEqual t a b = Ok (truth (not (is_less t b a)))
binary op.GreaterEqual t a b = Ok (truth (not (is_less t a b)))
binary op.Equal t a b = Ok (truth (a == b))
binary op.NotEqual t a b = Ok (truth (not (a == b)))
binary op.And t a b = Ok (cut t (bit_and a b))
binary op.Xor t a b = Ok (cut t (bit_xor a b))
binary op.Or t a b = Ok (cut t (bit_or a b))

abbrev pub unary : UnaryOperator → IntType → ℕ → ℕ
unary un.Plus t a = cut t a
unary un.Minus t a = negative t a
unary un.Complement t a = cut t (2 ^ 64 - 1 - a)
unary un.Not t a = truth (a == 0)

-- ---- for the laws

-- the type holds the number
abbrev pub Holds : IntType → ℤ → Type 0
Holds t (pos n) = n < (if t.signed then sign_bit t.width else width_values t.width)
Holds t (negsuc n) = (t.signed ≡ true) × (n < sign_bit t.width)
