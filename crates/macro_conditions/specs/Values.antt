-- The integers of a condition (C11 6.10.1p4): 64-bit numbers, signed or unsigned, in the type `Value` of the code, by the table of
-- operators of `c_arithmetic`.
use Rattle.std.specs.Prelude.{ℕ, ◌+◌, ◌-◌, ◌^◌, ◌==◌, nat_lt, nat_le, Bool, false, not, ◌&&◌, ◌||◌, if◌then◌else◌, Option, Some, None, Result, Ok, Err}
use Rattle.fc_base.specs.declared.levels.Width.TheVariants.{W8}
use Rattle.c_arithmetic.specs.declared.operators.BadOperation.{BadOperation}
use Rattle.c_arithmetic.specs.declared.operators.BinaryOperator.{BinaryOperator}
use Rattle.c_arithmetic.specs.declared.operators.BinaryOperator.TheVariants as op
use Rattle.c_arithmetic.specs.declared.operators.IntType.{IntType}
use Rattle.c_arithmetic.specs.declared.operators.UnaryOperator.TheVariants as un
use Rattle.c_arithmetic.specs.Arithmetic.{binary, unary}
use Rattle.c_tokens.specs.declared.Punct.{Punct}
use Rattle.macro_conditions.specs.declared.values.Value.{Value}
use Rattle.c_tokens.specs.declared.Punct.TheVariants.{Star, Slash, Percent, Plus, Minus, ShiftLeft, ShiftRight, Less, Greater, LessEqual, GreaterEqual, EqualEqual, NotEqual, Ampersand, Caret, Bar, AndAnd, OrOr, Tilde, Exclamation}

abbrev pub is_true : Value → Bool
is_true v = not (v.bits == 0)

-- 1 or 0, signed
abbrev pub truth : Bool → Value
truth b = record { bits = (if b then 1 else 0); unsigned = false }

-- A literal with the suffix u is unsigned (C11 6.4.4.1), and so is one that no signed number holds; that a decimal one is
-- so too is this project's own.
abbrev pub literal_value : ℕ → Bool → Value
literal_value n unsigned = record { bits = n; unsigned = unsigned || nat_le (2 ^ 63) n }

-- a character constant has the value of a signed char (C11 6.4.4.4p10; the sign is this project's own)
abbrev pub character_value : ℕ → Value
character_value byte = record { bits = (if nat_lt byte 128 then byte else 2 ^ 64 - 256 + byte); unsigned = false }

-- the usual arithmetic conversions (C11 6.3.1.8): unsigned where either operand is
abbrev pub is_unsigned : Value → Value → Bool
is_unsigned a b = a.unsigned || b.unsigned

-- a result of the type that both operands are converted to
abbrev pub joint : Value → Value → ℕ → Value
joint a b bits = record { bits = bits; unsigned = is_unsigned a b }

-- signed or unsigned, of 64 bits
abbrev pub type_of : Value → IntType
type_of v = record { width = W8; signed = not v.unsigned }

-- An operation without a value, as a division by 0 or a shift by more places than there are, has none where it is evaluated, and counts as
-- 0 where it is not.
abbrev pub unless_bad : Bool → (ℕ → Value) → Result ℕ BadOperation → Option Value
unless_bad evaluated of (Ok bits) = Some (of bits)
unless_bad evaluated of (Err bad) = if evaluated then None else Some (of 0)

-- an operator whose operands and result have one type
abbrev pub arithmetic : Bool → BinaryOperator → Value → Value → Option Value
arithmetic evaluated o a b = unless_bad evaluated (joint a b) (binary o (type_of (joint a b 0)) a.bits b.bits)

-- a shift has the type of its left operand (C11 6.5.7)
abbrev pub shift : Bool → BinaryOperator → Value → Value → Option Value
shift evaluated o a b = unless_bad evaluated (λ bits. record a { bits = bits }) (binary o (type_of a) a.bits b.bits)

-- a comparison gives 1 or 0, signed
abbrev pub comparison : Bool → BinaryOperator → Value → Value → Option Value
comparison evaluated o a b =
    unless_bad evaluated (λ bits. record { bits = bits; unsigned = false }) (binary o (type_of (joint a b 0)) a.bits b.bits)

-- the value of a binary operator (C11 6.5.5 to 6.5.14); none for other punctuators
abbrev pub combined : Bool → Punct → Value → Value → Option Value
combined evaluated Star a b = arithmetic evaluated op.Multiply a b
combined evaluated Slash a b = arithmetic evaluated op.Divide a b
combined evaluated Percent a b = arithmetic evaluated op.Remainder a b
combined evaluated Plus a b = arithmetic evaluated op.Add a b
combined evaluated Minus a b = arithmetic evaluated op.Subtract a b
combined evaluated ShiftLeft a b = shift evaluated op.ShiftLeft a b
combined evaluated ShiftRight a b = shift evaluated op.ShiftRight a b
combined evaluated Less a b = comparison evaluated op.Less a b
combined evaluated Greater a b = comparison evaluated op.Greater a b
combined evaluated LessEqual a b = comparison evaluated op.LessEqual a b
combined evaluated GreaterEqual a b = comparison evaluated op.GreaterEqual a b
combined evaluated EqualEqual a b = comparison evaluated op.Equal a b
combined evaluated NotEqual a b = comparison evaluated op.NotEqual a b
combined evaluated Ampersand a b = arithmetic evaluated op.And a b
combined evaluated Caret a b = arithmetic evaluated op.Xor a b
combined evaluated Bar a b = arithmetic evaluated op.Or a b
combined evaluated AndAnd a b = Some (truth (is_true a && is_true b))
combined evaluated OrOr a b = Some (truth (is_true a || is_true b))
combined evaluated _ a b = None

-- whether the right operand is evaluated, by the left one (C11 6.5.13 and 6.5.14)
abbrev pub evaluates_right : Bool → Punct → Value → Bool
evaluates_right evaluated AndAnd a = evaluated && is_true a
evaluates_right evaluated OrOr a = evaluated && not (is_true a)
evaluates_right evaluated _ a = evaluated

-- the value of a unary operator (C11 6.5.3.3)
abbrev pub prefixed : Punct → Value → Value
prefixed Minus v = record v { bits = unary un.Minus (type_of v) v.bits }
prefixed Tilde v = record v { bits = unary un.Complement (type_of v) v.bits }
prefixed Exclamation v = truth (not (is_true v))
prefixed _ v = v

-- the value of `c ? a : b`, of the type that both operands are converted to (C11 6.5.15)
abbrev pub chosen : Value → Value → Value → Value
chosen c a b = joint a b (if is_true c then a.bits else b.bits)
