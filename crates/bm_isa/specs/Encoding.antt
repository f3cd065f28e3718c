-- The sixteen bytes of each instruction. This project's own.
use Rattle.std.specs.Prelude.{ℕ, ◌/◌, ◌%◌, ◌^◌, List, ◌∷◌, ◌++◌, true, false}
use Rattle.std.specs.Int.{to_le_bytes, w32}
use Rattle.fc_base.specs.Widths.{width_bytes}
use Rattle.fc_base.specs.declared.levels.Width.{Width}
use Rattle.fc_base.specs.declared.levels.Width.TheVariants as widths
use Rattle.bm_isa.specs.declared.instructions.BinaryOp.{BinaryOp}
use Rattle.bm_isa.specs.declared.instructions.BinaryOp.TheVariants as binary
use Rattle.bm_isa.specs.declared.instructions.DivideOp.{DivideOp}
use Rattle.bm_isa.specs.declared.instructions.DivideOp.TheVariants as divide
use Rattle.bm_isa.specs.declared.instructions.DivideWidth.{DivideWidth}
use Rattle.bm_isa.specs.declared.instructions.DivideWidth.TheVariants as dividing
use Rattle.bm_isa.specs.declared.instructions.Instr.{Instr}
use Rattle.bm_isa.specs.declared.instructions.Instr.TheVariants as instr

abbrev pub binary_number : BinaryOp → ℕ
binary_number binary.Add = 3
binary_number binary.Sub = 4
binary_number binary.Mul = 5
binary_number binary.And = 6
binary_number binary.Or = 7
binary_number binary.Xor = 8
binary_number binary.ShiftLeft = 9
binary_number binary.ShiftRightUnsigned = 10
binary_number binary.ShiftRightSigned = 11
binary_number binary.MulHigh = 12
binary_number binary.DivUnsigned = 13
binary_number binary.RemUnsigned = 14
binary_number binary.Equal = 19
binary_number binary.NotEqual = 20
binary_number binary.LessUnsigned = 21
binary_number binary.AtMostUnsigned = 22
binary_number binary.LessSigned = 23
binary_number binary.AtMostSigned = 24
binary_number binary.MinSigned = 25
binary_number binary.MaxSigned = 26
binary_number binary.MinUnsigned = 27

abbrev pub divide_number : DivideOp → ℕ
divide_number divide.Div = 15
divide_number divide.Rem = 16

-- the width of a signed division among the widths of integers
abbrev pub as_width : DivideWidth → Width
as_width dividing.W4 = widths.W4
as_width dividing.W8 = widths.W8

-- an instruction's number, its width, two zero bytes, and its three words, each little-endian
abbrev pub with_width : ℕ → ℕ → ℕ → ℕ → ℕ → List ℕ
with_width number width a b c = number ∷ width ∷ 0 ∷ 0 ∷ (to_le_bytes w32 a ++ to_le_bytes w32 b ++ to_le_bytes w32 c)

-- the same without a width
abbrev pub without_width : ℕ → ℕ → ℕ → ℕ → List ℕ
without_width number a b c = with_width number 0 a b c

-- the number of each instruction, its width, and where its operands stand. A constant has its low half in b and its
-- high half in c. A field that an instruction doesn't name is 0
abbrev pub instruction_bytes : Instr → List ℕ
instruction_bytes (instr.Const to number) = without_width 0 to (number % 2 ^ 32) (number / 2 ^ 32)
instruction_bytes (instr.Move to from) = without_width 1 to from 0
instruction_bytes (instr.Slot to offset) = without_width 2 to offset 0
instruction_bytes (instr.Binary op to left right) = without_width (binary_number op) to left right
instruction_bytes (instr.Divide op width to left right) = with_width (divide_number op) (width_bytes (as_width width)) to left right
instruction_bytes (instr.Extend true width to from) = with_width 17 (width_bytes width) to from 0
instruction_bytes (instr.Extend false width to from) = with_width 18 (width_bytes width) to from 0
instruction_bytes (instr.Select to test from) = without_width 28 to test from
instruction_bytes (instr.Load false width to at) = with_width 29 (width_bytes width) to at 0
instruction_bytes (instr.Load true width to at) = with_width 30 (width_bytes width) to at 0
instruction_bytes (instr.Store width from at) = with_width 31 (width_bytes width) from at 0
instruction_bytes (instr.Copy to_at from_at count) = without_width 32 to_at from_at count
instruction_bytes (instr.Zero at count) = without_width 33 at 0 count
instruction_bytes (instr.Jump target) = without_width 34 0 target 0
instruction_bytes (instr.JumpIfZero test target) = without_width 35 test target 0
instruction_bytes (instr.JumpIfNotZero test target) = without_width 36 test target 0
instruction_bytes (instr.Argument from slot) = without_width 37 from slot 0
instruction_bytes (instr.Call to function) = without_width 38 to function 0
instruction_bytes (instr.Return from) = without_width 39 from 0 0
instruction_bytes (instr.Host to call count) = without_width 40 to call count
