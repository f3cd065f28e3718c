-- Which sixteen bytes are an instruction, and what is wrong with the others. This project's own.
use Rattle.std.specs.Prelude.{ℕ, ◌^◌, ◌<◌, List, Bool, ◌&&◌, ◌||◌, not, ◌==◌, nat_lt, nat_le, cond, Option, Some, None, take, drop, slice_index}
use Rattle.std.specs.Int.{from_le_bytes, w32}
use Rattle.bm_isa.specs.declared.instructions.Instr.{Instr}
use Rattle.bm_isa.specs.declared.instructions.Instr.TheVariants as instr
use Rattle.bm_isa.specs.declared.decoding.BadInstr.{BadInstr}
use Rattle.bm_isa.specs.declared.decoding.BadInstr.TheVariants as bad

-- the number that four bytes at a place are, little-endian
abbrev pub word_at : List ℕ → ℕ → ℕ
word_at bytes at = from_le_bytes w32 (take 4 (drop at bytes))

-- the instructions that have a width: signed divisions, and those that extend, load and store
abbrev pub divides : ℕ → Bool
divides number = (number == 15) || (number == 16)

abbrev pub has_width : ℕ → Bool
has_width number = (nat_le 17 number && nat_le number 18) || (nat_le 29 number && nat_le number 31)

-- which width byte an instruction of that number may have
abbrev pub allows_width : ℕ → ℕ → Bool
allows_width number width =
    cond (divides number) ((width == 4) || (width == 8))
    (cond (has_width number) ((width == 1) || ((width == 2) || ((width == 4) || (width == 8))))
    (width == 0))

-- which of its three words an instruction of that number names
abbrev pub names_a : ℕ → Bool
names_a number = not (number == 34)

abbrev pub names_b : ℕ → Bool
names_b number = not ((number == 33) || (number == 39))

abbrev pub names_c : ℕ → Bool
names_c number =
    (number == 0) || ((nat_le 3 number && nat_le number 16) || ((nat_le 19 number && nat_le number 28)
    || ((nat_le 32 number && nat_le number 33) || (number == 40))))

-- the words that it doesn't name are 0
abbrev pub others_are_zero : ℕ → ℕ → ℕ → ℕ → Bool
others_are_zero number a b c = (names_a number || (a == 0)) && ((names_b number || (b == 0)) && (names_c number || (c == 0)))

-- what is wrong with a number, a width, two spare bytes and three words: the first of these that is
abbrev pub bad_fields : ℕ → ℕ → ℕ × ℕ → ℕ → ℕ → ℕ → Option BadInstr
bad_fields number width spare a b c =
    cond (nat_lt 40 number) (Some bad.Opcode)
    (cond (not (allows_width number width)) (Some bad.WidthByte)
    (cond (not ((spare.0 == 0) && ((spare.1 == 0) && others_are_zero number a b c))) (Some bad.Spare)
    None))

-- what is wrong with sixteen bytes; none where they are an instruction
abbrev pub bad_instr : List ℕ → Option BadInstr
bad_instr bytes =
    bad_fields (slice_index bytes 0) (slice_index bytes 1) (slice_index bytes 2, slice_index bytes 3) (word_at bytes 4)
    (word_at bytes 8) (word_at bytes 12)

-- the numbers of an instruction have 32 bits, a constant 64
abbrev pub IsInstr : Instr → Type 0
IsInstr (instr.Const to number) = (to < 2 ^ 32) × (number < 2 ^ 64)
IsInstr (instr.Move to from) = (to < 2 ^ 32) × (from < 2 ^ 32)
IsInstr (instr.Slot to offset) = (to < 2 ^ 32) × (offset < 2 ^ 32)
IsInstr (instr.Binary op to left right) = (to < 2 ^ 32) × (left < 2 ^ 32) × (right < 2 ^ 32)
IsInstr (instr.Divide op width to left right) = (to < 2 ^ 32) × (left < 2 ^ 32) × (right < 2 ^ 32)
IsInstr (instr.Extend signed width to from) = (to < 2 ^ 32) × (from < 2 ^ 32)
IsInstr (instr.Select to test from) = (to < 2 ^ 32) × (test < 2 ^ 32) × (from < 2 ^ 32)
IsInstr (instr.Load signed width to at) = (to < 2 ^ 32) × (at < 2 ^ 32)
IsInstr (instr.Store width from at) = (from < 2 ^ 32) × (at < 2 ^ 32)
IsInstr (instr.Copy to_at from_at count) = (to_at < 2 ^ 32) × (from_at < 2 ^ 32) × (count < 2 ^ 32)
IsInstr (instr.Zero at count) = (at < 2 ^ 32) × (count < 2 ^ 32)
IsInstr (instr.Jump target) = target < 2 ^ 32
IsInstr (instr.JumpIfZero test target) = (test < 2 ^ 32) × (target < 2 ^ 32)
IsInstr (instr.JumpIfNotZero test target) = (test < 2 ^ 32) × (target < 2 ^ 32)
IsInstr (instr.Argument from slot) = (from < 2 ^ 32) × (slot < 2 ^ 32)
IsInstr (instr.Call to function) = (to < 2 ^ 32) × (function < 2 ^ 32)
IsInstr (instr.Return from) = from < 2 ^ 32
IsInstr (instr.Host to call count) = (to < 2 ^ 32) × (call < 2 ^ 32) × (count < 2 ^ 32)
