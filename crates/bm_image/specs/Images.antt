-- What an image is. This project's own.
use Rattle.std.specs.Prelude.{◌≡◌, ℕ, ◌+◌, ◌%◌, ◌^◌, ◌<◌, ◌≤◌, ◌==◌, List, length, Bool, true, false, ◌&&◌, ◌||◌, nat_lt, nat_le, max, cond, IsTrue, ◌⊎◌, All, not, is_some, Option, Some, None}
use Rattle.std.specs.List.{slice_index_or}
use Rattle.bm_isa.specs.declared.instructions.Instr.{Instr}
use Rattle.bm_isa.specs.declared.instructions.Instr.TheVariants as instr
use Rattle.c_library.specs.Library.{host_number, row_of, call_of}
use Rattle.c_library.specs.declared.functions.LibFn.{LibFn}
use Rattle.c_library.specs.declared.functions.LibFn.TheVariants as calls
use Rattle.bm_image.specs.declared.images.FnRec.{FnRec}
use Rattle.bm_image.specs.declared.images.Image.{Image}
use Rattle.bm_image.specs.declared.images.Bounds.{Bounds}

-- an image as plain data
pub record PlainImage : Type 0 where
  pub functions : List FnRec
  pub code : List Instr
  pub bytes : List ℕ
  pub entry : ℕ

-- the plain data of an image
abbrev pub plain_image : Image → PlainImage
plain_image image = record { functions = image.functions.items; code = image.code.items; bytes = image.bytes.items; entry = image.entry }

-- a record of no function, for a number that names none
abbrev pub no_function : FnRec
no_function = record { first = 0; params = 0; regs = 0; weight = 0; frame = 0 }

-- the function of a number
abbrev pub function_at : List FnRec → ℕ → FnRec
function_at functions k = slice_index_or functions k no_function

-- where the code of function k ends, of so many instructions in all: where the next one begins, or at the end of all code
abbrev pub end_of : List FnRec → ℕ → ℕ → ℕ
end_of functions size k = cond (nat_lt (k + 1) (length functions)) (function_at functions (k + 1)).first size

-- what the instructions of function k may name, of so many instructions in all
abbrev pub bounds_of : List FnRec → ℕ → ℕ → Bounds
bounds_of functions size k = record {
  registers = (function_at functions k).regs;
  frame = (function_at functions k).frame;
  first = (function_at functions k).first;
  end = end_of functions size k;
  functions = length functions;
}

-- the number of the checked memset, whose arguments are the place, the byte, the count and the size
abbrev pub memset_chk : ℕ
memset_chk = host_number calls.Memset true

-- how many argument slots a call of a function takes: one for each parameter, and one more for the size of its checked form.
-- What follows a format takes more, up to all 64
abbrev pub slots_of : LibFn → Bool → ℕ
slots_of f checked = length (row_of f).parameters + cond checked 1 0

abbrev pub form_takes : LibFn → Bool → ℕ → Bool
form_takes f checked count =
    (not checked || is_some (row_of f).checked)
    && (nat_le count 64 && cond (row_of f).variadic (nat_le (slots_of f checked) count) (count == slots_of f checked))

-- a library call of that number takes that many argument slots
abbrev pub call_takes : Option (LibFn × Bool) → ℕ → Bool
call_takes None count = false
call_takes (Some call) count = form_takes call.0 call.1 count

abbrev pub host_takes : ℕ → ℕ → Bool
host_takes call count = call_takes (call_of call) count

-- an instruction's operands are within these bounds
abbrev pub fits : Bounds → Instr → Bool
fits b (instr.Const to number) = nat_lt to b.registers && nat_lt number (2 ^ 64)
fits b (instr.Move to from) = nat_lt to b.registers && nat_lt from b.registers
fits b (instr.Slot to offset) = nat_lt to b.registers && nat_lt offset (max b.frame 1)
fits b (instr.Binary op to left right) = nat_lt to b.registers && (nat_lt left b.registers && nat_lt right b.registers)
fits b (instr.Divide op width to left right) = nat_lt to b.registers && (nat_lt left b.registers && nat_lt right b.registers)
fits b (instr.Extend signed width to from) = nat_lt to b.registers && nat_lt from b.registers
fits b (instr.Select to test from) = nat_lt to b.registers && (nat_lt test b.registers && nat_lt from b.registers)
fits b (instr.Load signed width to at) = nat_lt to b.registers && nat_lt at b.registers
fits b (instr.Store width from at) = nat_lt from b.registers && nat_lt at b.registers
fits b (instr.Copy to_at from_at count) = nat_lt to_at b.registers && (nat_lt from_at b.registers && nat_lt count (2 ^ 32))
fits b (instr.Zero at count) = nat_lt at b.registers && nat_lt count (2 ^ 32)
fits b (instr.Jump target) = nat_le b.first target && nat_lt target b.end
fits b (instr.JumpIfZero test target) = nat_lt test b.registers && (nat_le b.first target && nat_lt target b.end)
fits b (instr.JumpIfNotZero test target) = nat_lt test b.registers && (nat_le b.first target && nat_lt target b.end)
fits b (instr.Argument from slot) = nat_lt from b.registers && nat_lt slot 64
fits b (instr.Call to function) = nat_lt to b.registers && nat_lt function b.functions
fits b (instr.Return from) = nat_lt from b.registers
fits b (instr.Host to call count) = nat_lt to b.registers && host_takes call count

-- control doesn't go on behind it
abbrev pub ends_function : Instr → Bool
ends_function (instr.Const to number) = false
ends_function (instr.Move to from) = false
ends_function (instr.Slot to offset) = false
ends_function (instr.Binary op to left right) = false
ends_function (instr.Divide op width to left right) = false
ends_function (instr.Extend signed width to from) = false
ends_function (instr.Select to test from) = false
ends_function (instr.Load signed width to at) = false
ends_function (instr.Store width from at) = false
ends_function (instr.Copy to_at from_at count) = false
ends_function (instr.Zero at count) = false
ends_function (instr.Jump target) = true
ends_function (instr.JumpIfZero test target) = false
ends_function (instr.JumpIfNotZero test target) = false
ends_function (instr.Argument from slot) = false
ends_function (instr.Call to function) = false
ends_function (instr.Return from) = true
ends_function (instr.Host to call count) = false

-- the instruction of a place, or this one past the end
abbrev pub instruction_or : Instr → List Instr → ℕ → Instr
instruction_or default code i = slice_index_or code i default

-- a function's numbers are within their bounds
pub record IsFunction (f : FnRec) : Type 0 where
  pub params : f.params ≤ 60
  pub given : f.params ≤ f.regs
  pub some_register : 1 ≤ f.regs
  pub regs : f.regs ≤ f.weight
  pub weight : f.weight ≤ 4194304
  pub frame : f.frame ≤ 4194320
  pub aligned : f.frame % 16 ≡ 0

-- functions stand one after the other in the code, from its first instruction on. Each instruction stands rightly in
-- its function, and the last one of each ends it
pub record IsCode (functions : List FnRec) (code : List Instr) : Type 0 where
  pub starts : (function_at functions 0).first ≡ 0
  pub rises : (k : ℕ) → k + 1 < length functions → (function_at functions k).first < (function_at functions (k + 1)).first
  pub inside : (k : ℕ) → k < length functions → (function_at functions k).first < length code
  pub bounds : (k : ℕ) → k < length functions → IsFunction (function_at functions k)
  pub fit : (k i : ℕ) (d : Instr) → k < length functions → (function_at functions k).first ≤ i → i < end_of functions (length code) k
      → IsTrue (fits (bounds_of functions (length code) k) (instruction_or d code i))
  pub last : (k i : ℕ) (d : Instr) → k < length functions → (function_at functions k).first ≤ i → i + 1 ≡ end_of functions (length code) k
      → IsTrue (ends_function (instruction_or d code i))

-- the machine's table of what an image may have. The entry has no parameters, or argc and argv
pub record IsImage (image : PlainImage) : Type 0 where
  pub some_function : 1 ≤ length image.functions
  pub functions : length image.functions ≤ 4096
  pub some_code : 1 ≤ length image.code
  pub size : length image.code ≤ 4194304
  pub bytes : length image.bytes ≤ 4194304
  pub are_bytes : All (λ byte. byte < 256) image.bytes
  pub entry : image.entry < length image.functions
  pub entry_params : ((function_at image.functions image.entry).params ≡ 0) ⊎ ((function_at image.functions image.entry).params ≡ 2)
  pub code : IsCode image.functions image.code
