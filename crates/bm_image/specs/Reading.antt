-- What the reader keeps while it reads code. No public clause names it.
use Rattle.std.specs.Prelude.{◌≡◌, ℕ, ◌+◌, ◌<◌, ◌≤◌, List, length, take, drop, Bool, ◌&&◌, ◌||◌, not, ◌==◌}
use Rattle.std.specs.List.{slice_index_or}
use Rattle.bm_isa.specs.declared.instructions.Instr.{Instr}
use Rattle.bm_isa.specs.Encoding.{instruction_bytes}
use Rattle.bm_isa.specs.Decoding.{IsInstr}
use Rattle.bm_image.specs.declared.images.Bounds.{Bounds}
use Rattle.bm_image.specs.declared.images.FnRec.{FnRec}
use Rattle.bm_image.specs.Images.{function_at, end_of, fits, ends_function}
use Rattle.bm_image.specs.Parts.{functions_in, code_count, code_offset, Stands}

-- an instruction stands rightly at i in the code of a function with these bounds
abbrev pub stands : Bounds → ℕ → Instr → Bool
stands bounds i instruction = fits bounds instruction && (not (i + 1 == bounds.end) || ends_function instruction)

-- functions stand one after the other in the code, of so many instructions in all
pub record AreInOrder (functions : List FnRec) (size : ℕ) : Type 0 where
  pub starts : (function_at functions 0).first ≡ 0
  pub rises : (k : ℕ) → k + 1 < length functions → (function_at functions k).first < (function_at functions (k + 1)).first
  pub inside : (k : ℕ) → k < length functions → (function_at functions k).first < size

-- i is in the code of function k, or right behind it
pub record IsNear (functions : List FnRec) (size k i : ℕ) : Type 0 where
  pub function : k < length functions
  pub behind : (function_at functions k).first ≤ i
  pub before : i ≤ end_of functions size k

-- what is known of instruction i once it is read
pub record IsRead (bytes : List ℕ) (i : ℕ) (instruction : Instr) : Type 0 where
  pub is : IsInstr instruction
  pub same : instruction_bytes instruction ≡ take 16 (drop (code_offset bytes i) bytes)
  pub rightly : Stands (functions_in bytes) (code_count bytes) i instruction

abbrev pub AreRead : List ℕ → List Instr → Type 0
AreRead bytes code = (i : ℕ) (d : Instr) → i < length code → IsRead bytes i (slice_index_or code i d)
