-- How a machine is seen, and what its fields keep. It serves the proofs alone.
use Rattle.std.specs.Prelude.{◌≡◌, ℕ, ◌+◌, ◌*◌, ◌≤◌, ◌<◌, ◌/◌, List, [], ◌∷◌, length, vec_len, Bool, true, false, Option, Some, None, slice_get}
use Rattle.bm_isa.specs.declared.instructions.Instr.{Instr}
use Rattle.bm_isa.specs.declared.instructions.Instr.TheVariants as instr
use Rattle.bm_image.specs.Images.{function_at, end_of, IsCode}
use Rattle.byte_machine.specs.State.{Core, Program, Window, frame_of, weights_of, stack_start, stack_frames, stack_weights}
use Rattle.library_meaning.specs.Memory.{memory_size}
use Rattle.byte_machine.specs.Machines.{Loaded, end_of_stop}
use Rattle.byte_machine.specs.declared.machine.Machine.TheInside.{Inside}

-- the machine's state, and what it is loaded with
abbrev pub core_of : Inside → Core
core_of m = record {
  memory = m.memory.items;
  running = m.windows.running;
  callers = m.windows.callers;
  slots = m.slots;
  heap = m.heap;
  stopped = end_of_stop m.stopped;
}

abbrev pub program_in : Inside → Program
program_in m = record { functions = m.functions.items; code = m.code.items }

abbrev pub loaded_of : Inside → Loaded
loaded_of m = record { program = program_in m; core = core_of m; stop = m.stopped }

-- a call stands in its function, with the registers that its function has
pub record IsCall (program : Program) (w : Window) : Type 0 where
  pub function : w.function < length program.functions
  pub behind : (function_at program.functions w.function).first ≤ w.at
  pub before : w.at < end_of program.functions (length program.code) w.function
  pub registers : length w.registers ≡ (function_at program.functions w.function).regs

-- an instruction that calls a function
abbrev pub is_call : Option Instr → Bool
is_call (Some (instr.Call to function)) = true
is_call _ = false

-- calls that wait stand at calls, and each one's frame ends where the frame begins of the one that it waits for
abbrev pub AreCallers : Program → ℕ → List Window → Type 0
AreCallers program base [] = base ≡ stack_start
AreCallers program base (w ∷ ws) =
    IsCall program w × (is_call (slice_get program.code w.at) ≡ true) × (base ≡ w.base + frame_of program w) × AreCallers program w.base ws

-- the calls stand in their functions and within the stack's limits, and there is room for as many as have the least weight
pub record IsRunnable (m : Inside) : Type 0 where
  pub memory : vec_len m.memory ≡ memory_size
  pub code : IsCode m.functions.items m.code.items
  pub short : length m.code.items ≤ 4194304
  pub running : IsCall (program_in m) m.windows.running
  pub callers : AreCallers (program_in m) m.windows.running.base m.windows.callers
  pub base : m.windows.running.base ≤ stack_start + stack_frames
  pub weights : m.weights ≡ weights_of (program_in m) (m.windows.running ∷ m.windows.callers)
  pub few : m.weights ≤ stack_weights
  pub some : 1 ≤ m.least
  pub least : (k : ℕ) → k < length m.functions.items → m.least ≤ (function_at m.functions.items k).weight
  pub room : m.windows.room ≡ stack_weights / m.least
