-- What the instructions of one call do to what they touch, whatever calls wait around it. It serves the proofs alone.
use Rattle.std.specs.Prelude.{◌≡◌, ℕ, ◌+◌, ◌≤◌, ◌<◌, List, Bool, true, false, None, ⊤}
use Rattle.run_meaning.specs.Worlds.{World}
use Rattle.bm_isa.specs.declared.instructions.Instr.{Instr}
use Rattle.bm_isa.specs.declared.instructions.Instr.TheVariants as instr
use Rattle.bm_heap.specs.Heaps.{Heap}
use Rattle.bm_image.specs.declared.images.Bounds.{Bounds}
use Rattle.bm_image.specs.Images.{ends_function}
use Rattle.byte_machine.specs.State.{Window, State, Program, perform, ending, with_core}
use Rattle.byte_machine.specs.declared.straight.Next.{Next}
use Rattle.byte_machine.specs.declared.straight.Next.TheVariants as nexts

-- what straight code leaves alone: the running function, the calls that wait, the heap and the world
pub record Around : Type 0 where
  pub function : ℕ
  pub callers : List Window
  pub heap : Heap
  pub world : World

-- a machine that runs, with what straight code touches
abbrev pub running_at : Around → ℕ → ℕ → List ℕ → List ℕ → List ℕ → State
running_at a base at registers memory slots = record {
  core = record {
    memory = memory;
    running = record { function = a.function; at = at; base = base; registers = registers };
    callers = a.callers;
    slots = slots;
    heap = a.heap;
    stopped = None;
  };
  world = a.world;
}

-- these leave the running call, or ask the library
abbrev pub leaves_call : Instr → Bool
leaves_call (instr.Call to function) = true
leaves_call (instr.Return from) = true
leaves_call (instr.Host to call count) = true
leaves_call _ = false

-- control goes on behind an instruction that doesn't end its function, or to another of its function
abbrev pub Stays : Bounds → Instr → Next → Type 0
Stays b i nexts.Behind = ends_function i ≡ false
Stays b i (nexts.To target) = (b.first ≤ target) × (target < b.end)
Stays b i (nexts.Ends end) = ⊤
Stays b i nexts.Other = ⊤

-- an instruction was performed at any place of any program, by the answer. Where the run ends, or where the instruction is another's,
-- nothing was touched
abbrev pub LeadsTo : Instr → ℕ → List ℕ → List ℕ → List ℕ → Next → List ℕ → List ℕ → List ℕ → Type 0
LeadsTo i base r m s nexts.Behind r' m' s' =
    (program : Program) (a : Around) (at : ℕ) → perform program i (running_at a base at r m s) ≡ running_at a base (at + 1) r' m' s'
LeadsTo i base r m s (nexts.To target) r' m' s' =
    (program : Program) (a : Around) (at : ℕ) → perform program i (running_at a base at r m s) ≡ running_at a base target r' m' s'
LeadsTo i base r m s (nexts.Ends end) r' m' s' =
    (r' ≡ r) × (m' ≡ m) × (s' ≡ s)
    × ((program : Program) (a : Around) (at : ℕ) → perform program i (running_at a base at r m s)
    ≡ with_core (ending end (running_at a base at r m s).core) (running_at a base at r m s))
LeadsTo i base r m s nexts.Other r' m' s' = (r' ≡ r) × (m' ≡ m) × (s' ≡ s) × (leaves_call i ≡ true)
