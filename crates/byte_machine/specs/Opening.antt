-- The first state of a machine. This project's own.
use Rattle.std.specs.Prelude.{ℕ, ◌+◌, ◌-◌, ◌*◌, ◌/◌, ◌==◌, List, [], ◌∷◌, ◌++◌, length, replicate, ◌||◌, nat_lt, cond, Option, None, Some, codes, sum_by}
use Rattle.std.specs.List.{flat_map}
use Rattle.std.specs.Int.{to_le_bytes, w64}
use Rattle.run_meaning.specs.Runs.{Runs}
use Rattle.run_meaning.specs.Worlds.{Input}
use Rattle.fc_base.specs.declared.levels.End.{End}
use Rattle.fc_base.specs.declared.levels.End.TheVariants as ends
use Rattle.bm_image.specs.declared.images.FnRec.{FnRec}
use Rattle.bm_image.specs.Images.{PlainImage, function_at}
use Rattle.bm_heap.specs.Heaps.{whole_heap}
use Rattle.byte_machine.specs.State.{data_start, stack_start, stack_frames, stack_weights, Core, State, Program, after, standing_of}
use Rattle.library_meaning.specs.Memory.{memory_size, first_valid, put}

-- a length rounded up to a multiple of 16
abbrev pub rounded : ℕ → ℕ
rounded n = (n + 15) / 16 * 16

-- the strings that argv points to: the program's name and the arguments
abbrev pub argument_words : List (List ℕ) → List (List ℕ)
argument_words args = codes "prog" ∷ args

-- how much room a string takes with its NUL
abbrev pub string_room : List ℕ → ℕ
string_room word = rounded (length word + 2)

-- a string, its NUL, and zero bytes up to its room
unfoldable pub string_block : List ℕ → List ℕ
string_block word = word ++ replicate (string_room word - length word) 0

-- the addresses of strings that stand one after the other from the first address on
unfoldable pub addresses : ℕ → List (List ℕ) → List ℕ
addresses at [] = []
addresses at (word ∷ words) = at ∷ addresses (at + string_room word) words

-- the address of argv, behind the strings
abbrev pub argv_address : List (List ℕ) → ℕ
argv_address args = first_valid + sum_by string_room (argument_words args)

-- the strings in order, then their addresses, then a null pointer
unfoldable pub argument_section : List (List ℕ) → List ℕ
argument_section args =
    flat_map string_block (argument_words args)
    ++ (flat_map (to_le_bytes w64) (addresses first_valid (argument_words args)) ++ to_le_bytes w64 0)

-- all bytes are zero but for the arguments and the data
unfoldable pub first_memory : PlainImage → List (List ℕ) → List ℕ
first_memory image args =
    put data_start image.bytes (put first_valid (argument_section args) (replicate memory_size 0))

-- the entry's registers: argc and argv where it has two parameters, and zeros
abbrev pub first_registers : FnRec → List (List ℕ) → List ℕ
first_registers f args =
    cond (f.params == 2) (length (argument_words args) ∷ argv_address args ∷ replicate (f.regs - 2) 0) (replicate f.regs 0)

-- an entry whose frame or weight alone passes the stack's numbers ends the run before its first instruction
abbrev pub first_end : FnRec → Option End
first_end f = cond (nat_lt stack_frames f.frame || nat_lt stack_weights f.weight) (Some ends.StackFull) None

-- the machine at the first instruction of the entry
abbrev pub core_at : PlainImage → List (List ℕ) → FnRec → Core
core_at image args f = record {
  memory = first_memory image args;
  running = record { function = image.entry; at = f.first; base = stack_start; registers = first_registers f args };
  callers = [];
  slots = replicate 64 0;
  heap = whole_heap;
  stopped = first_end f;
}

-- the machine as it is opened
abbrev pub first_core : PlainImage → List (List ℕ) → Core
first_core image args = core_at image args (function_at image.functions image.entry)

-- a machine with this input before it, that has shown nothing
abbrev pub begun : Core → Input → State
begun core input = record { core = core; world = record { input = input; shown = [] } }

-- the functions and the code of an image
abbrev pub program_of : PlainImage → Program
program_of image = record { functions = image.functions; code = image.code }

-- the machine's run: what is shown after each number of instructions, and how it stands
abbrev pub machine_runs : PlainImage → List (List ℕ) → Input → Runs
machine_runs image args input m =
    let s = after (program_of image) m (begun (first_core image args) input) in
    (s.world.shown, standing_of s.core.stopped)
