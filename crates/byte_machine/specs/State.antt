-- The machine's state and the table of its instructions. It knows addresses and numbers alone. This project's own.
use Rattle.std.specs.Prelude.{ℕ, zero, suc, ◌+◌, ◌%◌, ◌^◌, List, [], ◌∷◌, ◌++◌, length, Bool, ◌&&◌, ◌||◌, not, ◌==◌, nat_lt, nat_le, cond, Option, None, Some, slice_get, slice_index, slice_range, slice_set, replicate, is_some, ◌-◌, take, drop, sum_by, ◌*◌, min, Result, Ok, Err}
use Rattle.std.specs.Int.{from_le_bytes, to_le_bytes, w16, w32, w64}
use Rattle.run_meaning.specs.Runs.{Shown, Standing, Ended, Going, on_descriptor}
use Rattle.run_meaning.specs.Worlds.{World}
use Rattle.run_meaning.specs.Events.{overflow_line, size_line}
use Rattle.fc_base.specs.declared.levels.End.{End}
use Rattle.fc_base.specs.declared.levels.End.TheVariants as ends
use Rattle.fc_base.specs.declared.levels.Mode.{Mode}
use Rattle.fc_base.specs.declared.levels.Mode.TheVariants as modes
use Rattle.bm_isa.specs.declared.instructions.Instr.{Instr}
use Rattle.bm_isa.specs.declared.instructions.Instr.TheVariants as instr
use Rattle.c_library.specs.declared.functions.LibFn.{LibFn}
use Rattle.c_library.specs.declared.functions.LibFn.TheVariants as calls
use Rattle.c_library.specs.Library.{row_of, call_of}
use Rattle.bm_image.specs.declared.images.FnRec.{FnRec}
use Rattle.bm_image.specs.Images.{function_at, slots_of}
use Rattle.fc_base.specs.declared.levels.Width.{Width}
use Rattle.fc_base.specs.declared.levels.Width.TheVariants as widths
use Rattle.fc_base.specs.Widths.{width_bytes, extended}
use Rattle.bm_arithmetic.specs.Arithmetic.{binary_value, divide_value}
use Rattle.bm_heap.specs.Heaps.{Heap, place_for, block_at, after_take, after_give}
use Rattle.library_meaning.specs.Rows.{Row, Ask, Show, Gives, Count, Answer, run}
use Rattle.library_meaning.specs.Table as table
use Rattle.library_meaning.specs.Table.{no_limit}
use Rattle.library_meaning.specs.Prints as prints
use Rattle.library_meaning.specs.OnBytes.{on_bytes, number_of}
use Rattle.library_meaning.specs.declared.stops.HostStop.{HostStop}
use Rattle.library_meaning.specs.declared.stops.HostStop.TheVariants as host
use Rattle.library_meaning.specs.Memory.{are_valid, put, bytes_at}

-- where the data section, the stack and the heap begin, and how much stack there is
abbrev pub data_start : ℕ
data_start = 1048576

abbrev pub stack_start : ℕ
stack_start = 5242880

abbrev pub stack_frames : ℕ
stack_frames = 4194304

abbrev pub stack_weights : ℕ
stack_weights = 16777216

abbrev pub heap_start : ℕ
heap_start = 9437184

-- a call: its function, the instruction it stands at, the address of its frame, and its registers
pub record Window : Type 0 where
  pub function : ℕ
  pub at : ℕ
  pub base : ℕ
  pub registers : List ℕ

-- the machine without the world: the bytes of memory, the running call, the calls that wait for it from the newest
-- on, the argument slots, the heap, and how the run ended
pub record Core : Type 0 where
  pub memory : List ℕ
  pub running : Window
  pub callers : List Window
  pub slots : List ℕ
  pub heap : Heap
  pub stopped : Option End

pub record State : Type 0 where
  pub core : Core
  pub world : World

-- what a machine is loaded with
pub record Program : Type 0 where
  pub functions : List FnRec
  pub code : List Instr

-- the run ends
abbrev pub ending : End → Core → Core
ending end core = record core { stopped = Some end }

-- a register of the running call, and an argument slot
abbrev pub register : Core → ℕ → ℕ
register core r = slice_index core.running.registers r

abbrev pub slot_value : Core → ℕ → ℕ
slot_value core k = slice_index core.slots k

-- the running call goes on behind its instruction
abbrev pub going_on : Core → Core
going_on core = record core { running = record core.running { at = core.running.at + 1 } }

-- the same with this number in a register
abbrev pub giving : ℕ → ℕ → Core → Core
giving to number core =
    record core { running = record core.running { at = core.running.at + 1; registers = slice_set core.running.registers to number } }

-- the same where there is a number. A division that gives none ends the run
abbrev pub giving_if : ℕ → Option ℕ → Core → Core
giving_if to None core = ending ends.Fpe core
giving_if to (Some number) core = giving to number core

-- the running call goes on at an instruction, or there where a test holds, and else behind its instruction
abbrev pub going_to : ℕ → Core → Core
going_to target core = record core { running = record core.running { at = target } }

abbrev pub going_if : Bool → ℕ → Core → Core
going_if test target core = cond test (going_to target core) (going_on core)

-- the same with the number of a register in an argument slot
abbrev pub passing : ℕ → ℕ → Core → Core
passing from k core = going_on (record core { slots = slice_set core.slots k (register core from) })

-- the number of a width at an address, little-endian, and the low bytes of a number
abbrev pub number_at : Width → ℕ → List ℕ → ℕ
number_at widths.W1 address memory = slice_index memory address
number_at widths.W2 address memory = from_le_bytes w16 (slice_range memory address (address + 2))
number_at widths.W4 address memory = from_le_bytes w32 (slice_range memory address (address + 4))
number_at widths.W8 address memory = from_le_bytes w64 (slice_range memory address (address + 8))

abbrev pub low_bytes : Width → ℕ → List ℕ
low_bytes widths.W1 number = number % 2 ^ 8 ∷ []
low_bytes widths.W2 number = to_le_bytes w16 (number % 2 ^ 16)
low_bytes widths.W4 number = to_le_bytes w32 (number % 2 ^ 32)
low_bytes widths.W8 number = to_le_bytes w64 number

-- a register takes the number at an address, extended, where its bytes may be touched
abbrev pub loading : Bool → Width → ℕ → ℕ → Core → Core
loading signed width to address core =
    cond (are_valid address (width_bytes width)) (giving to (extended (number_at width address core.memory) width signed) core)
    (ending ends.BadAddress core)

-- n bytes go to an address, where they may be touched
abbrev pub storing : ℕ → ℕ → List ℕ → Core → Core
storing address n bytes core =
    cond (are_valid address n) (going_on (record core { memory = put address bytes core.memory })) (ending ends.BadAddress core)

-- n bytes go from the one address to the other, as if through a copy, where all of them may be touched
abbrev pub copying : ℕ → ℕ → ℕ → Core → Core
copying to from n core =
    cond (are_valid to n && are_valid from n)
    (going_on (record core { memory = put to (bytes_at core.memory from n) core.memory }))
    (ending ends.BadAddress core)

-- a state with another core, and one that shows this too
abbrev pub with_core : Core → State → State
with_core core s = record s { core = core }

abbrev pub showing : Shown → State → State
showing shown s = record s { world = record s.world { shown = s.world.shown ++ shown } }

-- a checked call whose request exceeds its size writes glibc's line and ends the run; memory stays as it was
abbrev pub overflowing : State → State
overflowing s = showing (on_descriptor 2 overflow_line) (with_core (ending ends.Overflow s.core) s)

-- the arguments of a library call that has a fixed number of them, and the destination's size: that of a checked form stands behind
-- them, and a plain form has no limit
abbrev pub arguments : LibFn → Core → List ℕ
arguments f core = take (length (row_of f).parameters) core.slots

abbrev pub size_of : LibFn → Bool → Core → ℕ
size_of f checked core = cond checked (slot_value core (length (row_of f).parameters)) no_limit

-- a call stops the machine. No row over bytes stops with a fault of a stream
abbrev pub stopping : HostStop → State → State
stopping host.Overflow s = overflowing s
stopping host.BadAddress s = with_core (ending ends.BadAddress s.core) s
stopping host.BadFormat s = with_core (ending ends.BadFormat s.core) s
stopping host.InputFault s = s
stopping host.SinkFault s = s

-- what a call did by its row, with the register of its result
abbrev pub answered : ℕ → List ℕ → Result (Answer (List ℕ)) HostStop → State → State
answered to args (Ok a) s = record { core = giving to (number_of args a.given) (record s.core { memory = a.memory }); world = a.world }
answered to args (Err stop) s = stopping stop s

abbrev pub by_row : ℕ → List ℕ → Row → State → State
by_row to args row s = answered to args (run (on_bytes args) row s.core.memory s.world) s

-- a call by the row of its arguments, and by one that is also told the destination's size
abbrev pub acting : LibFn → Row → ℕ → State → State
acting f row to s = by_row to (arguments f s.core) row s

abbrev pub acting_within : LibFn → (ℕ → Row) → Bool → ℕ → State → State
acting_within f row checked to s = by_row to (arguments f s.core) (row (size_of f checked s.core)) s

-- how many arguments follow the format of a print, where it is passed so many slots
abbrev pub passed : LibFn → Bool → ℕ → ℕ
passed f checked count = count - slots_of f checked

-- the arguments of a print into memory: the size of its checked form stands in slot k, before the format
abbrev pub print_arguments : ℕ → Bool → ℕ → Core → List ℕ
print_arguments k checked count core =
    let given = take count core.slots in
    cond checked (take k given ++ drop (k + 1) given) given

abbrev pub print_size : ℕ → Bool → Core → ℕ
print_size k checked core = cond checked (slot_value core k) no_limit

-- a print on a descriptor, and one into memory, by its row
abbrev pub printing : LibFn → (ℕ → Row) → Bool → ℕ → ℕ → State → State
printing f row checked count to s = by_row to (take count s.core.slots) (row (passed f checked count)) s

abbrev pub printing_within : LibFn → ℕ → (ℕ → ℕ → Row) → Bool → ℕ → ℕ → State → State
printing_within f k row checked count to s =
    by_row to (print_arguments k checked count s.core) (row (passed f checked count) (print_size k checked s.core)) s

-- note(line, column, mode, value): the size line of these numbers, in the mode of the third one's two low bits, on standard error.
-- No source can call it
abbrev pub mode_at : ℕ → Mode
mode_at n = cond (n == 0) modes.M0 (cond (n == 1) modes.M1 (cond (n == 2) modes.M2 modes.M3))

abbrev pub note_line : ℕ → ℕ → ℕ → ℕ → List ℕ
note_line line column mode value = size_line (record { line = line; col = column }) (mode_at (mode % 4)) value

abbrev pub note : Row
note = Ask 0 (λ line. Ask 1 (λ column. Ask 2 (λ mode. Ask 3 (λ value. Show 2 (note_line line column mode value) (Gives (Count 0))))))

-- the address of a block that was found, or a null pointer
abbrev pub block_address : Option ℕ → ℕ
block_address None = 0
block_address (Some place) = heap_start + place

-- n zero bytes in a block that was found
abbrev pub zeroed : Option ℕ → ℕ → List ℕ → List ℕ
zeroed None n memory = memory
zeroed (Some place) n memory = put (heap_start + place) (replicate n 0) memory

-- malloc(n), C11 7.22.3.4
abbrev pub allocating : ℕ → ℕ → Core → Core
allocating to n core = giving to (block_address (place_for n core.heap)) (record core { heap = after_take n core.heap })

-- calloc(a, b), C11 7.22.3.2, by the product. One past 64 bits has no place
abbrev pub clearing : ℕ → ℕ → Core → Core
clearing to n core =
    cond (nat_lt n (2 ^ 64))
    (giving to (block_address (place_for n core.heap))
    (record core { heap = after_take n core.heap; memory = zeroed (place_for n core.heap) n core.memory }))
    (giving to 0 core)

-- the size that was asked for of the live block at an address
abbrev pub block_in : Heap → ℕ → Option ℕ
block_in heap address = cond (nat_le heap_start address) (block_at heap (address - heap_start)) None

-- free(p), C11 7.22.3.3: a null pointer is let be, and any other has to be a live block's address
abbrev pub freed : ℕ → ℕ → Option ℕ → Core → Core
freed to address None core = ending ends.BadAddress core
freed to address (Some size) core = giving to 0 (record core { heap = after_give (address - heap_start) core.heap })

abbrev pub freeing : ℕ → ℕ → Core → Core
freeing to address core = cond (address == 0) (giving to 0 core) (freed to address (block_in core.heap address) core)

-- realloc(p, n), C11 7.22.3.5: the new block is found while the old one lives, and takes as many of its bytes as it can. Where none
-- is found the old one stays
abbrev pub replaced : ℕ → ℕ → ℕ → ℕ → Option ℕ → Core → Core
replaced to address kept n None core = giving to 0 core
replaced to address kept n (Some place) core = giving to (heap_start + place) (record core {
  heap = after_give (address - heap_start) (after_take n core.heap);
  memory = put (heap_start + place) (bytes_at core.memory address kept) core.memory;
})

abbrev pub resized : ℕ → ℕ → ℕ → Option ℕ → Core → Core
resized to address n None core = ending ends.BadAddress core
resized to address n (Some size) core = replaced to address (min size n) n (place_for n core.heap) core

abbrev pub reallocating : ℕ → ℕ → ℕ → Core → Core
reallocating to address n core = cond (address == 0) (allocating to n core) (resized to address n (block_in core.heap address) core)

-- what a library call does, checked or not, that is passed so many slots, with the register of its result
abbrev pub host_call : LibFn → Bool → ℕ → ℕ → State → State
host_call calls.Exit checked count to s = with_core (ending (ends.Exit (slot_value s.core 0 % 256)) s.core) s
host_call calls.Abort checked count to s = with_core (ending ends.Abort s.core) s
host_call calls.Malloc checked count to s = with_core (allocating to (slot_value s.core 0) s.core) s
host_call calls.Calloc checked count to s = with_core (clearing to (slot_value s.core 0 * slot_value s.core 1) s.core) s
host_call calls.Realloc checked count to s = with_core (reallocating to (slot_value s.core 0) (slot_value s.core 1) s.core) s
host_call calls.Free checked count to s = with_core (freeing to (slot_value s.core 0) s.core) s
host_call calls.Memcpy checked count to s = acting_within calls.Memcpy table.memcpy checked to s
host_call calls.Memmove checked count to s = acting_within calls.Memmove table.memmove checked to s
host_call calls.Mempcpy checked count to s = acting_within calls.Mempcpy table.mempcpy checked to s
host_call calls.Memset checked count to s = acting_within calls.Memset table.memset checked to s
host_call calls.Bzero checked count to s = acting_within calls.Bzero table.bzero checked to s
host_call calls.ExplicitBzero checked count to s = acting_within calls.ExplicitBzero table.bzero checked to s
host_call calls.Memcmp checked count to s = acting calls.Memcmp table.memcmp to s
host_call calls.Strcpy checked count to s = acting_within calls.Strcpy table.strcpy checked to s
host_call calls.Stpcpy checked count to s = acting_within calls.Stpcpy table.stpcpy checked to s
host_call calls.Strncpy checked count to s = acting_within calls.Strncpy table.strncpy checked to s
host_call calls.Strcat checked count to s = acting_within calls.Strcat table.strcat checked to s
host_call calls.Strncat checked count to s = acting_within calls.Strncat table.strncat checked to s
host_call calls.Strlen checked count to s = acting calls.Strlen table.strlen to s
host_call calls.Strcmp checked count to s = acting calls.Strcmp table.strcmp to s
host_call calls.Strchr checked count to s = acting calls.Strchr table.strchr to s
host_call calls.Printf checked count to s = printing calls.Printf prints.printf checked count to s
host_call calls.Puts checked count to s = acting calls.Puts table.puts to s
host_call calls.Putchar checked count to s = acting calls.Putchar table.putchar to s
host_call calls.Dprintf checked count to s = printing calls.Dprintf prints.dprintf checked count to s
host_call calls.Sprintf checked count to s = printing_within calls.Sprintf 1 prints.sprintf checked count to s
host_call calls.Snprintf checked count to s = printing_within calls.Snprintf 2 prints.snprintf checked count to s
host_call calls.Read checked count to s = acting_within calls.Read table.read checked to s
host_call calls.Write checked count to s = acting calls.Write table.write to s
host_call calls.Getchar checked count to s = acting calls.Getchar table.getchar to s
host_call calls.Note checked count to s = acting calls.Note note to s

-- the call of a number. A number that names none stands in no image
abbrev pub numbered_call : Option (LibFn × Bool) → ℕ → ℕ → State → State
numbered_call None count to s = s
numbered_call (Some call) count to s = host_call call.0 call.1 count to s

-- the live calls from the newest on, and what their frames and their weights sum to
abbrev pub live : Core → List Window
live core = core.running ∷ core.callers

abbrev pub frame_of : Program → Window → ℕ
frame_of program w = (function_at program.functions w.function).frame

abbrev pub weight_of : Program → Window → ℕ
weight_of program w = (function_at program.functions w.function).weight

abbrev pub frames_of : Program → List Window → ℕ
frames_of program windows = sum_by (frame_of program) windows

abbrev pub weights_of : Program → List Window → ℕ
weights_of program windows = sum_by (weight_of program) windows

-- a further call would pass the stack's frames or weights
abbrev pub is_full : Program → FnRec → Core → Bool
is_full program callee core =
    nat_lt stack_frames (frames_of program (live core) + callee.frame) || nat_lt stack_weights (weights_of program (live core) + callee.weight)

-- a call of a function: its first registers are the argument slots from 0 on, the others are zeros, and its frame stands behind
-- the caller's
abbrev pub window_of : Program → ℕ → FnRec → Core → Window
window_of program function callee core = record {
  function = function;
  at = callee.first;
  base = core.running.base + frame_of program core.running;
  registers = take callee.params core.slots ++ replicate (callee.regs - callee.params) 0;
}

-- the running call waits for one of the function
abbrev pub entering : Program → ℕ → FnRec → Core → Core
entering program function callee core = record core { running = window_of program function callee core; callers = live core }

-- the same, or the run ends where the stack is full
abbrev pub calling : Program → ℕ → FnRec → Core → Core
calling program function callee core =
    cond (is_full program callee core) (ending ends.StackFull core) (entering program function callee core)

-- the register that takes the result of a call, off the instruction that made it
abbrev pub result_register : Option Instr → ℕ
result_register (Some (instr.Call to function)) = to
result_register _ = 0

-- a caller goes on with the result of its call
abbrev pub resumed : Program → ℕ → Window → Window
resumed program value caller =
    let to = result_register (slice_get program.code caller.at) in
    record caller { at = caller.at + 1; registers = slice_set caller.registers to value }

-- the running call ends. The first call's end is the run's, by the low byte of its result
abbrev pub returning : Program → ℕ → List Window → Core → Core
returning program value [] core = ending (ends.Exit (value % 256)) core
returning program value (caller ∷ callers) core = record core { running = resumed program value caller; callers = callers }

-- what each instruction does
abbrev pub perform : Program → Instr → State → State
perform program (instr.Const to number) s = with_core (giving to number s.core) s
perform program (instr.Move to from) s = with_core (giving to (register s.core from) s.core) s
perform program (instr.Slot to offset) s = with_core (giving to (s.core.running.base + offset) s.core) s
perform program (instr.Binary op to left right) s =
    with_core (giving_if to (binary_value op (register s.core left) (register s.core right)) s.core) s
perform program (instr.Divide op width to left right) s =
    with_core (giving_if to (divide_value op width (register s.core left) (register s.core right)) s.core) s
perform program (instr.Extend signed width to from) s = with_core (giving to (extended (register s.core from) width signed) s.core) s
perform program (instr.Select to test from) s =
    with_core (cond (register s.core test == 0) (going_on s.core) (giving to (register s.core from) s.core)) s
perform program (instr.Load signed width to at) s = with_core (loading signed width to (register s.core at) s.core) s
perform program (instr.Store width from at) s =
    with_core (storing (register s.core at) (width_bytes width) (low_bytes width (register s.core from)) s.core) s
perform program (instr.Copy to_at from_at count) s = with_core (copying (register s.core to_at) (register s.core from_at) count s.core) s
perform program (instr.Zero at count) s = with_core (storing (register s.core at) count (replicate count 0) s.core) s
perform program (instr.Jump target) s = with_core (going_to target s.core) s
perform program (instr.JumpIfZero test target) s = with_core (going_if (register s.core test == 0) target s.core) s
perform program (instr.JumpIfNotZero test target) s = with_core (going_if (not (register s.core test == 0)) target s.core) s
perform program (instr.Argument from k) s = with_core (passing from k s.core) s
perform program (instr.Call to function) s = with_core (calling program function (function_at program.functions function) s.core) s
perform program (instr.Return from) s = with_core (returning program (register s.core from) s.core.callers s.core) s
perform program (instr.Host to call count) s = numbered_call (call_of call) count to s

-- the instruction that is there, if there is one
abbrev pub performed : Program → Option Instr → State → State
performed program None s = s
performed program (Some instruction) s = perform program instruction s

-- the state after one instruction; a machine whose run has ended stays as it is
unfoldable pub next : Program → State → State
next program s = cond (is_some s.core.stopped) s (performed program (slice_get program.code s.core.running.at) s)

-- the state after m instructions
unfoldable pub after : Program → ℕ → State → State
after program zero s = s
after program (suc m) s = next program (after program m s)

-- how a machine stands
abbrev pub standing_of : Option End → Standing
standing_of (Some end) = Ended end
standing_of None = Going
