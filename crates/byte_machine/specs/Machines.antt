-- What the calls of a machine promise, over any streams. This project's own.
use Rattle.std.specs.Prelude.{◌≡◌, ◌≢◌, ℕ, ◌≤◌, Bool, [], Option, None, Some, slice_get, cond, ◌&&◌, ◌==◌, nat_le}
use Rattle.run_meaning.specs.Runs.{Shown, bytes_on}
use Rattle.run_meaning.specs.Worlds.{Input}
use Rattle.run_meaning.specs.Objects.{Streams, Offers, Moves, MovesUpTo, descriptor_of}
use Rattle.run_meaning.specs.declared.streams.Stream.{Stream}
use Rattle.run_meaning.specs.declared.streams.Stream.TheVariants.{Input as OfInput, Out as OfOut, Err as OfErr}
use Rattle.fc_base.specs.declared.levels.End.{End}
use Rattle.bm_isa.specs.declared.instructions.Instr.{Instr}
use Rattle.bm_isa.specs.declared.instructions.Instr.TheVariants as instr
use Rattle.c_library.specs.declared.functions.LibFn.{LibFn}
use Rattle.c_library.specs.declared.functions.LibFn.TheVariants as calls
use Rattle.c_library.specs.Library.{call_of}
use Rattle.byte_machine.specs.declared.machine.Stop.{Stop}
use Rattle.byte_machine.specs.declared.machine.Stop.TheVariants as stops
use Rattle.library_meaning.specs.Table.{int_of}
use Rattle.library_meaning.specs.Memory.{are_valid}
use Rattle.byte_machine.specs.State.{Core, State, Program, slot_value, size_of, next, after}
use Rattle.byte_machine.specs.Opening.{begun}

-- a machine as its callers see it: what it is loaded with, its state without the world, and the stop that it answers
pub record Loaded : Type 0 where
  pub program : Program
  pub core : Core
  pub stop : Option Stop

-- the stop at a fault of a stream
abbrev pub fault_of : Stream → Stop
fault_of OfInput = stops.InputFault
fault_of OfOut = stops.OutFault
fault_of OfErr = stops.ErrFault

-- the end of a run, where a stop is one
abbrev pub end_of_stop : Option Stop → Option End
end_of_stop (Some (stops.Ended end)) = Some end
end_of_stop _ = None

-- what the next instruction alone moves
abbrev pub moved_next : Program → State → Shown
moved_next program s = (next program (begun s.core s.world.input)).world.shown

-- how many bytes of descriptor 0 a `read` asks for: its count, where that is within its size and each byte may be stored. From
-- another descriptor it reads nothing
abbrev pub read_asks : ℕ → ℕ → ℕ → ℕ → ℕ
read_asks fd at n size = cond (int_of fd == 0 && (nat_le n size && are_valid at n)) n 0

-- how many bytes of descriptor 0 a library call asks for
abbrev pub asked_by : LibFn → Bool → Core → ℕ
asked_by calls.Exit checked core = 0
asked_by calls.Abort checked core = 0
asked_by calls.Malloc checked core = 0
asked_by calls.Calloc checked core = 0
asked_by calls.Realloc checked core = 0
asked_by calls.Free checked core = 0
asked_by calls.Memcpy checked core = 0
asked_by calls.Memmove checked core = 0
asked_by calls.Mempcpy checked core = 0
asked_by calls.Memset checked core = 0
asked_by calls.Bzero checked core = 0
asked_by calls.ExplicitBzero checked core = 0
asked_by calls.Memcmp checked core = 0
asked_by calls.Strcpy checked core = 0
asked_by calls.Stpcpy checked core = 0
asked_by calls.Strncpy checked core = 0
asked_by calls.Strcat checked core = 0
asked_by calls.Strncat checked core = 0
asked_by calls.Strlen checked core = 0
asked_by calls.Strcmp checked core = 0
asked_by calls.Strchr checked core = 0
asked_by calls.Printf checked core = 0
asked_by calls.Puts checked core = 0
asked_by calls.Putchar checked core = 0
asked_by calls.Dprintf checked core = 0
asked_by calls.Sprintf checked core = 0
asked_by calls.Snprintf checked core = 0
asked_by calls.Read checked core =
    read_asks (slot_value core 0) (slot_value core 1) (slot_value core 2) (size_of calls.Read checked core)
asked_by calls.Write checked core = 0
asked_by calls.Getchar checked core = 1
asked_by calls.Note checked core = 0

abbrev pub asked_by_numbered : Option (LibFn × Bool) → Core → ℕ
asked_by_numbered None core = 0
asked_by_numbered (Some call) core = asked_by call.0 call.1 core

-- how many an instruction asks for: none but a library call asks for any
abbrev pub asked : Option Instr → Core → ℕ
asked (Some (instr.Host to call count)) core = asked_by_numbered (call_of call) core
asked _ core = 0

-- the next instruction asks descriptor 0 for at least one byte, or has at least one to write on the descriptor
abbrev pub Reaches : Stream → Program → State → Type 0
Reaches OfInput program s = 1 ≤ asked (slice_get program.code s.core.running.at) s.core
Reaches OfOut program s = bytes_on (descriptor_of OfOut) (moved_next program s) ≢ []
Reaches OfErr program s = bytes_on (descriptor_of OfErr) (moved_next program s) ≢ []

-- m instructions lead from the one core to the other, and the streams move what they move
pub record Advances (m : ℕ) (program : Program) (core core' : Core) (old new : Streams) : Type 0 where
  pub input : Input
  pub offered : Offers old input
  pub state : (after program m (begun core input)).core ≡ core'
  pub moves : Moves (after program m (begun core input)).world.shown old new

-- a stream fails in the instruction after m, which reaches it: all of m has moved, and of that instruction a front on each
-- stream
pub record FailsAfter (which : Stream) (m : ℕ) (program : Program) (core : Core) (old new : Streams) : Type 0 where
  pub input : Input
  pub offered : Offers old input
  pub running : (after program m (begun core input)).core.stopped ≡ None
  pub reaches : Reaches which program (after program m (begun core input))
  pub moves : MovesUpTo (after program m (begun core input)).world.shown (moved_next program (after program m (begun core input))) old new

-- a machine that has stopped stays as it is
abbrev pub StoppedStays : Type 0
StoppedStays = (program : Program) (s : State) (end : End) → s.core.stopped ≡ Some end → (m : ℕ) → after program m s ≡ s
