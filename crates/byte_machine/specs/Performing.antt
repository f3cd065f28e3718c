-- What one instruction does to a machine and to the streams. It serves the proofs alone.
use Rattle.std.specs.Prelude.{◌≡◌, Bool, ℕ, zero, suc, ◌+◌, Option, Result, Ok, Err, slice_index, slice_range, List, [], ◌∷◌, ◌++◌, None, Some, slice_get, false, true, length, nat_le, nat_lt, ◌&&◌, ◌<◌, ◌≤◌}
use Rattle.fc_base.specs.Outside.{IsAtEnd, IsFront}
use Rattle.run_meaning.specs.Runs.{Shown, bytes_on}
use Rattle.run_meaning.specs.Worlds.{AreBytes, Input}
use Rattle.run_meaning.specs.Objects.{Streams, Offers, Moves, NoneFell, Failed, state_of, descriptor_of}
use Rattle.run_meaning.specs.declared.streams.Stream.{Stream}
use Rattle.run_meaning.specs.declared.streams.Stream.TheVariants.{Input as OfInput, Out as OfOut, Err as OfErr}
use Rattle.bm_isa.specs.declared.instructions.Instr.{Instr}
use Rattle.bm_isa.specs.declared.instructions.Instr.TheVariants as instr
use Rattle.c_library.specs.declared.functions.LibFn.{LibFn}
use Rattle.c_library.specs.declared.functions.LibFn.TheVariants as calls
use Rattle.c_library.specs.Library.{row_of, call_of}
use Rattle.library_meaning.specs.Scan.{Found}
use Rattle.library_meaning.specs.Rows.{Row, Gives, Malformed, Check, Ask, Text, Bytes, Both, Point, Touch, Apart, Store, Show, Take, run}
use Rattle.library_meaning.specs.Table as table
use Rattle.library_meaning.specs.Prints as prints
use Rattle.library_meaning.specs.OnStreams.{Writes}
use Rattle.library_meaning.specs.OnBytes.{on_bytes, quiet, Does}
use Rattle.library_meaning.specs.declared.stops.HostStop.{HostStop}
use Rattle.bm_image.specs.Images.{bounds_of, function_at, ends_function, form_takes}
use Rattle.byte_machine.specs.State.{Core, State, Program, Window, next, perform, by_row, giving, with_core, stopping, is_full, resumed}
use Rattle.byte_machine.specs.Opening.{begun}
use Rattle.byte_machine.specs.Machines.{Loaded, Reaches, end_of_stop, moved_next}
use Rattle.byte_machine.specs.declared.machine.Stop.{Stop}
use Rattle.byte_machine.specs.declared.machine.Stop.TheVariants as stops
use Rattle.byte_machine.specs.declared.machine.Step.{Step}
use Rattle.byte_machine.specs.declared.machine.Step.TheVariants as steps

-- a machine that has not stopped
abbrev pub IsGoing : Loaded → Type 0
IsGoing l = (l.core.stopped ≡ None) × (l.stop ≡ None)

-- the instruction that a machine stands at
abbrev pub StandsAt : Loaded → Instr → Type 0
StandsAt l i = slice_get l.program.code l.core.running.at ≡ Some i

-- the registers that an instruction names, in the order of its fields
abbrev pub registers_of : Instr → List ℕ
registers_of (instr.Const to number) = to ∷ []
registers_of (instr.Move to from) = to ∷ from ∷ []
registers_of (instr.Slot to offset) = to ∷ []
registers_of (instr.Binary op to left right) = to ∷ left ∷ right ∷ []
registers_of (instr.Divide op width to left right) = to ∷ left ∷ right ∷ []
registers_of (instr.Extend signed width to from) = to ∷ from ∷ []
registers_of (instr.Select to test from) = to ∷ test ∷ from ∷ []
registers_of (instr.Load signed width to at) = to ∷ at ∷ []
registers_of (instr.Store width from at) = from ∷ at ∷ []
registers_of (instr.Copy to_at from_at count) = to_at ∷ from_at ∷ []
registers_of (instr.Zero at count) = at ∷ []
registers_of (instr.Jump target) = []
registers_of (instr.JumpIfZero test target) = test ∷ []
registers_of (instr.JumpIfNotZero test target) = test ∷ []
registers_of (instr.Argument from k) = from ∷ []
registers_of (instr.Call to function) = to ∷ []
registers_of (instr.Return from) = from ∷ []
registers_of (instr.Host to call count) = to ∷ []

-- the instruction that a machine stands at names the register, at the k-th place
pub record Names (l : Loaded) (r : ℕ) : Type 0 where
  pub i : Instr
  pub k : ℕ
  pub stands : StandsAt l i
  pub named : slice_get (registers_of i) k ≡ Some r

-- the library call that a machine stands at, checked or not, and the register of its result
pub record StandsAtCall (l : Loaded) (call : LibFn) (checked : Bool) (to : ℕ) : Type 0 where
  pub number : ℕ
  pub count : ℕ
  pub stands : StandsAt l (instr.Host to number count)
  pub is : call_of number ≡ Some (call, checked)

-- the print that a machine stands at, which is passed so many slots
pub record StandsAtPrint (l : Loaded) (call : LibFn) (checked : Bool) (count to : ℕ) : Type 0 where
  pub number : ℕ
  pub stands : StandsAt l (instr.Host to number count)
  pub is : call_of number ≡ Some (call, checked)
  pub takes : form_takes call checked count ≡ true

-- the first argument slots
abbrev pub slots_from : ℕ → ℕ → List ℕ → List ℕ
slots_from at zero slots = []
slots_from at (suc n) slots = slice_index slots at ∷ slots_from (at + 1) n slots

abbrev pub operands : LibFn → List ℕ → List ℕ
operands f slots = slots_from 0 (length (row_of f).parameters) slots

-- the library's row of a call that moves bytes in memory, whose destination has this size
abbrev pub memory_row : LibFn → ℕ → Option Row
memory_row calls.Memcpy size = Some (table.memcpy size)
memory_row calls.Memmove size = Some (table.memmove size)
memory_row calls.Mempcpy size = Some (table.mempcpy size)
memory_row calls.Memset size = Some (table.memset size)
memory_row calls.Bzero size = Some (table.bzero size)
memory_row calls.ExplicitBzero size = Some (table.bzero size)
memory_row calls.Memcmp size = Some table.memcmp
memory_row calls.Strcpy size = Some (table.strcpy size)
memory_row calls.Stpcpy size = Some (table.stpcpy size)
memory_row calls.Strncpy size = Some (table.strncpy size)
memory_row calls.Strcat size = Some (table.strcat size)
memory_row calls.Strncat size = Some (table.strncat size)
memory_row calls.Strlen size = Some table.strlen
memory_row calls.Strcmp size = Some table.strcmp
memory_row calls.Strchr size = Some table.strchr
memory_row _ size = None

-- such a call did to memory what its row says
abbrev pub Did : Option Row → List ℕ → List ℕ → List ℕ → Result ℕ HostStop → Type 0
Did None args old new result = ⊥
Did (Some row) args old new result = Does args (run (on_bytes args) row old quiet) old new result

-- a call that moves bytes in memory
abbrev pub is_plain : LibFn → Bool
is_plain calls.Memcpy = true
is_plain calls.Memmove = true
is_plain calls.Mempcpy = true
is_plain calls.Memset = true
is_plain calls.Bzero = true
is_plain calls.ExplicitBzero = true
is_plain calls.Memcmp = true
is_plain calls.Strcpy = true
is_plain calls.Stpcpy = true
is_plain calls.Strncpy = true
is_plain calls.Strcat = true
is_plain calls.Strncat = true
is_plain calls.Strlen = true
is_plain calls.Strcmp = true
is_plain calls.Strchr = true
is_plain _ = false

-- a call that ends the run or acts on the heap
abbrev pub acts : LibFn → Bool
acts calls.Exit = true
acts calls.Abort = true
acts calls.Malloc = true
acts calls.Calloc = true
acts calls.Realloc = true
acts calls.Free = true
acts _ = false

-- a call that moves bytes on the streams, and is no print
abbrev pub uses_streams : LibFn → Bool
uses_streams calls.Puts = true
uses_streams calls.Putchar = true
uses_streams calls.Read = true
uses_streams calls.Write = true
uses_streams calls.Getchar = true
uses_streams calls.Note = true
uses_streams _ = false

-- the machine stands at an instruction that stops it so
pub record Halts (l : Loaded) (stop : HostStop) : Type 0 where
  pub i : Instr
  pub stands : StandsAt l i
  pub does : (input : Input) → perform l.program i (begun l.core input) ≡ stopping stop (begun l.core input)

-- what the format in a slot prints of the slots behind it, up to the count, is stored at the address in the first slot: all of it, or as
-- much as the second slot says
abbrev pub StoresWhole : ℕ → ℕ → ℕ → Result ℕ HostStop → List ℕ → List ℕ → List ℕ → Type 0
StoresWhole size format count result slots old new =
    let args = slice_range slots (format + 1) count in
    let operands = slice_index slots 0 ∷ slice_index slots format ∷ args in
    Does operands (run (on_bytes operands) (prints.sprintf (length args) size) old quiet) old new result

abbrev pub StoresBounded : ℕ → ℕ → ℕ → Result ℕ HostStop → List ℕ → List ℕ → List ℕ → Type 0
StoresBounded size format count result slots old new =
    let args = slice_range slots (format + 1) count in
    let operands = slice_index slots 0 ∷ slice_index slots 1 ∷ slice_index slots format ∷ args in
    Does operands (run (on_bytes operands) (prints.snprintf (length args) size) old quiet) old new result

-- what the machine is behind a call with this result, over this memory
abbrev pub after_call : ℕ → Result ℕ HostStop → List ℕ → State → State
after_call to (Ok number) memory s = with_core (giving to number (record s.core { memory = memory })) s
after_call to (Err stop) memory s = stopping stop s

-- the call that a machine stood at has stored bytes, or has stopped and stored nothing
pub record HasStored (l : Loaded) (to : ℕ) (result : Result ℕ HostStop) (stored : Loaded) : Type 0 where
  pub number : ℕ
  pub count : ℕ
  pub stands : StandsAt l (instr.Host to number count)
  pub going : IsGoing l
  pub state : stored ≡ record l { core = record l.core { memory = stored.core.memory } }
  pub does : (input : Input) → perform l.program (instr.Host to number count) (begun l.core input)
      ≡ after_call to result stored.core.memory (begun l.core input)
  pub kept : (stop : HostStop) → result ≡ Err stop → stored.core.memory ≡ l.core.memory

-- a sink
abbrev pub IsSink : Stream → Type 0
IsSink OfInput = ⊥
IsSink OfOut = Unit {0}
IsSink OfErr = Unit {0}

-- the others of the streams are as they were
abbrev pub MovesAlone : Stream → Streams → Streams → Type 0
MovesAlone OfInput old new = (new.out ≡ old.out) × (new.err ≡ old.err)
MovesAlone OfOut old new = (new.input ≡ old.input) × (new.err ≡ old.err)
MovesAlone OfErr old new = (new.input ≡ old.input) × (new.out ≡ old.out)

-- a row that reads, and shows on one descriptor alone
abbrev pub ShowsOn : ℕ → Row → Type 0
ShowsOn d (Gives g) = Unit {0}
ShowsOn d Malformed = Unit {0}
ShowsOn d (Check true next) = ⊥
ShowsOn d (Check false next) = ShowsOn d next
ShowsOn d (Ask i next) = (n : ℕ) → ShowsOn d (next n)
ShowsOn d (Text stops from next) = (f : Found) → ShowsOn d (next f)
ShowsOn d (Bytes from next) = (bs : List ℕ) → ShowsOn d (next bs)
ShowsOn d (Both a b next) = ⊥
ShowsOn d (Point pointers touched next) = ShowsOn d next
ShowsOn d (Touch all next) = ⊥
ShowsOn d (Apart strict to reads next) = ⊥
ShowsOn d (Store i k what next) = ⊥
ShowsOn d (Show e bs next) = (e ≡ d) × ShowsOn d next
ShowsOn d (Take n next) = ⊥

-- a machine stands at a library call that acts by a row with these arguments, its result in a register
pub record ActsBy (l : Loaded) (to : ℕ) (args : List ℕ) (row : Row) : Type 0 where
  pub number : ℕ
  pub count : ℕ
  pub stands : StandsAt l (instr.Host to number count)
  pub does : (input : Input) → perform l.program (instr.Host to number count) (begun l.core input) ≡ by_row to args row (begun l.core input)

-- the call that a machine stands at has done on a sink what its row says
pub record HasWritten (l : Loaded) (to : ℕ) (which : Stream) (result : Result ℕ HostStop) (old new : Streams) : Type 0 where
  pub args : List ℕ
  pub row : Row
  pub acts : ActsBy l to args row
  pub sink : IsSink which
  pub shows : ShowsOn (descriptor_of which) row
  pub wrote : Writes args (run (on_bytes args) row l.core.memory quiet) result (state_of which old) (state_of which new)
  pub grew : (state_of which old).faults ≤ (state_of which new).faults
  pub alone : MovesAlone which old new

-- control goes on behind the instruction that a machine stands at
abbrev pub GoesOn : Loaded → Type 0
GoesOn l = (i : Instr) × StandsAt l i × (ends_function i ≡ false)

-- an instruction of the running call's function
abbrev pub Lands : Loaded → ℕ → Type 0
Lands l target =
    let bounds = bounds_of l.program.functions (length l.program.code) l.core.running.function in
    (nat_le bounds.first target && nat_lt target bounds.end) ≡ true

-- a call of the function is entered: the machine stands at it, and the stack has room
pub record Enters (l : Loaded) (function : ℕ) : Type 0 where
  pub there : function < length l.program.functions
  pub to : ℕ
  pub stands : StandsAt l (instr.Call to function)
  pub fits : is_full l.program (function_at l.program.functions function) l.core ≡ false

-- the caller of the running call goes on with the number that its call gives. The first call has no caller
abbrev pub resuming : Program → ℕ → List Window → Core → Core
resuming program value [] core = core
resuming program value (caller ∷ callers) core = record core { running = resumed program value caller; callers = callers }

-- a machine that stops so
abbrev pub stopped_with : Stop → Loaded → Loaded
stopped_with stop l = record l { core = record l.core { stopped = end_of_stop (Some stop) }; stop = Some stop }

-- an input with the bytes before it that these pairs took
abbrev pub behind : Shown → Input → Input
behind moved rest = record rest { bytes = bytes_on 0 moved ++ rest.bytes }

-- a machine with this input before it that has moved this
abbrev pub having_moved : Core → Shown → Input → State
having_moved core moved rest = record { core = core; world = record { input = rest; shown = moved } }

-- the streams moved this, and no count of faults fell. What was taken are bytes, and a source that told nothing tells at
-- most that it has ended
pub record HaveMoved (moved : Shown) (old new : Streams) : Type 0 where
  pub moves : Moves moved old new
  pub fell : NoneFell old new
  pub are_bytes : AreBytes (bytes_on 0 moved)
  pub untold : old.input.told ≡ None → IsAtEnd new.input.told

-- an instruction was carried out: with whatever input is left behind what it took, it is the next one's step
pub record Carried (program : Program) (core core' : Core) (old new : Streams) : Type 0 where
  pub moved : Shown
  pub have : HaveMoved moved old new
  pub state : (rest : Input) → Offers new rest → next program (begun core (behind moved rest)) ≡ having_moved core' moved rest

-- a stream failed in an instruction that reaches it, of which a front was moved
pub record FailsIn (which : Stream) (program : Program) (core : Core) (old new : Streams) : Type 0 where
  pub moved : Shown
  pub have : HaveMoved moved old new
  pub failed : Failed which old new
  pub reaches : (rest : Input) → Offers new rest → Reaches which program (begun core (behind moved rest))
  pub front : (rest : Input) → Offers new rest → IsFront moved (moved_next program (begun core (behind moved rest)))

-- what a step's answer says
abbrev pub Performs : Loaded → Loaded → Step → Streams → Streams → Type 0
Performs old new steps.Going before after =
    Carried old.program old.core new.core before after × (new.core.stopped ≡ None) × (new.stop ≡ None)
Performs old new (steps.Stopped (stops.Ended end)) before after =
    Carried old.program old.core new.core before after × (new.core.stopped ≡ Some end) × (new.stop ≡ Some (stops.Ended end))
Performs old new (steps.Stopped stops.OutOfSteps) before after = ⊥
Performs old new (steps.Stopped stops.InputFault) before after =
    FailsIn OfInput old.program old.core before after × (new.stop ≡ Some stops.InputFault)
Performs old new (steps.Stopped stops.OutFault) before after =
    FailsIn OfOut old.program old.core before after × (new.stop ≡ Some stops.OutFault)
Performs old new (steps.Stopped stops.ErrFault) before after =
    FailsIn OfErr old.program old.core before after × (new.stop ≡ Some stops.ErrFault)
