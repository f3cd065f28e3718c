-- One instruction after another.
use Rattle.std.proofs.Common.{◌≡◌, ℕ, zero, suc, ◌+◌, List, [], ◌++◌, take, Bool, true, false, cond, is_some, Option, None, Some, Result, Ok, Err, slice_get, refl, sym, ◌∙◌, ap, subst, append_assoc, append-nil, add-one}
use Rattle.fc_base.specs.declared.levels.End.{End}
use Rattle.fc_base.specs.declared.levels.End.TheVariants as ends
use Rattle.run_meaning.specs.Runs.{Shown, on_descriptor, bytes_on}
use Rattle.run_meaning.specs.Events.{overflow_line}
use Rattle.run_meaning.specs.Worlds.{Input, World}
use Rattle.run_meaning.specs.Objects.{Streams, Offers, Moves, MovesUpTo, NoneFell}
use Rattle.run_meaning.specs.declared.streams.Stream.{Stream}
use Rattle.run_meaning.specs.declared.streams.Stream.TheVariants.{Input as OfInput, Out as OfOut, Err as OfErr}
use Rattle.bm_isa.specs.declared.instructions.Instr.{Instr}
use Rattle.bm_isa.specs.declared.instructions.Instr.TheVariants as instr
use Rattle.c_library.specs.declared.functions.LibFn.{LibFn}
use Rattle.c_library.specs.declared.functions.LibFn.TheVariants as calls
use Rattle.c_library.specs.Library.{call_of}
use Rattle.byte_machine.specs.declared.machine.Stop.TheVariants as stops
use Rattle.byte_machine.specs.declared.machine.Step.{Step}
use Rattle.byte_machine.specs.declared.machine.Step.TheVariants as steps
use Rattle.byte_machine.specs.State.{Core, State, Program, arguments, size_of, passed, print_arguments, print_size, ending, stopping, answered, by_row, acting, acting_within, printing, printing_within, note, host_call, numbered_call, perform, performed, next, after}
use Rattle.library_meaning.specs.Table as table
use Rattle.library_meaning.specs.Prints as prints
use Rattle.library_meaning.specs.Rows.{Row, Answer, run}
use Rattle.library_meaning.specs.OnBytes.{on_bytes}
use Rattle.library_meaning.specs.declared.stops.HostStop.{HostStop}
use Rattle.library_meaning.specs.declared.stops.HostStop.TheVariants as host
use Rattle.byte_machine.proofs.Worlds.{carried_to, shown_before, run_shown}
use Rattle.byte_machine.specs.Opening.{begun}
use Rattle.byte_machine.specs.Machines.{Loaded, Reaches, fault_of, moved_next, Advances, FailsAfter, StoppedStays}
use Rattle.byte_machine.specs.Performing.{behind, having_moved, HaveMoved, Carried, FailsIn, Performs}
use Rattle.byte_machine.proofs.Stretches.{after-add}
use Rattle.byte_machine.proofs.Moving.{bytes_on-append, have_moved-none, have_moved-append, offers-behind, some_input, offers-some, moves_up_to}

-- a state that has shown something before
abbrev pub prefixed : Shown → State → State
prefixed front s = record s { world = record s.world { shown = front ++ s.world.shown } }

-- what has been shown before plays no part where a call stops, or acts by its row
stopping-prefixed : (front : Shown) (stop : HostStop) (s : State) → stopping stop (prefixed front s) ≡ prefixed front (stopping stop s)
stopping-prefixed front host.Overflow s =
    ap (λ x. record { core = ending ends.Overflow s.core; world = record { input = s.world.input; shown = x } })
    (append_assoc front s.world.shown (on_descriptor 2 overflow_line))
stopping-prefixed front host.BadAddress s = refl
stopping-prefixed front host.BadFormat s = refl
stopping-prefixed front host.InputFault s = refl
stopping-prefixed front host.SinkFault s = refl

answered-prefixed : (front : Shown) (to : ℕ) (args : List ℕ) (ran : Result (Answer (List ℕ)) HostStop) (s : State)
    → answered to args (carried_to (shown_before front) ran) (prefixed front s) ≡ prefixed front (answered to args ran s)
answered-prefixed front to args (Ok a) s = refl
answered-prefixed front to args (Err stop) s = stopping-prefixed front stop s

row-prefixed : (front : Shown) (to : ℕ) (args : List ℕ) (row : Row) (s : State)
    → by_row to args row (prefixed front s) ≡ prefixed front (by_row to args row s)
row-prefixed front to args row s =
    ap (λ x. answered to args x (prefixed front s)) (run_shown front (on_bytes args) row s.core.memory s.world)
    ∙ answered-prefixed front to args (run (on_bytes args) row s.core.memory s.world) s

acting-prefixed : (front : Shown) (f : LibFn) (row : Row) (to : ℕ) (s : State)
    → acting f row to (prefixed front s) ≡ prefixed front (acting f row to s)
acting-prefixed front f row to s = row-prefixed front to (arguments f s.core) row s

within-prefixed : (front : Shown) (f : LibFn) (row : ℕ → Row) (checked : Bool) (to : ℕ) (s : State)
    → acting_within f row checked to (prefixed front s) ≡ prefixed front (acting_within f row checked to s)
within-prefixed front f row checked to s = row-prefixed front to (arguments f s.core) (row (size_of f checked s.core)) s

printing-prefixed : (front : Shown) (f : LibFn) (row : ℕ → Row) (checked : Bool) (count to : ℕ) (s : State)
    → printing f row checked count to (prefixed front s) ≡ prefixed front (printing f row checked count to s)
printing-prefixed front f row checked count to s = row-prefixed front to (take count s.core.slots) (row (passed f checked count)) s

printing_within-prefixed : (front : Shown) (f : LibFn) (k : ℕ) (row : ℕ → ℕ → Row) (checked : Bool) (count to : ℕ) (s : State)
    → printing_within f k row checked count to (prefixed front s) ≡ prefixed front (printing_within f k row checked count to s)
printing_within-prefixed front f k row checked count to s =
    row-prefixed front to (print_arguments k checked count s.core) (row (passed f checked count) (print_size k checked s.core)) s

call-prefixed : (front : Shown) (call : LibFn) (checked : Bool) (count to : ℕ) (s : State)
    → host_call call checked count to (prefixed front s) ≡ prefixed front (host_call call checked count to s)
call-prefixed front calls.Exit checked count to s = refl
call-prefixed front calls.Abort checked count to s = refl
call-prefixed front calls.Malloc checked count to s = refl
call-prefixed front calls.Calloc checked count to s = refl
call-prefixed front calls.Realloc checked count to s = refl
call-prefixed front calls.Free checked count to s = refl
call-prefixed front calls.Memcpy checked count to s = within-prefixed front calls.Memcpy table.memcpy checked to s
call-prefixed front calls.Memmove checked count to s = within-prefixed front calls.Memmove table.memmove checked to s
call-prefixed front calls.Mempcpy checked count to s = within-prefixed front calls.Mempcpy table.mempcpy checked to s
call-prefixed front calls.Memset checked count to s = within-prefixed front calls.Memset table.memset checked to s
call-prefixed front calls.Bzero checked count to s = within-prefixed front calls.Bzero table.bzero checked to s
call-prefixed front calls.ExplicitBzero checked count to s = within-prefixed front calls.ExplicitBzero table.bzero checked to s
call-prefixed front calls.Memcmp checked count to s = acting-prefixed front calls.Memcmp table.memcmp to s
call-prefixed front calls.Strcpy checked count to s = within-prefixed front calls.Strcpy table.strcpy checked to s
call-prefixed front calls.Stpcpy checked count to s = within-prefixed front calls.Stpcpy table.stpcpy checked to s
call-prefixed front calls.Strncpy checked count to s = within-prefixed front calls.Strncpy table.strncpy checked to s
call-prefixed front calls.Strcat checked count to s = within-prefixed front calls.Strcat table.strcat checked to s
call-prefixed front calls.Strncat checked count to s = within-prefixed front calls.Strncat table.strncat checked to s
call-prefixed front calls.Strlen checked count to s = acting-prefixed front calls.Strlen table.strlen to s
call-prefixed front calls.Strcmp checked count to s = acting-prefixed front calls.Strcmp table.strcmp to s
call-prefixed front calls.Strchr checked count to s = acting-prefixed front calls.Strchr table.strchr to s
call-prefixed front calls.Printf checked count to s = printing-prefixed front calls.Printf prints.printf checked count to s
call-prefixed front calls.Puts checked count to s = acting-prefixed front calls.Puts table.puts to s
call-prefixed front calls.Putchar checked count to s = acting-prefixed front calls.Putchar table.putchar to s
call-prefixed front calls.Dprintf checked count to s = printing-prefixed front calls.Dprintf prints.dprintf checked count to s
call-prefixed front calls.Sprintf checked count to s = printing_within-prefixed front calls.Sprintf 1 prints.sprintf checked count to s
call-prefixed front calls.Snprintf checked count to s = printing_within-prefixed front calls.Snprintf 2 prints.snprintf checked count to s
call-prefixed front calls.Read checked count to s = within-prefixed front calls.Read table.read checked to s
call-prefixed front calls.Write checked count to s = acting-prefixed front calls.Write table.write to s
call-prefixed front calls.Getchar checked count to s = acting-prefixed front calls.Getchar table.getchar to s
call-prefixed front calls.Note checked count to s = acting-prefixed front calls.Note note to s

-- nor in an instruction
perform-prefixed : (program : Program) (front : Shown) (i : Instr) (s : State)
    → perform program i (prefixed front s) ≡ prefixed front (perform program i s)
perform-prefixed program front (instr.Const to number) s = refl
perform-prefixed program front (instr.Move to from) s = refl
perform-prefixed program front (instr.Slot to offset) s = refl
perform-prefixed program front (instr.Binary op to left right) s = refl
perform-prefixed program front (instr.Divide op width to left right) s = refl
perform-prefixed program front (instr.Extend signed width to from) s = refl
perform-prefixed program front (instr.Select to test from) s = refl
perform-prefixed program front (instr.Load signed width to at) s = refl
perform-prefixed program front (instr.Store width from at) s = refl
perform-prefixed program front (instr.Copy to_at from_at count) s = refl
perform-prefixed program front (instr.Zero at count) s = refl
perform-prefixed program front (instr.Jump target) s = refl
perform-prefixed program front (instr.JumpIfZero test target) s = refl
perform-prefixed program front (instr.JumpIfNotZero test target) s = refl
perform-prefixed program front (instr.Argument from k) s = refl
perform-prefixed program front (instr.Call to function) s = refl
perform-prefixed program front (instr.Return from) s = refl
perform-prefixed program front (instr.Host to call count) s = numbered (call_of call) where
  numbered : (o : Option (LibFn × Bool)) → numbered_call o count to (prefixed front s) ≡ prefixed front (numbered_call o count to s)
  numbered None = refl
  numbered (Some call) = call-prefixed front call.0 call.1 count to s

next-prefixed : (program : Program) (front : Shown) (s : State) → next program (prefixed front s) ≡ prefixed front (next program s)
unfolding next
next-prefixed program front s = go (is_some s.core.stopped) (slice_get program.code s.core.running.at) where
  there : (o : Option Instr) → performed program o (prefixed front s) ≡ prefixed front (performed program o s)
  there None = refl
  there (Some i) = perform-prefixed program front i s

  go : (t : Bool) (o : Option Instr) → cond t (prefixed front s) (performed program o (prefixed front s))
      ≡ prefixed front (cond t s (performed program o s))
  go true o = refl
  go false o = there o

-- a machine that has stopped stays as it is
pub stopped_stays_lem : StoppedStays
unfolding next after
stopped_stays_lem program s end is zero = refl
stopped_stays_lem program s end is (suc m) =
    ap (next program) (stopped_stays_lem program s end is m)
    ∙ ap (λ o. cond (is_some o) s (performed program (slice_get program.code s.core.running.at) s)) is

-- k instructions were carried out: with whatever input is left behind what they took, they lead from the one core to the other
pub record CarriedBy (k : ℕ) (program : Program) (core core' : Core) (old new : Streams) : Type 0 where
  pub moved : Shown
  pub have : HaveMoved moved old new
  pub state : (rest : Input) → Offers new rest → after program k (begun core (behind moved rest)) ≡ having_moved core' moved rest

-- no instruction
pub carried_by-zero : (program : Program) (core : Core) (x : Streams) → CarriedBy 0 program core core x x
unfolding after
carried_by-zero program core x = record { moved = []; have = have_moved-none x; state = λ rest offers. refl }

-- one input behind another
behind-append : (a b : Shown) (rest : Input) → behind (a ++ b) rest ≡ behind a (behind b rest)
behind-append a b rest =
    ap (λ (bytes : List ℕ). record rest { bytes = bytes }) (ap (λ l. l ++ rest.bytes) (bytes_on-append 0 a b) ∙ append_assoc
    (bytes_on 0 a) (bytes_on 0 b) rest.bytes)

-- a machine that has moved something has moved it before what comes
moved-prefixed : (core : Core) (moved : Shown) (rest : Input) → having_moved core moved rest ≡ prefixed moved (begun core rest)
moved-prefixed core moved rest = ap (λ shown. having_moved core shown rest) (sym (append-nil moved))

-- one more
pub carried_by-more : (k : ℕ) (program : Program) (start core core' : Core) (x y z : Streams) → CarriedBy k program start core x y
    → Carried program core core' y z
    → CarriedBy (k + 1) program start core' x z
unfolding after
carried_by-more k program start core core' x y z before one = record {
  moved = before.moved ++ one.moved;
  have = have_moved-append before.moved one.moved x y z before.have one.have;
  state = λ rest offers.
      let inner = behind one.moved rest in
      let offered = offers-behind one.moved y z rest one.have offers in
      rw (add-one)
      (ap (λ input. next program (after program k (begun start input))) (behind-append before.moved one.moved rest)
      ∙ ap (next program) (before.state inner offered ∙ moved-prefixed core before.moved inner)
      ∙ next-prefixed program before.moved (begun core inner)
      ∙ ap (prefixed before.moved) (one.state rest offers));
}

-- n more that stay in one call
pub went_straight : (k n : ℕ) (program : Program) (start : Core) (old new : Loaded) (x y : Streams) → old.program ≡ program
    → CarriedBy k program start old.core x y
    → ((world : World) → after old.program n (record { core = old.core; world = world }) ≡ record { core = new.core; world = world })
    → CarriedBy (k + n) program start new.core x y
went_straight k n program start old new x y same before stays = record {
  moved = before.moved;
  have = before.have;
  state = λ rest offers.
      let world : World = record { input = rest; shown = before.moved } in
      let went = subst (λ p. after p n (record { core = old.core; world = world }) ≡ record { core = new.core; world = world }) same (stays world) in
      after-add program k n (begun start (behind before.moved rest)) (having_moved old.core before.moved rest) (having_moved new.core before.moved rest)
      (before.state rest offers) went;
}

-- the same of a machine as its callers see it, that keeps its program
pub one_more : (k : ℕ) (program : Program) (start : Core) (old new : Loaded) (x y z : Streams) → old.program ≡ program
    → CarriedBy k program start old.core x y
    → Carried old.program old.core new.core y z → CarriedBy (k + 1) program start new.core x z
one_more k program start old new x y z same before one =
    carried_by-more k program start old.core new.core x y z before (subst (λ p. Carried p old.core new.core y z) same one)

-- as callers see it
pub advances : (k : ℕ) (program : Program) (core core' : Core) (x y : Streams) → CarriedBy k program core core' x y
    → Advances k program core core' x y
advances k program core core' x y carried =
    let rest = some_input y in
    let is = carried.state rest (offers-some y) in
    record {
      input = behind carried.moved rest;
      offered = offers-behind carried.moved x y rest carried.have (offers-some y);
      state = ap (λ s. s.core) is;
      moves = subst (λ shown. Moves shown x y) (sym (ap (λ s. s.world.shown) is)) carried.have.moves;
    }

-- an instruction reaches the same streams whatever has moved before it
reaches-same : (which : Stream) (program : Program) (core : Core) (moved : Shown) (input : Input)
    → Reaches which program (begun core input) → Reaches which program (having_moved core moved input)
reaches-same OfInput program core moved input reaches = reaches
reaches-same OfOut program core moved input reaches = reaches
reaches-same OfErr program core moved input reaches = reaches

-- a stream failed after k instructions
pub fails_after : (which : Stream) (k : ℕ) (program : Program) (start core : Core) (x y z : Streams) → CarriedBy k program start core x y
    → core.stopped ≡ None
    → FailsIn which program core y z → FailsAfter which k program start x z
fails_after which k program start core x y z before running failed =
    let rest = some_input z in
    let inner = behind failed.moved rest in
    let offered = offers-behind failed.moved y z rest failed.have (offers-some z) in
    let is : after program k (begun start (behind before.moved inner)) ≡ having_moved core before.moved inner =
    before.state inner offered in
    record {
      input = behind before.moved inner;
      offered = offers-behind before.moved x y inner before.have offered;
      running = ap (λ s. s.core.stopped) is ∙ running;
      reaches = subst (λ s. Reaches which program s) (sym is) (reaches-same which program core before.moved inner
          (failed.reaches rest (offers-some z)));
      moves = subst (λ s. MovesUpTo s.world.shown (moved_next program s) x z) (sym is)
          (moves_up_to before.moved failed.moved (moved_next program (begun core inner)) x y z before.have.moves failed.have.moves
          (failed.front rest (offers-some z)));
    }

pub fails_next : (which : Stream) (k : ℕ) (program : Program) (start : Core) (old : Loaded) (x y z : Streams) → old.program ≡ program
    → CarriedBy k program start old.core x y → old.core.stopped ≡ None
    → FailsIn which old.program old.core y z → FailsAfter which k program start x z
fails_next which k program start old x y z same before running failed =
    fails_after which k program start old.core x y z before running (subst (λ p. FailsIn which p old.core y z) same failed)

-- what an answer of one instruction says, by the answer
pub goes : (old new : Loaded) (x y : Streams) {step : Step} → step ≡ steps.Going → Performs old new step x y
    → Carried old.program old.core new.core x y × (new.core.stopped ≡ None) × (new.stop ≡ None)
goes old new x y is performs = subst (λ s. Performs old new s x y) is performs

pub ended : (old new : Loaded) (x y : Streams) {step : Step} (end : End) → step ≡ steps.Stopped (stops.Ended end)
    → Performs old new step x y → Carried old.program old.core new.core x y × (new.core.stopped ≡ Some end) ×
    (new.stop ≡ Some (stops.Ended end))
ended old new x y end is performs = subst (λ s. Performs old new s x y) is performs

pub faults : (old new : Loaded) (x y : Streams) {step : Step} (which : Stream) → step ≡ steps.Stopped (fault_of which)
    → Performs old new step x y → FailsIn which old.program old.core x y × (new.stop ≡ Some (fault_of which))
faults old new x y which is performs = go which (subst (λ s. Performs old new s x y) is performs) where
  go : (which : Stream) → Performs old new (steps.Stopped (fault_of which)) x y
      → FailsIn which old.program old.core x y × (new.stop ≡ Some (fault_of which))
  go OfInput performs = performs
  go OfOut performs = performs
  go OfErr performs = performs

pub no_bound : (old new : Loaded) (x y : Streams) {step : Step} → step ≡ steps.Stopped stops.OutOfSteps → Performs old new step x y → ⊥
no_bound old new x y is performs = subst (λ s. Performs old new s x y) is performs

-- in no answer a count fell
pub none_fell : (old new : Loaded) (x y : Streams) (step : Step) → Performs old new step x y → NoneFell x y
none_fell old new x y steps.Going performs = performs.0.have.fell
none_fell old new x y (steps.Stopped (stops.Ended end)) performs = performs.0.have.fell
none_fell old new x y (steps.Stopped stops.OutOfSteps) performs = absurd performs
none_fell old new x y (steps.Stopped stops.InputFault) performs = performs.0.have.fell
none_fell old new x y (steps.Stopped stops.OutFault) performs = performs.0.have.fell
none_fell old new x y (steps.Stopped stops.ErrFault) performs = performs.0.have.fell
