-- What a runnable machine knows of the instruction it stands at, and what one instruction does.
use Rattle.std.proofs.Common.{◌≡◌, ℕ, zero, suc, ◌+◌, ◌<◌, ◌≤◌, ◌==◌, ◌^◌, List, [], ◌∷◌, ◌++◌, length, Bool, true, false, ◌&&◌, nat_lt, cond, is_some, None, Some, IsTrue, refl, sym, ◌∙◌, ap, arith, slice_get, slice_index_or, subst, inl, inr}
use Rattle.std.proofs.lemmas.Option.{get_or_from_slice_get, same_Some}
use Rattle.std.proofs.lemmas.Bool.{ltb-true, eqb-true, eq-eqb}
use Rattle.std.proofs.lemmas.Bool.{cases_lt}
use Rattle.std.proofs.lemmas.List.{get_or_default}
use Rattle.fc_base.specs.Outside.{Appends, AppendsFront, Rose}
use Rattle.fc_base.specs.declared.levels.End.{End}
use Rattle.fc_base.specs.declared.levels.End.TheVariants as ends
use Rattle.run_meaning.specs.Runs.{on_descriptor, bytes_on}
use Rattle.run_meaning.specs.Events.{overflow_line}
use Rattle.run_meaning.specs.Worlds.{Input}
use Rattle.run_meaning.specs.Objects.{Streams, StreamState, streams}
use Rattle.run_meaning.specs.declared.streams.Stream.TheVariants.{Err as OfErr}
use Rattle.run_meaning.proofs.Moved.{bytes_on-same, bytes_on-other}
use Rattle.bm_isa.specs.declared.instructions.Instr.{Instr}
use Rattle.bm_isa.specs.declared.instructions.Instr.TheVariants as instr
use Rattle.c_library.specs.declared.functions.LibFn.{LibFn}
use Rattle.bm_image.specs.declared.images.Bounds.{Bounds}
use Rattle.bm_image.specs.declared.images.FnRec.{FnRec}
use Rattle.bm_image.specs.Images.{function_at, no_function, end_of, bounds_of, fits, ends_function, IsCode}
use Rattle.byte_machine.specs.declared.machine.Machine.TheInside.{Inside}
use Rattle.byte_machine.specs.declared.machine.Stop.TheVariants as stops
use Rattle.byte_machine.specs.declared.machine.Step.{Step}
use Rattle.byte_machine.specs.declared.machine.Step.TheVariants as steps
use Rattle.byte_machine.specs.State.{Core, State, Program, Window, host_call, numbered_call, perform, performed, next, ending}
use Rattle.library_meaning.specs.declared.stops.HostStop.TheVariants as host
use Rattle.byte_machine.specs.Opening.{begun}
use Rattle.byte_machine.specs.Machines.{Loaded, moved_next}
use Rattle.byte_machine.specs.Performing.{IsGoing, StandsAt, StandsAtCall, Names, registers_of, stopped_with, behind, having_moved, Carried, FailsIn, Halts, Performs}
use Rattle.byte_machine.specs.View.{loaded_of, program_in, IsCall, IsRunnable}
use Rattle.byte_machine.proofs.Moving.{on_descriptor-append, have_moved-none, have_moved-err}

-- a function's code ends within the code
end_within : (functions : List FnRec) (code : List Instr) (k : ℕ) → IsCode functions code → k < length functions
    → end_of functions (length code) k ≤ length code
end_within functions code k is below = go (nat_lt (k + 1) (length functions)) refl where
  go : (t : Bool) → nat_lt (k + 1) (length functions) ≡ t → cond t (function_at functions (k + 1)).first (length code) ≤ length code
  go true test = let next_in : k + 1 < length functions = grind arith in let h = is.inside (k + 1) next_in in omega arith
  go false test = omega arith

-- a function has an instruction
pub some_instruction : (functions : List FnRec) (code : List Instr) (k : ℕ) → IsCode functions code → k < length functions
    → (function_at functions k).first < end_of functions (length code) k
some_instruction functions code k is below = go (nat_lt (k + 1) (length functions)) refl where
  go : (t : Bool) → nat_lt (k + 1) (length functions) ≡ t → (function_at functions k).first < cond t (function_at functions (k + 1)).first
      (length code)
  go true test = let next_in : k + 1 < length functions = grind arith in is.rises k next_in
  go false test = is.inside k below

-- a call stands at an instruction, and so does the machine
pub call_in_code : (program : Program) (w : Window) → IsCode program.functions program.code → IsCall program w → w.at < length program.code
call_in_code program w code is =
    let h = end_within program.functions program.code w.function code is.function in
    let b = is.before in
    omega (arith, h, b)

pub at_code : (m : Inside) → IsRunnable m → m.windows.running.at < length m.code.items
at_code m is = call_in_code (program_in m) m.windows.running is.code is.running

-- what its instructions may name
abbrev pub bounds_in : Inside → Bounds
bounds_in m = bounds_of m.functions.items (length m.code.items) m.windows.running.function

-- the instruction of a call stands rightly there
pub call_fits : (program : Program) (w : Window) (i : Instr) → IsCode program.functions program.code → IsCall program w
    → slice_get program.code w.at ≡ Some i → fits (bounds_of program.functions (length program.code) w.function) i ≡ true
call_fits program w i code is stands =
    let P : Instr → Type 0 = λ x. IsTrue (fits (bounds_of program.functions (length program.code) w.function) x) in
    subst P (get_or_from_slice_get program.code w.at i i stands) (code.fit w.function w.at i is.function is.behind is.before)

pub stands_fits : (m : Inside) (i : Instr) → IsRunnable m → slice_get m.code.items m.windows.running.at ≡ Some i → fits (bounds_in m) i ≡ true
stands_fits m i is stands = call_fits (program_in m) m.windows.running i is.code is.running stands

-- it does not end its function where control goes on behind it
pub call_behind : (program : Program) (w : Window) (i : Instr) → IsCode program.functions program.code → IsCall program w
    → slice_get program.code w.at ≡ Some i → ends_function i ≡ false
    → w.at + 1 < end_of program.functions (length program.code) w.function
call_behind program w i code is stands goes = elim (cases_lt (w.at + 1) (end_of program.functions (length program.code) w.function)) [
  | inl below ↦ below
  | inr past ↦
      let before = is.before in
      let end : w.at + 1 ≡ end_of program.functions (length program.code) w.function = omega (arith, before, past) in
      let P : Instr → Type 0 = λ x. IsTrue (ends_function x) in
      let ends : ends_function i ≡ true = subst P (get_or_from_slice_get program.code w.at i i stands) (code.last w.function w.at i is.function is.behind end) in
      absurd (cc (ends, goes))
]

-- the parts of a test
pub first_test : (a b : Bool) → (a && b) ≡ true → a ≡ true
first_test true b test = refl
first_test false b test = test

pub second_test : (a b : Bool) → (a && b) ≡ true → b ≡ true
second_test true b test = test
second_test false b test = absurd (cc test)

first_two : (a b c : Bool) → (a && (b && c)) ≡ true → (a && b) ≡ true
first_two true b c test = first_test b c test
first_two false b c test = test

-- a register of a list of one
one_of : (x k r bound : ℕ) → slice_get (x ∷ []) k ≡ Some r → nat_lt x bound ≡ true → r < bound
one_of x zero r bound named test = subst (λ n. n < bound) (same_Some x r named) (ltb-true x bound test)
one_of x (suc k) r bound named test = absurd (cc named)

-- of two, and of three
two_of : (x y k r bound : ℕ) → slice_get (x ∷ y ∷ []) k ≡ Some r → (nat_lt x bound && nat_lt y bound) ≡ true → r < bound
two_of x y zero r bound named test = one_of x zero r bound named (first_test _ _ test)
two_of x y (suc k) r bound named test = one_of y k r bound named (second_test _ _ test)

three_of : (x y z k r bound : ℕ) → slice_get (x ∷ y ∷ z ∷ []) k ≡ Some r → (nat_lt x bound && (nat_lt y bound && nat_lt z bound)) ≡ true
    → r < bound
three_of x y z zero r bound named test = one_of x zero r bound named (first_test _ _ test)
three_of x y z (suc k) r bound named test = two_of y z k r bound named (second_test _ _ test)

-- each register that an instruction names is its function's
pub named_in : (b : Bounds) (i : Instr) (k r : ℕ) → fits b i ≡ true → slice_get (registers_of i) k ≡ Some r → r < b.registers
named_in b (instr.Const to number) k r fit named = one_of to k r b.registers named (first_test _ _ fit)
named_in b (instr.Move to from) k r fit named = two_of to from k r b.registers named fit
named_in b (instr.Slot to offset) k r fit named = one_of to k r b.registers named (first_test _ _ fit)
named_in b (instr.Binary op to left right) k r fit named = three_of to left right k r b.registers named fit
named_in b (instr.Divide op width to left right) k r fit named = three_of to left right k r b.registers named fit
named_in b (instr.Extend signed width to from) k r fit named = two_of to from k r b.registers named fit
named_in b (instr.Select to test from) k r fit named = three_of to test from k r b.registers named fit
named_in b (instr.Load signed width to at) k r fit named = two_of to at k r b.registers named fit
named_in b (instr.Store width from at) k r fit named = two_of from at k r b.registers named fit
named_in b (instr.Copy to_at from_at count) k r fit named = two_of to_at from_at k r b.registers named
    (first_two (nat_lt to_at b.registers) (nat_lt from_at b.registers) (nat_lt count (2 ^ 32)) fit)
named_in b (instr.Zero at count) k r fit named = one_of at k r b.registers named (first_test _ _ fit)
named_in b (instr.Jump target) k r fit named = absurd (cc named)
named_in b (instr.JumpIfZero test target) k r fit named = one_of test k r b.registers named (first_test _ _ fit)
named_in b (instr.JumpIfNotZero test target) k r fit named = one_of test k r b.registers named (first_test _ _ fit)
named_in b (instr.Argument from slot) k r fit named = one_of from k r b.registers named (first_test _ _ fit)
named_in b (instr.Call to function) k r fit named = one_of to k r b.registers named (first_test _ _ fit)
named_in b (instr.Return from) k r fit named = one_of from k r b.registers named fit
named_in b (instr.Host to call count) k r fit named = one_of to k r b.registers named (first_test _ _ fit)

-- a machine has the registers that its instruction names
pub register_in : (m : Inside) (i : Instr) (k r : ℕ) → IsRunnable m → slice_get m.code.items m.windows.running.at ≡ Some i
    → slice_get (registers_of i) k ≡ Some r → r < length m.windows.running.registers
register_in m i k r is stands named =
    let below : r < (function_at m.functions.items m.windows.running.function).regs = named_in (bounds_in m) i k r (stands_fits m i is stands) named in
    let same = is.running.registers in
    omega (arith, below, same)

-- what callers see stands in the fields
pub stands_in : (m : Inside) (l : Loaded) (i : Instr) → loaded_of m ≡ l → StandsAt l i → slice_get m.code.items m.windows.running.at ≡ Some i
stands_in m l i is stands = ap (λ x. slice_get x.program.code x.core.running.at) is ∙ stands

pub has_register : (m : Inside) (l : Loaded) (r : ℕ) → loaded_of m ≡ l → IsRunnable m → Names l r → r < length m.windows.running.registers
has_register m l r same is names = register_in m names.i names.k r is (stands_in m l names.i same names.stands) names.named

-- a function that was read
pub function_there : (m : Inside) (l : Loaded) (function : ℕ) → loaded_of m ≡ l → function < length l.program.functions
    → function < length m.functions.items
function_there m l function same there = subst (λ (x : Loaded). function < length x.program.functions) (sym same) there

pub function_in : (m : Inside) (l : Loaded) (function : ℕ) (f : FnRec) → loaded_of m ≡ l → f ≡ slice_index_or m.functions.items function f
    → function < length l.program.functions → f ≡ function_at m.functions.items function
function_in m l function f same read there =
    read ∙ get_or_default m.functions.items function f no_function (function_there m l function same there)

pub function_read : (m : Inside) (l : Loaded) (function : ℕ) (f : FnRec) → loaded_of m ≡ l → f ≡ slice_index_or m.functions.items function f
    → function < length l.program.functions → f ≡ function_at l.program.functions function
function_read m l function f same read there =
    function_in m l function f same read there ∙ ap (λ x. function_at x.program.functions function) same

-- a machine that has not stopped performs the instruction it stands at
pub next_is : (program : Program) (s : State) (i : Instr) → s.core.stopped ≡ None → slice_get program.code s.core.running.at ≡ Some i
    → next program s ≡ perform program i s
unfolding next
next_is program s i running found =
    ap (λ o. cond (is_some o) s (performed program (slice_get program.code s.core.running.at) s)) running
    ∙ ap (λ o. performed program o s) found

-- an instruction that moves nothing
pub carried : (old : Loaded) (i : Instr) (core' : Core) (x : Streams) → old.core.stopped ≡ None → StandsAt old i
    → ((input : Input) → perform old.program i (begun old.core input) ≡ begun core' input) → Carried old.program old.core core' x x
carried old i core' x running stands does = record {
  moved = [];
  have = have_moved-none x;
  state = λ rest offers. next_is old.program (begun old.core rest) i running stands ∙ does rest;
}

-- a machine went on behind such an instruction
pub went_on : (old new : Loaded) (step : Step) (i : Instr) (core' : Core) (x : Streams) → IsGoing old → StandsAt old i
    → step ≡ steps.Going → new ≡ record old { core = core' }
    → core'.stopped ≡ old.core.stopped → ((input : Input) → perform old.program i (begun old.core input) ≡ begun core' input)
    → Performs old new step x x
went_on old new step i core' x going stands on is same does =
    rw (on, is) (carried old i core' x going.0 stands does, same ∙ going.0, going.1)

-- or it ended there
pub ended_there : (old new : Loaded) (step : Step) (i : Instr) (end : End) (x : Streams) → IsGoing old → StandsAt old i
    → step ≡ steps.Stopped (stops.Ended end)
    → new ≡ stopped_with (stops.Ended end) old → ((input : Input) → perform old.program i (begun old.core input) ≡ begun
    (ending end old.core) input) → Performs old new step x x
ended_there old new step i end x going stands stops is does =
    rw (stops, is) (carried old i (ending end old.core) x going.0 stands does, refl, refl)

-- a number that was read is 0, or isn't
pub is_zero : (read n : ℕ) → read ≡ n → read ≡ 0 → (n == 0) ≡ true
is_zero read n same is = eq-eqb n 0 (sym same ∙ is)

pub is_not_zero : (read n : ℕ) → read ≡ n → (read ≡ 0 → ⊥) → (n == 0) ≡ false
is_not_zero read n same apart = go (n == 0) refl where
  go : (t : Bool) → (n == 0) ≡ t → (n == 0) ≡ false
  go true test = absurd (apart (same ∙ eqb-true n 0 test))
  go false test = test

-- a library call does what its equation says
pub call_is : (l : Loaded) (call : LibFn) (checked : Bool) (to : ℕ) (at : StandsAtCall l call checked to) (s : State)
    → perform l.program (instr.Host to at.number at.count) s ≡ host_call call checked at.count to s
call_is l call checked to at s = ap (λ o. numbered_call o at.count to s) at.is

-- its request exceeds its size
overflows : (l : Loaded) (input : Input) → l.core.stopped ≡ None → Halts l host.Overflow
    → next l.program (begun l.core input) ≡ having_moved (ending ends.Overflow l.core) (on_descriptor 2 overflow_line) input
overflows l input running halts = next_is l.program (begun l.core input) halts.i running halts.stands ∙ halts.does input

-- bytes on standard error take none of the input
behind-err : (line : List ℕ) (rest : Input) → behind (on_descriptor 2 line) rest ≡ rest
behind-err line rest = ap (λ (bytes : List ℕ). record rest { bytes = bytes ++ rest.bytes }) (bytes_on-other 0 2 line refl)

pub overflowed : (old new : Loaded) (step : Step) (input out err err' : StreamState) → IsGoing old → Halts old host.Overflow
    → Appends overflow_line err.told err'.told → err.faults ≤ err'.faults → step ≡ steps.Stopped (stops.Ended ends.Overflow)
    → new ≡ stopped_with (stops.Ended ends.Overflow) old
    → Performs old new step (streams input out err) (streams input out err')
overflowed old new step input out err err' going halts appended count stops is =
    let one : Carried old.program old.core (ending ends.Overflow old.core) (streams input out err) (streams input out err') = record {
      moved = on_descriptor 2 overflow_line;
      have = have_moved-err overflow_line input out err err' appended count;
      state = λ rest offers. ap (λ i. next old.program (begun old.core i)) (behind-err overflow_line rest)
          ∙ overflows old rest going.0 halts;
    } in
    rw (stops, is) (one, refl, refl)

-- standard error failed under that line
pub failed_overflowing : (old new : Loaded) (step : Step) (input out err err' : StreamState) → IsGoing old → Halts old host.Overflow
    → AppendsFront overflow_line err.told err'.told → Rose err.faults err'.faults → err.faults ≤ err'.faults
    → step ≡ steps.Stopped stops.ErrFault → new ≡ stopped_with stops.ErrFault old
    → Performs old new step (streams input out err) (streams input out err')
failed_overflowing old new step input out err err' going halts front rose count stops is =
    let line = front.0 in
    let comes : (rest : Input) → moved_next old.program (begun old.core (behind (on_descriptor 2 line) rest))
    ≡ on_descriptor 2 overflow_line =
    λ rest. ap (λ i. moved_next old.program (begun old.core i)) (behind-err line rest)
    ∙ ap (λ s. s.world.shown) (overflows old rest going.0 halts) in
    let one : FailsIn OfErr old.program old.core (streams input out err) (streams input out err') = record {
      moved = on_descriptor 2 line;
      have = have_moved-err line input out err err' front.2 count;
      failed = rose;
      reaches = λ rest offers none. cc (sym (ap (bytes_on 2) (comes rest) ∙ bytes_on-same 2 overflow_line refl) ∙ none);
      front = λ rest offers. (
        on_descriptor 2 front.1.0,
        comes rest ∙ ap (on_descriptor 2) front.1.1 ∙ on_descriptor-append 2 line
            front.1.0,
      );
    } in
    rw (stops, is) (one, refl)
