-- A call is entered within the stack's limits, and its caller goes on behind it.
use Rattle.std.proofs.Common.{◌≡◌, ℕ, suc, ◌+◌, ◌-◌, ◌*◌, ◌/◌, ◌<◌, ◌≤◌, List, [], ◌∷◌, ◌++◌, length, take, replicate, Bool, true, false, ◌||◌, ◌%◌, inl, inr, nat_lt, cond, Option, Some, None, slice_get, slice_index_or, refl, sym, ◌∙◌, ap, arith, subst, sum_by, slice_set}
use Rattle.std.proofs.Math.Nat.{le-div_iff_mul-le}
use Rattle.std.proofs.lemmas.Bool.{ltb-true, cases_lt, lt-ltb, le-ltb}
use Rattle.std.proofs.lemmas.List.{length-append, length-replicate, length-set, length-take-le, get_or_default}
use Rattle.std.proofs.lemmas.Option.{slice_get_read}
use Rattle.std.proofs.lemmas.List.Sums.{sum_by-cons}
use Rattle.bm_isa.specs.declared.instructions.Instr.{Instr}
use Rattle.bm_isa.specs.declared.instructions.Instr.TheVariants as instr
use Rattle.bm_image.specs.declared.images.FnRec.{FnRec}
use Rattle.bm_image.specs.Images.{function_at, no_function, bounds_of, IsCode}
use Rattle.fc_base.specs.declared.levels.End.{End}
use Rattle.fc_base.specs.declared.levels.End.TheVariants as ends
use Rattle.run_meaning.specs.Objects.{Streams}
use Rattle.run_meaning.specs.Worlds.{Input}
use Rattle.byte_machine.specs.declared.machine.Machine.TheInside.{Inside}
use Rattle.byte_machine.specs.declared.machine.Stop.TheVariants as stops
use Rattle.byte_machine.specs.declared.machine.Step.{Step}
use Rattle.byte_machine.specs.declared.machine.Step.TheVariants as steps
use Rattle.byte_machine.specs.State.{Core, Program, Window, frame_of, weight_of, frames_of, weights_of, is_full, window_of, calling, entering, live, ending, returning, resumed, perform, result_register, register, stack_start, stack_frames, stack_weights}
use Rattle.byte_machine.specs.Calls.{Stack, registers_in, registers_from, entered, left, waits, stands_at, has_set}
use Rattle.byte_machine.specs.Opening.{begun}
use Rattle.byte_machine.specs.Machines.{Loaded}
use Rattle.byte_machine.specs.Performing.{IsGoing, StandsAt, Enters, resuming, stopped_with, Performs}
use Rattle.byte_machine.specs.View.{loaded_of, core_of, program_in, IsCall, is_call, AreCallers, IsRunnable}
use Rattle.byte_machine.proofs.Steps.{some_instruction, call_in_code, call_fits, call_behind, first_test, went_on, ended_there}

-- the frames of the callers end where that of the running call begins
pub frames_below : (program : Program) (base : ℕ) (callers : List Window) → AreCallers program base callers
    → base ≡ stack_start + frames_of program callers
frames_below program base [] are = are
frames_below program base (w ∷ ws) are =
    let below = frames_below program w.base ws are.3 in
    let sum = sum_by-cons (frame_of program) w ws in
    let here = are.2 in
    omega (arith, below, sum, here)

-- a call has at most as many registers as its weight, and at least the least weight
regs_within : (program : Program) (w : Window) → IsCode program.functions program.code → IsCall program w
    → length w.registers ≤ weight_of program w
regs_within program w code is =
    let f = (code.bounds w.function is.function).regs in
    let same = is.registers in
    omega (arith, f, same)

pub registers_within : (program : Program) (base : ℕ) (callers : List Window) → IsCode program.functions program.code
    → AreCallers program base callers → registers_in callers ≤ weights_of program callers
registers_within program base [] code are = omega arith
registers_within program base (w ∷ ws) code are =
    let a = sum_by-cons (λ (w : Window). length w.registers) w ws in
    let b = sum_by-cons (weight_of program) w ws in
    let here = regs_within program w code are.0 in
    let rest = registers_within program w.base ws code are.3 in
    omega (arith, a, b, here, rest)

pub least_within : (program : Program) (base least : ℕ) (callers : List Window)
    → ((k : ℕ) → k < length program.functions → least ≤ (function_at program.functions k).weight)
    → AreCallers program base callers → length callers * least ≤ weights_of program callers
least_within program base least [] each are = omega arith
least_within program base least (w ∷ ws) each are =
    let b = sum_by-cons (weight_of program) w ws in
    let here = each w.function are.0.function in
    let rest = least_within program w.base least ws each are.3 in
    omega (arith, b, here, rest)

-- the parts of a test that fails
neither : (a b : Bool) → (a || b) ≡ false → (a ≡ false) × (b ≡ false)
neither true b test = absurd (cc test)
neither false b test = (refl, test)

not_below : (x y : ℕ) → nat_lt x y ≡ false → y ≤ x
not_below x y test = elim (cases_lt x y) [
  | inl below ↦ absurd (cc (lt-ltb x y below, test))
  | inr above ↦ above
]

same_test : (x y k : ℕ) → nat_lt x y ≡ nat_lt (k + x) (k + y)
same_test x y k = elim (cases_lt x y) [
  | inl below ↦ lt-ltb x y below ∙ sym (lt-ltb (k + x) (k + y) (omega (arith, below)))
  | inr above ↦ le-ltb x y above ∙ sym (le-ltb (k + x) (k + y) (omega (arith, above)))
]

-- what a call that is entered finds room for
pub record HasRoom (m : Inside) (callee : FnRec) : Type 0 where
  pub frames : m.windows.running.base + frame_of (program_in m) m.windows.running + callee.frame ≤ stack_start + stack_frames
  pub weights : m.weights + callee.weight ≤ stack_weights
  pub registers : registers_in (m.windows.running ∷ m.windows.callers) + callee.regs ≤ stack_weights
  pub callers : length m.windows.callers < m.windows.room

pub has_room : (m : Inside) (l : Loaded) (function : ℕ) (callee : FnRec) → loaded_of m ≡ l → IsRunnable m → Enters l function
    → callee ≡ function_at m.functions.items function → HasRoom m callee
has_room m l function callee same is enters which =
    let program = program_in m in
    let running = m.windows.running in
    let callers = m.windows.callers in
    let test : is_full program callee (loaded_of m).core ≡ false =
    ap (λ f. is_full program f (core_of m)) which
    ∙ ap (λ x. is_full x.program (function_at x.program.functions function) x.core) same ∙ enters.fits in
    let there : function < length m.functions.items = subst (λ x. function < length x.program.functions) (sym same) enters.there in
    let all_frames = frames_of program (running ∷ callers) + callee.frame in
    let all_weights = weights_of program (running ∷ callers) + callee.weight in
    let parts = neither (nat_lt stack_frames all_frames) (nat_lt stack_weights all_weights) test in
    let frames = not_below stack_frames all_frames parts.0 in
    let weights = not_below stack_weights all_weights parts.1 in
    let f = sum_by-cons (frame_of program) running callers in
    let w = sum_by-cons (weight_of program) running callers in
    let r = sum_by-cons (λ (w : Window). length w.registers) running callers in
    let below = frames_below program running.base callers is.callers in
    let sum = is.weights in
    let here = regs_within program running is.code is.running in
    let rest = registers_within program running.base callers is.code is.callers in
    let regs : callee.regs ≤ callee.weight = rw which (is.code.bounds function there).regs in
    let heavy : m.least ≤ callee.weight = rw which (is.least function there) in
    let heavy' : m.least ≤ weight_of program running = is.least running.function is.running.function in
    let many = least_within program running.base m.least callers is.least is.callers in
    let two : (length callers + 2) * m.least ≤ stack_weights = omega (arith, weights, w, sum, heavy, heavy', many) in
    let quotient : length callers + 2 ≤ stack_weights / m.least = (le-div_iff_mul-le is.some).1 two in
    let room = is.room in
    record {
      frames = omega (arith, frames, f, below);
      weights = omega (arith, weights, w, sum);
      registers = omega (arith, weights, w, sum, r, here, rest, regs);
      callers = omega (arith, quotient, room);
    }

-- the stack's test by the end of the running call's frame
pub full_by_end : (m : Inside) (l : Loaded) (callee : FnRec) → loaded_of m ≡ l → IsRunnable m
    → is_full l.program callee l.core
    ≡ (nat_lt (stack_start + stack_frames) (m.windows.running.base + frame_of (program_in m) m.windows.running + callee.frame)
    || nat_lt stack_weights (m.weights + callee.weight))
full_by_end m l callee same is =
    let program = program_in m in
    let running = m.windows.running in
    let callers = m.windows.callers in
    let f = sum_by-cons (frame_of program) running callers in
    let w = sum_by-cons (weight_of program) running callers in
    let below = frames_below program running.base callers is.callers in
    let sum = is.weights in
    let end : running.base + frame_of program running + callee.frame ≡ stack_start + (frames_of program (running ∷ callers) + callee.frame) =
    omega (arith, f, below) in
    ap (λ x. is_full x.program callee x.core) (sym same)
    ∙ ap (λ n. nat_lt stack_frames (frames_of program (running ∷ callers) + callee.frame) || nat_lt stack_weights (n + callee.weight)) (sym sum)
    ∙ ap (λ t. t || nat_lt stack_weights (m.weights + callee.weight))
    (same_test stack_frames (frames_of program (running ∷ callers) + callee.frame) stack_start ∙ ap (nat_lt (stack_start + stack_frames)) (sym end))

pub full_by_frames : (m : Inside) (l : Loaded) (callee : FnRec) (end : ℕ) → loaded_of m ≡ l → IsRunnable m
    → end ≡ l.core.running.base + frame_of l.program l.core.running → stack_start + stack_frames < end + callee.frame
    → nat_lt (stack_start + stack_frames) (end + callee.frame) ≡ is_full l.program callee l.core
full_by_frames m l callee end same is ends passes =
    let at = ends ∙ sym (ap (λ x. x.core.running.base + frame_of x.program x.core.running) same) in
    let test = lt-ltb (stack_start + stack_frames) (end + callee.frame) passes in
    test ∙ sym (full_by_end m l callee same is
    ∙ ap (λ n. nat_lt (stack_start + stack_frames) (n + callee.frame) || nat_lt stack_weights (m.weights + callee.weight)) (sym at)
    ∙ ap (λ t. t || nat_lt stack_weights (m.weights + callee.weight)) test)

pub full_by_weights : (m : Inside) (l : Loaded) (callee : FnRec) (end : ℕ) → loaded_of m ≡ l → IsRunnable m
    → end ≡ l.core.running.base + frame_of l.program l.core.running → end + callee.frame ≤ stack_start + stack_frames
    → nat_lt stack_weights (m.weights + callee.weight) ≡ is_full l.program callee l.core
full_by_weights m l callee end same is ends within =
    let at = ends ∙ sym (ap (λ x. x.core.running.base + frame_of x.program x.core.running) same) in
    let test = le-ltb (stack_start + stack_frames) (end + callee.frame) within in
    sym (full_by_end m l callee same is
    ∙ ap (λ n. nat_lt (stack_start + stack_frames) (n + callee.frame) || nat_lt stack_weights (m.weights + callee.weight)) (sym at)
    ∙ ap (λ t. t || nat_lt stack_weights (m.weights + callee.weight)) test)

-- a call's first registers are given, and the others are zeros
pub length_registers : (given : List ℕ) (count : ℕ) → length given ≤ count → length (registers_from given count) ≡ count
length_registers given count few =
    let n = count - length given in
    let zeros : length (replicate {A = ℕ} n 0) ≡ n = length-replicate {A = ℕ} n 0 in
    let both = length-append given (replicate n 0) in
    omega (arith, zeros, both, few)

-- a function's parameters are given by argument slots
pub given_length : (m : Inside) (callee : FnRec) (function : ℕ) → IsRunnable m → callee ≡ function_at m.functions.items function
    → length m.slots ≡ 64 → function < length m.functions.items
    → length (registers_from (take callee.params m.slots) callee.regs) ≡ callee.regs
given_length m callee function is which slots there =
    let bounds = is.code.bounds function there in
    let params = bounds.params in
    let given = bounds.given in
    let same = ap (λ f. f.params) which in
    let same' = ap (λ f. f.regs) which in
    let few : callee.params ≤ length m.slots = omega (arith, params, same, slots) in
    let length = length-take-le callee.params m.slots few in
    length_registers (take callee.params m.slots) callee.regs (omega (arith, length, given, same, same'))

-- the machine is runnable in a call that it enters
pub entered_runnable : (m : Inside) (l : Loaded) (function weights : ℕ) (callee : FnRec) (w : Window) (s : Stack) → loaded_of m ≡ l → IsRunnable m
    → Enters l function → callee ≡ function_at m.functions.items function → s ≡ entered w m.windows → w.function ≡ function → w.at ≡ callee.first
    → w.base ≡ m.windows.running.base + frame_of (program_in m) m.windows.running
    → length w.registers ≡ callee.regs → weights ≡ m.weights + callee.weight → IsRunnable (record m { windows = s; weights = weights })
entered_runnable m l function weights callee w s same is enters which entered at_function at base registers weight =
    let program = program_in m in
    let running = m.windows.running in
    let callers = m.windows.callers in
    let room = has_room m l function callee same is enters which in
    let there : function < length m.functions.items = subst (λ x. function < length x.program.functions) (sym same) enters.there in
    let stands : slice_get m.code.items running.at ≡ Some (instr.Call enters.to function) =
    ap (λ x. slice_get x.program.code x.core.running.at) same ∙ enters.stands in
    let first : w.at ≡ (function_at m.functions.items function).first = at ∙ ap (λ f. f.first) which in
    let frames = room.frames in
    let few = room.weights in
    let heavy : weight_of program w ≡ callee.weight = ap (λ k. (function_at m.functions.items k).weight) at_function ∙ ap (λ f. f.weight) (sym which) in
    let sum = sum_by-cons (weight_of program) w (running ∷ callers) in
    let before = is.weights in
    rw entered (record {
      memory = is.memory;
      code = is.code;
      short = is.short;
      running = record {
        function = rw at_function there;
        behind = rw (at_function, first) (omega arith);
        before = rw (at_function, first) (some_instruction m.functions.items m.code.items function is.code there);
        registers = registers ∙ ap (λ f. f.regs) which ∙ ap (λ k. (function_at m.functions.items k).regs) (sym at_function);
      };
      callers = (is.running, ap is_call stands, base, is.callers);
      base = omega (arith, base, frames);
      weights = omega (arith, weight, before, sum, heavy);
      few = omega (arith, weight, few);
      some = is.some;
      least = is.least;
      room = is.room;
    })

-- the call that a caller stands at
call_there : (o : Option Instr) → is_call o ≡ true → (to : ℕ) × (function : ℕ) × (o ≡ Some (instr.Call to function))
call_there None is = absurd (cc is)
call_there (Some (instr.Call to function)) is = (to, function, refl)
call_there (Some (instr.Const to number)) is = absurd (cc is)
call_there (Some (instr.Move to from)) is = absurd (cc is)
call_there (Some (instr.Slot to offset)) is = absurd (cc is)
call_there (Some (instr.Binary op to left right)) is = absurd (cc is)
call_there (Some (instr.Divide op width to left right)) is = absurd (cc is)
call_there (Some (instr.Extend signed width to from)) is = absurd (cc is)
call_there (Some (instr.Select to test from)) is = absurd (cc is)
call_there (Some (instr.Load signed width to at)) is = absurd (cc is)
call_there (Some (instr.Store width from at)) is = absurd (cc is)
call_there (Some (instr.Copy to_at from_at count)) is = absurd (cc is)
call_there (Some (instr.Zero at count)) is = absurd (cc is)
call_there (Some (instr.Jump target)) is = absurd (cc is)
call_there (Some (instr.JumpIfZero test target)) is = absurd (cc is)
call_there (Some (instr.JumpIfNotZero test target)) is = absurd (cc is)
call_there (Some (instr.Argument from k)) is = absurd (cc is)
call_there (Some (instr.Return from)) is = absurd (cc is)
call_there (Some (instr.Host to call count)) is = absurd (cc is)

-- the register that takes the result is the caller's
pub result_fits : (program : Program) (w : Window) → IsCode program.functions program.code → IsCall program w
    → is_call (slice_get program.code w.at) ≡ true → result_register (slice_get program.code w.at) < length w.registers
result_fits program w code is calls =
    let call = call_there (slice_get program.code w.at) calls in
    let fit = call_fits program w (instr.Call call.0 call.1) code is call.2 in
    let regs = (function_at program.functions w.function).regs in
    let below = ltb-true call.0 regs (first_test (nat_lt call.0 regs) (nat_lt call.1 (length program.functions)) fit) in
    let to = ap result_register call.2 in
    let same = is.registers in
    omega (arith, below, to, same)

-- a caller that goes on stands in its function again
pub resumed_call : (program : Program) (w : Window) (value : ℕ) → IsCode program.functions program.code → IsCall program w
    → is_call (slice_get program.code w.at) ≡ true → IsCall program (resumed program value w)
resumed_call program w value code is calls =
    let call = call_there (slice_get program.code w.at) calls in
    let behind = is.behind in
    record {
      function = is.function;
      behind = omega (arith, behind);
      before = call_behind program w (instr.Call call.0 call.1) code is call.2 refl;
      registers = length-set w.registers (result_register (slice_get program.code w.at)) value ∙ is.registers;
    }

-- the machine is runnable in the caller that goes on
pub resumed_runnable : (m : Inside) (value weights : ℕ) (caller : Window) (callers : List Window) (s : Stack) → IsRunnable m
    → m.windows.callers ≡ caller ∷ callers
    → s ≡ record m.windows { running = resumed (program_in m) value caller; callers = callers }
    → weights ≡ m.weights - weight_of (program_in m) m.windows.running → IsRunnable (record m { windows = s; weights = weights })
resumed_runnable m value weights caller callers s is waiting same weight =
    let program = program_in m in
    let running = m.windows.running in
    let are : AreCallers program running.base (caller ∷ callers) = subst (λ l. AreCallers program running.base l) waiting is.callers in
    let sum = is.weights ∙ ap (λ l. weights_of program (running ∷ l)) waiting in
    let first = sum_by-cons (weight_of program) running (caller ∷ callers) in
    let second = sum_by-cons (weight_of program) caller callers in
    let third = sum_by-cons (weight_of program) (resumed program value caller) callers in
    let few = is.few in
    let base = is.base in
    let below = are.2 in
    rw same (record {
      memory = is.memory;
      code = is.code;
      short = is.short;
      running = resumed_call program caller value is.code are.0 are.1;
      callers = are.3;
      base = omega (arith, base, below);
      weights = omega (arith, weight, sum, first, second, third);
      few = omega (arith, weight, few);
      some = is.some;
      least = is.least;
      room = is.room;
    })

-- a caller that goes on, and those behind it
pub record Resumes (m : Inside) (value : ℕ) (s : Stack) : Type 0 where
  pub caller : Window
  pub callers : List Window
  pub waiting : m.windows.callers ≡ caller ∷ callers
  pub is : s ≡ record m.windows { running = resumed (program_in m) value caller; callers = callers }

pub resumes_in : (m : Inside) (value to at : ℕ) (i : Instr) (a b s : Stack) → IsRunnable m → waits m.windows.callers ≡ true
    → a ≡ left m.windows.callers m.windows → at ≡ a.running.at → i ≡ slice_index_or m.code.items at i → to ≡ result_register (Some i)
    → b ≡ has_set to value a → s ≡ stands_at (at + 1) b → Resumes m value s
resumes_in m value to at i a b s is some first stood read result second third = go m.windows.callers refl some first where
  program : Program
  program = program_in m

  go : (l : List Window) → m.windows.callers ≡ l → waits l ≡ true → a ≡ left l m.windows → Resumes m value s
  go [] e some first = absurd (cc some)
  go (caller ∷ callers) e some first =
      let are : AreCallers program m.windows.running.base (caller ∷ callers) =
      subst (λ l. AreCallers program m.windows.running.base l) e is.callers in
      let here : at ≡ caller.at = stood ∙ ap (λ (x : Stack). x.running.at) first in
      let within : at < length m.code.items = subst (λ n. n < length m.code.items) (sym here) (call_in_code program caller is.code are.0) in
      let found : slice_get m.code.items at ≡ Some i = slice_get_read m.code.items _ at i refl within read in
      let register : to ≡ result_register (slice_get m.code.items caller.at) =
      result ∙ ap result_register (sym found) ∙ ap (λ n. result_register (slice_get m.code.items n)) here in
      record {
        caller = caller;
        callers = callers;
        waiting = e;
        is = third ∙ ap (stands_at (at + 1)) (second ∙ ap (has_set to value) first)
            ∙ ap (λ n. stands_at (n + 1) (has_set to value (left (caller ∷ callers) m.windows))) here
            ∙ ap (λ r. stands_at (caller.at + 1) (has_set r value (left (caller ∷ callers) m.windows))) register;
      }

pub result_in : (m : Inside) (to at : ℕ) (i : Instr) (a : Stack) → IsRunnable m → waits m.windows.callers ≡ true
    → a ≡ left m.windows.callers m.windows → at ≡ a.running.at → i ≡ slice_index_or m.code.items at i → to ≡ result_register (Some i)
    → to < length a.running.registers
result_in m to at i a is some first stood read result = go m.windows.callers refl some first where
  program : Program
  program = program_in m

  go : (l : List Window) → m.windows.callers ≡ l → waits l ≡ true → a ≡ left l m.windows → to < length a.running.registers
  go [] e some first = absurd (cc some)
  go (caller ∷ callers) e some first =
      let are : AreCallers program m.windows.running.base (caller ∷ callers) =
      subst (λ l. AreCallers program m.windows.running.base l) e is.callers in
      let here : at ≡ caller.at = stood ∙ ap (λ (x : Stack). x.running.at) first in
      let within : at < length m.code.items = subst (λ n. n < length m.code.items) (sym here) (call_in_code program caller is.code are.0) in
      let found : slice_get m.code.items at ≡ Some i = slice_get_read m.code.items _ at i refl within read in
      let register : to ≡ result_register (slice_get m.code.items caller.at) =
      result ∙ ap result_register (sym found) ∙ ap (λ n. result_register (slice_get m.code.items n)) here in
      let fits = result_fits program caller is.code are.0 are.1 in
      let same = ap (λ (x : Stack). length x.running.registers) first in
      omega (arith, register, fits, same)

pub resumed_view : (m : Inside) (value weights : ℕ) (s : Stack) → Resumes m value s
    → loaded_of (record m { windows = s; weights = weights })
    ≡ record (loaded_of m) { core = resuming (program_in m) value m.windows.callers (core_of m) }
resumed_view m value weights s r =
    ap (λ (x : Stack). loaded_of (record m { windows = x; weights = weights })) r.is
    ∙ ap (λ l. record (loaded_of m) { core = resuming (program_in m) value l (core_of m) }) (sym r.waiting)

-- the weight of the running call, as it was read
pub weight_read : (m : Inside) (function : ℕ) (f : FnRec) → IsRunnable m → function ≡ m.windows.running.function
    → f ≡ slice_index_or m.functions.items function f → m.weights - f.weight ≡ m.weights - weight_of (program_in m) m.windows.running
weight_read m function f is same read =
    let there : function < length m.functions.items = subst (λ n. n < length m.functions.items) (sym same) is.running.function in
    let which = read ∙ get_or_default m.functions.items function f no_function there ∙ ap (function_at m.functions.items) same in
    ap (λ k. m.weights - k.weight) which

-- a call of a function went on in the function, or the stack was full
called : (old : Loaded) (function : ℕ) (full : Bool) → is_full old.program (function_at old.program.functions function) old.core ≡ full
    → (to : ℕ) (input : Input) → perform old.program (instr.Call to function) (begun old.core input)
    ≡ begun (cond full (ending ends.StackFull old.core) (entering old.program function (function_at old.program.functions function) old.core)) input
called old function full test to input =
    ap (λ t. begun (cond t (ending ends.StackFull old.core) (entering old.program function (function_at old.program.functions function) old.core)) input) test

pub went_in : (old new : Loaded) (step : Step) (to function : ℕ) (x : Streams) → IsGoing old → StandsAt old (instr.Call to function)
    → is_full old.program (function_at old.program.functions function) old.core ≡ false → step ≡ steps.Going
    → new ≡ record old { core = entering old.program function (function_at old.program.functions function) old.core } → Performs old new step x x
went_in old new step to function x going stands fits on is =
    went_on old new step (instr.Call to function) _ x going stands on is refl (called old function false fits to)

pub overfilled : (old new : Loaded) (step : Step) (to function : ℕ) (x : Streams) → IsGoing old → StandsAt old (instr.Call to function)
    → is_full old.program (function_at old.program.functions function) old.core ≡ true
    → step ≡ steps.Stopped (stops.Ended ends.StackFull) → new ≡ stopped_with (stops.Ended ends.StackFull) old → Performs old new step x x
overfilled old new step to function x going stands full on is =
    ended_there old new step (instr.Call to function) ends.StackFull x going stands on is (called old function true full to)

-- what goes on where a call waits, and what stays where none does
resumes : (program : Program) (value : ℕ) (callers : List Window) (core : Core) → waits callers ≡ true
    → (resuming program value callers core ≡ returning program value callers core) × ((resuming program value callers core).stopped ≡ core.stopped)
resumes program value [] core some = absurd (cc some)
resumes program value (caller ∷ callers) core some = (refl, refl)

stays : (program : Program) (value : ℕ) (callers : List Window) (core : Core) → waits callers ≡ false
    → (resuming program value callers core ≡ core) × (returning program value callers core ≡ ending (ends.Exit (value % 256)) core)
stays program value [] core none = (refl, refl)
stays program value (caller ∷ callers) core none = absurd (cc none)

-- the caller of the running call went on, or the first call ended the run
pub came_back : (old new : Loaded) (step : Step) (from value : ℕ) (x : Streams) → IsGoing old → StandsAt old (instr.Return from)
    → value ≡ register old.core from → waits old.core.callers ≡ true → step ≡ steps.Going
    → new ≡ record old { core = resuming old.program value old.core.callers old.core } → Performs old new step x x
came_back old new step from value x going stands read some on is =
    let both = resumes old.program value old.core.callers old.core some in
    went_on old new step (instr.Return from) (resuming old.program value old.core.callers old.core) x going stands on is both.1
    (λ input. ap (λ v. begun (returning old.program v old.core.callers old.core) input) (sym read) ∙ ap (λ c. begun c input) (sym both.0))

pub ended_first : (old middle new : Loaded) (step : Step) (from value : ℕ) (x : Streams) → IsGoing old → StandsAt old (instr.Return from)
    → value ≡ register old.core from → waits old.core.callers ≡ false
    → middle ≡ record old { core = resuming old.program value old.core.callers old.core }
    → step ≡ steps.Stopped (stops.Ended (ends.Exit (value % 256))) → new ≡ stopped_with (stops.Ended (ends.Exit (value % 256))) middle
    → Performs old new step x x
ended_first old middle new step from value x going stands read none same on is =
    let both = stays old.program value old.core.callers old.core none in
    let still : middle ≡ old = same ∙ ap (λ c. record old { core = c }) both.0 in
    ended_there old new step (instr.Return from) (ends.Exit (value % 256)) x going stands on
    (is ∙ ap (stopped_with (stops.Ended (ends.Exit (value % 256)))) still)
    (λ input. ap (λ v. begun (returning old.program v old.core.callers old.core) input) (sym read) ∙ ap (λ c. begun c input) both.1)
