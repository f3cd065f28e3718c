-- Straight code of a call: one instruction after another, whatever calls wait around it.
use Rattle.std.proofs.Common.{◌≡◌, ℕ, zero, suc, ◌+◌, ◌<◌, ◌≤◌, List, length, true, false, None, Some, refl, ◌∙◌, ap, arith, slice_get, slice_index_or, add-one, add-zero, add-suc}
use Rattle.std.proofs.lemmas.Option.{slice_get-get_or}
use Rattle.bm_isa.specs.declared.instructions.Instr.{Instr}
use Rattle.bm_image.specs.Images.{function_at, end_of, bounds_of, fits, ends_function, IsCode}
use Rattle.byte_machine.specs.State.{State, Program, Window, perform, next, after}
use Rattle.byte_machine.specs.View.{IsCall}
use Rattle.byte_machine.proofs.Steps.{call_in_code, call_fits, call_behind, next_is}

-- no instruction yet
pub after-none : (program : Program) (s : State) → after program 0 s ≡ s
unfolding after
after-none program s = refl

-- one more
after-more : (program : Program) (m : ℕ) (s t u : State) → after program m s ≡ t → next program t ≡ u → after program (m + 1) s ≡ u
unfolding after
after-more program m s t u before one = rw add-one (ap (next program) before ∙ one)

-- one stretch behind another
pub after-add : (program : Program) (m n : ℕ) (s t u : State) → after program m s ≡ t → after program n t ≡ u → after program (m + n) s ≡ u
unfolding after
after-add program m zero s t u first second = rw add-zero (first ∙ second)
after-add program m (suc n) s t u first second =
    rw add-suc (ap (next program) (after-add program m n s t (after program n t) first refl) ∙ second)

-- one more instruction of straight code
pub straight-more : (program : Program) (m : ℕ) (s t u : State) (d : Instr) → t.core.stopped ≡ None → t.core.running.at < length program.code
    → perform program (slice_index_or program.code t.core.running.at d) t ≡ u → after program m s ≡ t → after program (m + 1) s ≡ u
straight-more program m s t u d running here performs before =
    let i = slice_index_or program.code t.core.running.at d in
    let found : slice_get program.code t.core.running.at ≡ Some i = slice_get-get_or program.code t.core.running.at d here in
    after-more program m s t u before (next_is program t i running found ∙ performs)

-- the instruction that a call stands at
call_reads : (program : Program) (w : Window) (d : Instr) → IsCode program.functions program.code → IsCall program w
    → slice_get program.code w.at ≡ Some (slice_index_or program.code w.at d)
call_reads program w d code is = slice_get-get_or program.code w.at d (call_in_code program w code is)

-- it stands rightly there, by the number of the call's registers
pub fits_count : (program : Program) (w : Window) (d : Instr) (count : ℕ) → IsCode program.functions program.code → IsCall program w
    → count ≡ length w.registers
    → fits (record (bounds_of program.functions (length program.code) w.function) { registers = count }) (slice_index_or program.code w.at d) ≡ true
fits_count program w d count code is same =
    rw (same ∙ is.registers) (call_fits program w (slice_index_or program.code w.at d) code is (call_reads program w d code is))

-- a call goes on behind its instruction, or at another of its function
pub goes_behind : (program : Program) (w : Window) (registers : List ℕ) (d : Instr) → IsCode program.functions program.code → IsCall program w
    → length registers ≡ length w.registers → ends_function (slice_index_or program.code w.at d) ≡ false
    → IsCall program (record w { at = w.at + 1; registers = registers })
goes_behind program w registers d code is same goes =
    let behind = is.behind in
    record {
      function = is.function;
      behind = omega (arith, behind);
      before = call_behind program w (slice_index_or program.code w.at d) code is (call_reads program w d code is) goes;
      registers = same ∙ is.registers;
    }

pub goes_elsewhere : (program : Program) (w : Window) (registers : List ℕ) (target : ℕ) → IsCall program w → length registers ≡ length w.registers
    → (function_at program.functions w.function).first ≤ target → target < end_of program.functions (length program.code) w.function
    → IsCall program (record w { at = target; registers = registers })
goes_elsewhere program w registers target is same behind before =
    record { function = is.function; behind = behind; before = before; registers = same ∙ is.registers }

-- a call has a register
pub some_register : (program : Program) (w : Window) → IsCode program.functions program.code → IsCall program w → 0 < length w.registers
some_register program w code is =
    let some = (code.bounds w.function is.function).some_register in
    let same = is.registers in
    omega (arith, some, same)
