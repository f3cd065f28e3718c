-- What each stop comes to, of a machine that begins or has ended before.
use Rattle.std.proofs.Common.{◌∙◌, Some, ap, refl}
use Rattle.run_meaning.specs.declared.streams.Stream.TheVariants.{Input as OfInput, Out as OfOut, Err as OfErr}
use Rattle.fort_driver.proofs.Starting.{by_start, has_begun, at_once, same_end, faulted, end_is_no_fault, bound_is_no_fault}
use Rattle.fort_driver.proofs.top.run_machine.Goals as goal

pub returns-in-Ended : goal.returns-in-Ended
returns-in-Ended g c = record {
  ran = by_start c.args.machine.now c.requires
      (λ none. let ended = c.in-Ended.ensures.ended c.in-Ended.end none refl in
      (ended.2.0, c.run.new.self.core, ended.2.1, ended.0, ended.2.2))
      (λ end is stop. let again = rw stop at c.in-Ended.ensures.again in
      rw (again.2, again.3, again.4) (at_once _ _ _ _ _ (is ∙ ap Some (same_end again.0))));
  failed = λ which is. absurd (end_is_no_fault _ which is);
}

pub returns-in-OutOfSteps : goal.returns-in-OutOfSteps
returns-in-OutOfSteps g c =
    let begun = has_begun c.args.machine.now c.requires _ c.in-OutOfSteps.ensures.again (λ end again. absurd (cc (again.0))) in
    let ran = c.in-OutOfSteps.ensures.out_of_steps begun refl in
    record {
      ran = (c.run.new.self.core, ran.0, ran.2);
      failed = λ which is. absurd (bound_is_no_fault which is);
    }

pub returns-in-InputFault : goal.returns-in-InputFault
returns-in-InputFault g c =
    let begun = has_begun c.args.machine.now c.requires _ c.in-InputFault.ensures.again (λ end again. absurd (cc (again.0))) in
    let failed = c.in-InputFault.ensures.failed OfInput begun refl in
    faulted OfInput _ _ _ _ failed.2 failed.1

pub returns-in-OutFault : goal.returns-in-OutFault
returns-in-OutFault g c =
    let begun = has_begun c.args.machine.now c.requires _ c.in-OutFault.ensures.again (λ end again. absurd (cc (again.0))) in
    let failed = c.in-OutFault.ensures.failed OfOut begun refl in
    faulted OfOut _ _ _ _ failed.2 failed.1

pub returns-in-ErrFault : goal.returns-in-ErrFault
returns-in-ErrFault g c =
    let begun = has_begun c.args.machine.now c.requires _ c.in-ErrFault.ensures.again (λ end again. absurd (cc (again.0))) in
    let failed = c.in-ErrFault.ensures.failed OfErr begun refl in
    faulted OfErr _ _ _ _ failed.2 failed.1
