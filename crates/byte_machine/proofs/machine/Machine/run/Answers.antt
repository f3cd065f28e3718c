-- A run is a stretch of straight code and one further instruction, again and again.
use Rattle.std.proofs.Common.{◌≡◌, ◌+◌, refl, sym, ◌∙◌, ap, arith}
use Rattle.byte_machine.specs.declared.machine.Step.TheVariants as steps
use Rattle.byte_machine.specs.Machines.{end_of_stop}
use Rattle.byte_machine.proofs.Runs.{carried_by-zero, went_straight, one_more, advances, fails_next, goes, ended, faults, no_bound, none_fell}
use Rattle.run_meaning.proofs.Moved.{rose-later}
use Rattle.byte_machine.proofs.Moving.{fell-both}
use Rattle.byte_machine.proofs.machine.Machine.run.Goals as goal

pub loop-done-init : goal.loop-done-init
loop-done-init g c = record {
  done = omega arith;
  program = refl;
  going = (
    sym (ap (λ x. x.core.stopped) c.self.view_is) ∙ ap end_of_stop c.in_default.is,
    sym (ap (λ x. x.stop) c.self.view_is) ∙
        c.in_default.is,
  );
  carried = carried_by-zero _ _ _;
}

pub go_straight-done-requires : goal.go_straight-done-requires
go_straight-done-requires g c = c.loop-done.invariant.going

pub advance-requires : goal.advance-requires
advance-requires g c = c.go_straight-done.ensures.going

pub returns-then-done-budget-clause-program : goal.returns-then-done-budget-clause-program
returns-then-done-budget-clause-program g c = c.go_straight-done.ensures.program ∙ c.loop-done.invariant.program

pub returns-then-done-budget-clause-out_of_steps : goal.returns-then-done-budget-clause-out_of_steps
returns-then-done-budget-clause-out_of_steps g c = λ running is.
    let before = c.loop-done.invariant in
    let went = went_straight c.loop-done.done c.go_straight-done.result _ _ c.loop-done.self c.go_straight-done.new.self _ _ before.program
    before.carried c.go_straight-done.ensures.stays in
    let going = c.go_straight-done.ensures.going in
    (going.0, going.1, rw (← c.if-done-budget.true) (advances _ _ _ _ _ _ went))

pub returns-then-done-budget-clause-counts : goal.returns-then-done-budget-clause-counts
returns-then-done-budget-clause-counts g c = c.loop-done.invariant.carried.have.fell

pub returns-in-Stopped-clause-program : goal.returns-in-Stopped-clause-program
returns-in-Stopped-clause-program g c =
    c.advance.ensures.program ∙ (c.go_straight-done.ensures.program ∙ c.loop-done.invariant.program)

pub returns-in-Stopped-clause-ended : goal.returns-in-Stopped-clause-ended
returns-in-Stopped-clause-ended g c = λ end running is.
    let before = c.loop-done.invariant in
    let middle = c.go_straight-done.new.self in
    let went = went_straight c.loop-done.done c.go_straight-done.result _ _ c.loop-done.self middle _ _ before.program before.carried
    c.go_straight-done.ensures.stays in
    let one = ended middle c.advance.new.self _ _ end (c.in-Stopped.is ∙ ap steps.Stopped is) c.advance.ensures.performed in (
      one.1,
      one.2,
      (
        c.loop-done.done + c.go_straight-done.result + 1,
        omega arith,
        advances _ _ _ _ _ _
            (one_more (c.loop-done.done + c.go_straight-done.result) _ _ middle c.advance.new.self _ _ _
            (c.go_straight-done.ensures.program ∙ before.program) went one.0),
      ),
    )

pub returns-in-Stopped-clause-out_of_steps : goal.returns-in-Stopped-clause-out_of_steps
returns-in-Stopped-clause-out_of_steps g c = λ running is. absurd (no_bound c.go_straight-done.new.self c.advance.new.self _ _
    (c.in-Stopped.is ∙ ap steps.Stopped is) c.advance.ensures.performed)

pub returns-in-Stopped-clause-failed : goal.returns-in-Stopped-clause-failed
returns-in-Stopped-clause-failed g c = λ which running is.
    let before = c.loop-done.invariant in
    let middle = c.go_straight-done.new.self in
    let went = went_straight c.loop-done.done c.go_straight-done.result _ _ c.loop-done.self middle _ _ before.program before.carried
    c.go_straight-done.ensures.stays in
    let one = faults middle c.advance.new.self _ _ which (c.in-Stopped.is ∙ ap steps.Stopped is) c.advance.ensures.performed in (
      one.1,
      rose-later _ _ _ (before.carried.have.fell which) one.0.failed,
      (
        c.loop-done.done + c.go_straight-done.result,
        omega arith,
        fails_next which (c.loop-done.done + c.go_straight-done.result) _ _ middle _ _ _
            (c.go_straight-done.ensures.program ∙ before.program) went c.go_straight-done.ensures.going.0 one.0,
      ),
    )

pub returns-in-Stopped-clause-counts : goal.returns-in-Stopped-clause-counts
returns-in-Stopped-clause-counts g c =
    fell-both _ _ _ c.loop-done.invariant.carried.have.fell (none_fell c.go_straight-done.new.self c.advance.new.self _ _ c.advance.result
    c.advance.ensures.performed)

pub loop-done-preserved : goal.loop-done-preserved
loop-done-preserved g c =
    let before = c.loop-done.invariant in
    let middle = c.go_straight-done.new.self in
    let went = went_straight c.loop-done.done c.go_straight-done.result _ _ c.loop-done.self middle _ _ before.program before.carried
    c.go_straight-done.ensures.stays in
    let one = goes middle c.advance.new.self _ _ c.in-Going.is c.advance.ensures.performed in
    record {
      done = omega arith;
      program = c.advance.ensures.program ∙ (c.go_straight-done.ensures.program ∙ before.program);
      going = (one.1, one.2);
      carried = one_more (c.loop-done.done + c.go_straight-done.result) _ _ middle c.advance.new.self _ _ _
          (c.go_straight-done.ensures.program ∙ before.program) went one.0;
    }

pub returns-clause-program : goal.returns-clause-program
returns-clause-program g c = c.loop-done.invariant.program

pub returns-clause-out_of_steps : goal.returns-clause-out_of_steps
returns-clause-out_of_steps g c = λ running is.
    let before = c.loop-done.invariant in
    let done : c.loop-done.done ≡ c.args.budget = omega arith in
    (before.going.0, before.going.1, rw (← done) (advances _ _ _ _ _ _ before.carried))

pub returns-clause-counts : goal.returns-clause-counts
returns-clause-counts g c = c.loop-done.invariant.carried.have.fell
