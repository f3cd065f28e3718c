-- A step is one instruction.
use Rattle.std.proofs.Common.{sym, ◌∙◌, ap}
use Rattle.byte_machine.specs.Machines.{end_of_stop}
use Rattle.byte_machine.proofs.Runs.{carried_by-zero, carried_by-more, advances, fails_after, goes, ended, faults, no_bound, none_fell}
use Rattle.byte_machine.proofs.machine.Machine.step.Goals as goal

pub advance-requires : goal.advance-requires
advance-requires g c = (
  sym (ap (λ x. x.core.stopped) c.self.view_is) ∙ ap end_of_stop c.in-None.is,
  sym (ap (λ x. x.stop) c.self.view_is)
      ∙ c.in-None.is,
)

pub returns-in-None-clause-going : goal.returns-in-None-clause-going
returns-in-None-clause-going g c = λ running is.
    let one = goes c.args.self.now c.advance.new.self _ _ is c.advance.ensures.performed in
    (one.1, one.2, advances _ _ _ _ _ _ (carried_by-more 0 _ _ _ _ _ _ _ (carried_by-zero _ _ _) one.0))

pub returns-in-None-clause-ended : goal.returns-in-None-clause-ended
returns-in-None-clause-ended g c = λ end running is.
    let one = ended c.args.self.now c.advance.new.self _ _ end is c.advance.ensures.performed in
    (one.1, one.2, advances _ _ _ _ _ _ (carried_by-more 0 _ _ _ _ _ _ _ (carried_by-zero _ _ _) one.0))

pub returns-in-None-clause-no_bound : goal.returns-in-None-clause-no_bound
returns-in-None-clause-no_bound g c = λ running is. no_bound c.args.self.now c.advance.new.self _ _ is c.advance.ensures.performed

pub returns-in-None-clause-failed : goal.returns-in-None-clause-failed
returns-in-None-clause-failed g c = λ which running is.
    let one = faults c.args.self.now c.advance.new.self _ _ which is c.advance.ensures.performed in
    let core = sym (ap (λ x. x.core.stopped) c.self.view_is) ∙ ap end_of_stop c.in-None.is in
    (one.1, one.0.failed, fails_after which 0 _ _ _ _ _ _ (carried_by-zero _ _ _) core one.0)

pub returns-in-None-clause-counts : goal.returns-in-None-clause-counts
returns-in-None-clause-counts g c = none_fell c.args.self.now c.advance.new.self _ _ c.advance.result c.advance.ensures.performed
