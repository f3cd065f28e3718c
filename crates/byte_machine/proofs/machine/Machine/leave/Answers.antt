-- The caller goes on, or the run ends.
use Rattle.std.proofs.Common.{refl, sym, ◌∙◌}
use Rattle.byte_machine.proofs.Calling.{came_back, ended_first}
use Rattle.byte_machine.proofs.machine.Machine.leave.Goals as goal

pub returns-then-resume-clause-performed : goal.returns-then-resume-clause-performed
returns-then-resume-clause-performed c = λ all.
    came_back _ _ _ c.args.from _ all c.requires.running c.requires.instruction c.register-value.ensures
    (sym c.resume.ensures.waited ∙ c.if-resume.true) refl c.resume.ensures.state

pub returns-else-resume-clause-performed : goal.returns-else-resume-clause-performed
returns-else-resume-clause-performed c = λ all.
    ended_first _ _ _ _ c.args.from _ all c.requires.running c.requires.instruction c.register-value.ensures
    (sym c.resume.ensures.waited ∙ c.if-resume.false) c.resume.ensures.state c.stop.ensures.step c.stop.ensures.stopped
