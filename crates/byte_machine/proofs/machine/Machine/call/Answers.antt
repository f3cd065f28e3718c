-- The stack is full, or the function is entered.
use Rattle.std.proofs.Common.{sym, ◌∙◌}
use Rattle.byte_machine.proofs.Calling.{went_in, overfilled}
use Rattle.byte_machine.proofs.machine.Machine.call.Goals as goal

pub returns-then-is_full-clause-performed : goal.returns-then-is_full-clause-performed
returns-then-is_full-clause-performed c = λ all.
    overfilled _ _ _ c.args.to c.args.function all c.requires.running c.requires.instruction (sym c.is_full.ensures ∙ c.if-is_full.true)
    c.stop.ensures.step c.stop.ensures.stopped

pub returns-clause-performed : goal.returns-clause-performed
returns-clause-performed c = λ all.
    went_in _ _ _ c.args.to c.args.function all c.requires.running c.requires.instruction (sym c.is_full.ensures ∙ c.if-is_full.false)
    c.enter.ensures.step c.enter.ensures.state
