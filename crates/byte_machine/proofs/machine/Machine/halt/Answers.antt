-- Each way in which a call stops is the table's.
use Rattle.std.proofs.Common.{refl, subst}
use Rattle.fc_base.specs.declared.levels.End.TheVariants as ends
use Rattle.library_meaning.specs.declared.stops.HostStop.{HostStop}
use Rattle.byte_machine.specs.Performing.{Halts}
use Rattle.byte_machine.specs.declared.machine.Step.TheVariants as steps
use Rattle.byte_machine.proofs.Steps.{overflowed, failed_overflowing, ended_there, went_on}
use Rattle.byte_machine.proofs.machine.Machine.halt.Goals as goal

pub returns-in-Ok-clause-performed : goal.returns-in-Ok-clause-performed
returns-in-Ok-clause-performed g c = λ input out.
    overflowed c.args.self.now c.stop.new.self c.stop.result input out _ _ c.requires.running
    (subst (Halts c.args.self.now) c.in-Overflow.is c.requires.halts) c.in-Ok.ensures.appended c.write.ensures.counts.0
    c.stop.ensures.step c.stop.ensures.stopped

pub returns-in-Err-clause-performed : goal.returns-in-Err-clause-performed
returns-in-Err-clause-performed g c = λ input out.
    failed_overflowing c.args.self.now c.stop-in-Err.new.self c.stop-in-Err.result input out _ _ c.requires.running
    (subst (Halts c.args.self.now) c.in-Overflow.is c.requires.halts) c.in-Err.ensures.front_appended c.in-Err.ensures.failed
    c.write.ensures.counts.0 c.stop-in-Err.ensures.step c.stop-in-Err.ensures.stopped

pub returns-in-BadAddress-clause-performed : goal.returns-in-BadAddress-clause-performed
returns-in-BadAddress-clause-performed g c = λ input out.
    let halts = subst (Halts c.args.self.now) c.in-BadAddress.is c.requires.halts in
    ended_there _ _ _ halts.i ends.BadAddress _ c.requires.running halts.stands c.stop-in-BadAddress.ensures.step
    c.stop-in-BadAddress.ensures.stopped halts.does

pub returns-in-BadFormat-clause-performed : goal.returns-in-BadFormat-clause-performed
returns-in-BadFormat-clause-performed g c = λ input out.
    let halts = subst (Halts c.args.self.now) c.in-BadFormat.is c.requires.halts in
    ended_there _ _ _ halts.i ends.BadFormat _ c.requires.running halts.stands c.stop-in-BadFormat.ensures.step
    c.stop-in-BadFormat.ensures.stopped halts.does

pub returns-in-InputFault-clause-performed : goal.returns-in-InputFault-clause-performed
returns-in-InputFault-clause-performed g c = λ input out.
    let halts = subst (Halts c.args.self.now) c.in-InputFault.is c.requires.halts in
    went_on c.args.self.now c.args.self.now steps.Going halts.i c.args.self.now.core _ c.requires.running halts.stands refl refl refl halts.does

pub returns-in-SinkFault-clause-performed : goal.returns-in-SinkFault-clause-performed
returns-in-SinkFault-clause-performed g c = λ input out.
    let halts = subst (Halts c.args.self.now) c.in-SinkFault.is c.requires.halts in
    went_on c.args.self.now c.args.self.now steps.Going halts.i c.args.self.now.core _ c.requires.running halts.stands refl refl refl halts.does
