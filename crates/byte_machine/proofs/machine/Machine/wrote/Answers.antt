-- A call that has written goes on or stops as its row says.
use Rattle.std.proofs.Common.{ℕ, Result, Err, refl, ◌∙◌, ap, subst}
use Rattle.fc_base.specs.declared.levels.End.TheVariants as ends
use Rattle.bm_isa.specs.declared.instructions.Instr.TheVariants as instr
use Rattle.library_meaning.specs.declared.stops.HostStop.{HostStop}
use Rattle.library_meaning.specs.declared.stops.HostStop.TheVariants as host
use Rattle.byte_machine.specs.Performing.{HasWritten, stopped_with}
use Rattle.byte_machine.specs.declared.machine.Stop.{Stop}
use Rattle.byte_machine.specs.declared.machine.Step.TheVariants as steps
use Rattle.byte_machine.proofs.Written.{written, written_failed, written_none, never_exceeds}
use Rattle.byte_machine.proofs.machine.Machine.wrote.Goals as goal

pub give-requires-clause-on : goal.give-requires-clause-on
give-requires-clause-on c =
    let h = c.requires.written.1.1 in
    (instr.Host c.args.to h.acts.number h.acts.count, h.acts.stands, refl)

pub give-requires-clause-register : goal.give-requires-clause-register
give-requires-clause-register c =
    let h = c.requires.written.1.1 in
    record { i = instr.Host c.args.to h.acts.number h.acts.count; k = 0; stands = h.acts.stands; named = refl }

pub returns-in-Ok-clause-performed : goal.returns-in-Ok-clause-performed
returns-in-Ok-clause-performed c = λ before after h.
    let old = c.args.self.now in
    written old c.give.new.self c.give.result c.args.to c.args.which c.in-Ok.number before after c.requires.running
    (subst (λ (r : Result ℕ HostStop). HasWritten old c.args.to c.args.which r before after) c.in-Ok.is h) c.give.ensures.step c.give.ensures.state

pub returns-in-SinkFault-clause-performed : goal.returns-in-SinkFault-clause-performed
returns-in-SinkFault-clause-performed c = λ before after h.
    let old = c.args.self.now in
    written_failed old c.stop.new.self c.stop.result c.args.to c.args.which before after c.requires.running
    (subst (λ (r : Result ℕ HostStop). HasWritten old c.args.to c.args.which r before after) (c.in-Err.is ∙ ap Err c.in-SinkFault.is) h)
    (c.stop.ensures.step ∙ ap steps.Stopped c.fault_of.ensures)
    (c.stop.ensures.stopped ∙ ap (λ (s : Stop). stopped_with s old) c.fault_of.ensures)

pub returns-in-BadAddress-clause-performed : goal.returns-in-BadAddress-clause-performed
returns-in-BadAddress-clause-performed c = λ before after h.
    let old = c.args.self.now in
    written_none old c.stop-in-BadAddress.new.self c.stop-in-BadAddress.result c.args.to c.args.which host.BadAddress ends.BadAddress before after
    c.requires.running
    (subst (λ (r : Result ℕ HostStop). HasWritten old c.args.to c.args.which r before after) (c.in-Err.is ∙ ap Err c.in-BadAddress.is) h)
    (λ args a u v no. no) (λ s. refl) c.stop-in-BadAddress.ensures.step c.stop-in-BadAddress.ensures.stopped

pub returns-in-BadFormat-clause-performed : goal.returns-in-BadFormat-clause-performed
returns-in-BadFormat-clause-performed c = λ before after h.
    let old = c.args.self.now in
    written_none old c.stop-in-BadFormat.new.self c.stop-in-BadFormat.result c.args.to c.args.which host.BadFormat ends.BadFormat before after
    c.requires.running
    (subst (λ (r : Result ℕ HostStop). HasWritten old c.args.to c.args.which r before after) (c.in-Err.is ∙ ap Err c.in-BadFormat.is) h)
    (λ args a u v no. no) (λ s. refl) c.stop-in-BadFormat.ensures.step c.stop-in-BadFormat.ensures.stopped

pub unreachable-requires : goal.unreachable-requires
unreachable-requires c =
    let w = c.requires.written in
    never_exceeds c.args.self.now c.args.to c.args.which host.Overflow w.0 w.1.0
    (subst (λ (r : Result ℕ HostStop). HasWritten c.args.self.now c.args.to c.args.which r w.0 w.1.0) (c.in-Err.is ∙ ap Err c.in-Overflow.is) w.1.1)
    (λ bad. bad) (λ args a u v no. no)

pub unreachable-requires-in-InputFault : goal.unreachable-requires-in-InputFault
unreachable-requires-in-InputFault c =
    let w = c.requires.written in
    never_exceeds c.args.self.now c.args.to c.args.which host.InputFault w.0 w.1.0
    (subst (λ (r : Result ℕ HostStop). HasWritten c.args.self.now c.args.to c.args.which r w.0 w.1.0) (c.in-Err.is ∙ ap Err c.in-InputFault.is) w.1.1)
    (λ bad. bad) (λ args a u v no. no)
