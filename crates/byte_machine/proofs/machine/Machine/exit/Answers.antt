-- The low byte of the status.
use Rattle.std.proofs.Common.{◌%◌, sym, ◌∙◌, ap}
use Rattle.fc_base.specs.declared.levels.End.TheVariants as ends
use Rattle.c_library.specs.declared.functions.LibFn.TheVariants as calls
use Rattle.byte_machine.specs.State.{ending}
use Rattle.byte_machine.specs.Opening.{begun}
use Rattle.byte_machine.proofs.Steps.{ended_there, call_is}
use Rattle.byte_machine.proofs.machine.Machine.exit.Goals as goal

pub returns-clause-performed : goal.returns-clause-performed
returns-clause-performed c = λ all.
    let old = c.args.self.now in
    ended_there _ _ _ _ (ends.Exit (c.slot.result % 256)) all c.requires.running c.requires.call.stands c.stop.ensures.step c.stop.ensures.stopped
    (λ input. call_is old calls.Exit c.args.checked c.args.to c.requires.call (begun old.core input)
    ∙ ap (λ v. begun (ending (ends.Exit (v % 256)) old.core) input) (sym c.slot.ensures))
