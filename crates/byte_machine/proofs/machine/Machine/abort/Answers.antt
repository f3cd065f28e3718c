-- The end of the run.
use Rattle.fc_base.specs.declared.levels.End.TheVariants as ends
use Rattle.c_library.specs.declared.functions.LibFn.TheVariants as calls
use Rattle.byte_machine.specs.Opening.{begun}
use Rattle.byte_machine.proofs.Steps.{ended_there, call_is}
use Rattle.byte_machine.proofs.machine.Machine.abort.Goals as goal

pub returns-clause-performed : goal.returns-clause-performed
returns-clause-performed c = λ all.
    let old = c.args.self.now in
    ended_there _ _ _ _ ends.Abort all c.requires.running c.requires.call.stands c.stop.ensures.step c.stop.ensures.stopped
    (λ input. call_is old calls.Abort c.args.checked c.args.to c.requires.call (begun old.core input))
