-- A register that the instruction names.
use Rattle.byte_machine.proofs.Steps.{has_register}
use Rattle.byte_machine.proofs.machine.Machine.give.Goals as goal

pub set-requires : goal.set-requires
set-requires c = has_register c.self.inside c.args.self.now c.args.to c.self.view_is c.self.invariant c.requires.register
