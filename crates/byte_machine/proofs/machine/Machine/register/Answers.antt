-- A register that the instruction names.
use Rattle.byte_machine.proofs.Steps.{has_register}
use Rattle.byte_machine.proofs.machine.Machine.register.Goals as goal

pub register-requires : goal.register-requires
register-requires c = has_register c.self.inside c.args.self.now c.args.r c.self.view_is c.self.invariant c.requires
