-- There are few arguments.
use Rattle.std.proofs.Common.{arith}
use Rattle.byte_machine.proofs.Arguments.{few_arguments}
use Rattle.byte_machine.proofs.opening.count.Goals as goal

pub overflow_add-result : goal.overflow_add-result
overflow_add-result c = let few = few_arguments c.args.args.now c.requires in omega (arith, c.len.ensures)

pub returns-clause-small : goal.returns-clause-small
returns-clause-small c = let few = few_arguments c.args.args.now c.requires in omega (arith, c.len.ensures)
