use Rattle.std.proofs.Common.{arith}
use Rattle.elab_types.proofs.Ints.{low_is, high_is}
use Rattle.elab_types.proofs.enumerations.as_int.Goals as goal

pub returns-then-low-lt2147483648 : goal.returns-then-low-lt2147483648
returns-then-low-lt2147483648 c = low_is c.args.value (grind arith) (grind arith)

pub returns-else-low-lt2147483648 : goal.returns-else-low-lt2147483648
returns-else-low-lt2147483648 c = high_is c.args.value (grind arith) (grind arith)
