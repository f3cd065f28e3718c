use Rattle.elab_expressions.proofs.Ints.{int_bits_are}
use Rattle.elab_expressions.proofs.names.int_bits.Goals as goal

pub returns : goal.returns
returns c = int_bits_are c.args.value c.from.result _ c.ranges.value c.from.ensures c.cast_unsigned.ensures
