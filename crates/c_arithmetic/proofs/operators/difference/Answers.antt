use Rattle.std.proofs.Common.{ap, ◌∙◌}
use Rattle.fc_base.specs.Widths.{extended}
use Rattle.c_arithmetic.proofs.Bits.{difference_bits}
use Rattle.c_arithmetic.proofs.operators.difference.Goals as goal

pub returns : goal.returns
returns c = c.cut.ensures ∙ ap (λ n. extended n c.args.of.width c.args.of.signed)
    (difference_bits c.args.of.signed c.args.a c.args.b c.ranges.a.fits c.ranges.b.fits)
