use Rattle.c_arithmetic.proofs.Bits.{quotient_is}
use Rattle.c_arithmetic.proofs.operators.signed_quotient.Goals as goal

pub returns : goal.returns
returns c =
    quotient_is c.args.a c.args.b c.cast_unsigned.result c.cast_signed.result c.cast_signed-2.result c.wrapping_div.result
    c.ranges.a.fits c.ranges.b.fits
    c.cast_signed.ensures c.cast_signed-2.ensures c.wrapping_div.ensures c.cast_unsigned.ensures
