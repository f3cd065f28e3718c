use Rattle.c_arithmetic.proofs.Values.{twice}
use Rattle.c_arithmetic.proofs.laws.values_law.Goals as goal

pub returns : goal.returns
returns c t bits = twice t.width t.signed bits
