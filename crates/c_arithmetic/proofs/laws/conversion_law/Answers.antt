use Rattle.c_arithmetic.proofs.Values.{conversion}
use Rattle.c_arithmetic.proofs.laws.conversion_law.Goals as goal

pub returns : goal.returns
returns c t signed bits h = conversion t signed bits h
