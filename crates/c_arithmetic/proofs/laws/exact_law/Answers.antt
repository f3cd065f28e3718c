use Rattle.c_arithmetic.proofs.Values.{exact}
use Rattle.c_arithmetic.proofs.laws.exact_law.Goals as goal

pub returns : goal.returns
returns c t z h = exact t.width t.signed z h
