use Rattle.c_headers.proofs.Table.{some, one}
use Rattle.c_headers.proofs.laws.declarations_law.Goals as goal

pub returns-clause-some : goal.returns-clause-some
returns-clause-some c f n = some f n

pub returns-clause-one : goal.returns-clause-one
returns-clause-one c f g h a b = one f g h a b
