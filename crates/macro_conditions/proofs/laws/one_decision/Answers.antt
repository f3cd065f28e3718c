use Rattle.macro_conditions.proofs.Decisions.{some, one}
use Rattle.macro_conditions.proofs.laws.one_decision.Goals as goal

pub returns-clause-some : goal.returns-clause-some
returns-clause-some c = some

pub returns-clause-one : goal.returns-clause-one
returns-clause-one c = λ line a b x y. one x y
