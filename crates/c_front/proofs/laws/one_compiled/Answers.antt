use Rattle.c_front.proofs.Serving as phases
use Rattle.c_front.proofs.laws.one_compiled.Goals as goal

pub returns-clause-some : goal.returns-clause-some
returns-clause-some c = λ level source. phases.some level source

pub returns-clause-one : goal.returns-clause-one
returns-clause-one c = λ level source a b x y. phases.one level source x y
