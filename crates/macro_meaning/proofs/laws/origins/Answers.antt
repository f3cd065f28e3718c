use Rattle.macro_meaning.proofs.OriginLaws.{replaced, expanded, spelled}
use Rattle.macro_meaning.proofs.laws.origins.Goals as goal

pub returns-clause-replaced : goal.returns-clause-replaced
returns-clause-replaced c = λ ms depth count ts xs count' x. replaced ms ts depth count xs count' x

pub returns-clause-expanded : goal.returns-clause-expanded
returns-clause-expanded c = λ level ts out x. expanded level ts out x

pub returns-clause-spelled : goal.returns-clause-spelled
returns-clause-spelled c = λ level ts out x h. spelled level ts out x h
