use Rattle.macro_meaning.proofs.ReplacementLaws.{one_outcome}
use Rattle.macro_meaning.proofs.Totality.{total}
use Rattle.macro_meaning.proofs.laws.one_replacement.Goals as goal

pub returns-clause-some : goal.returns-clause-some
returns-clause-some c = total

pub returns-clause-one : goal.returns-clause-one
returns-clause-one c = λ ms depth count ts a b x y. one_outcome x y
