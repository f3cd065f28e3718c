use Rattle.std.proofs.Common.{length}
use Rattle.macro_meaning.specs.Moves.{start}
use Rattle.macro_meaning.proofs.ExpansionLaws as laws
use Rattle.macro_meaning.proofs.laws.one_expansion.Goals as goal

pub returns-clause-some : goal.returns-clause-some
returns-clause-some c = λ level ts. laws.some (start level) (length ts) ts

pub returns-clause-one : goal.returns-clause-one
returns-clause-one c = λ level ts a b x y. laws.one x y
