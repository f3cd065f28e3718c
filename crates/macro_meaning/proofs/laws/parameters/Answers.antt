use Rattle.macro_meaning.proofs.ParameterLists.{are_parameters, parameters_read}
use Rattle.macro_meaning.proofs.laws.parameters.Goals as goal

pub returns-clause-read : goal.returns-clause-read
returns-clause-read c = are_parameters

pub returns-clause-all : goal.returns-clause-all
returns-clause-all c = λ ts rest names h. parameters_read h
