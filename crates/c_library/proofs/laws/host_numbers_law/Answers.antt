use Rattle.c_library.proofs.Table.{one_form, called}
use Rattle.c_library.proofs.laws.host_numbers_law.Goals as goal

pub returns-clause-apart : goal.returns-clause-apart
returns-clause-apart c f g a b e = one_form f g a b e

pub returns-clause-named : goal.returns-clause-named
returns-clause-named c f a = called f a
