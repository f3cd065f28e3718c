use Rattle.c_library.proofs.Table.{named, numbered}
use Rattle.c_library.proofs.laws.library_law.Goals as goal

pub returns-clause-numbered : goal.returns-clause-numbered
returns-clause-numbered c f = numbered f

pub returns-clause-named : goal.returns-clause-named
returns-clause-named c f g e = named f g e
