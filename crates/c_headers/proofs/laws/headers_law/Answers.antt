use Rattle.c_headers.proofs.Table.{only}
use Rattle.c_headers.proofs.laws.headers_law.Goals as goal

pub returns-clause-only : goal.returns-clause-only
returns-clause-only c name h e = only name h e
