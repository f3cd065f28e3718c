use Rattle.library_meaning.proofs.Tables.{checks_once, nothing_requested}
use Rattle.library_meaning.proofs.laws.checks_law.Goals as goal

pub returns-clause-once : goal.returns-clause-once
returns-clause-once c = checks_once

pub returns-clause-nothing_requested : goal.returns-clause-nothing_requested
returns-clause-nothing_requested c = nothing_requested
