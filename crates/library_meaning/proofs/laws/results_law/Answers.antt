use Rattle.library_meaning.proofs.Tables.{pointers_given}
use Rattle.library_meaning.proofs.laws.results_law.Goals as goal

pub returns : goal.returns
returns c = pointers_given
