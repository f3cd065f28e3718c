use Rattle.library_meaning.proofs.Tables.{pointers_first}
use Rattle.library_meaning.proofs.laws.order_law.Goals as goal

pub returns : goal.returns
returns c = pointers_first
