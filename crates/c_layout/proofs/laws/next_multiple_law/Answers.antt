use Rattle.c_layout.proofs.Placements.{next_multiple}
use Rattle.c_layout.proofs.laws.next_multiple_law.Goals as goal

pub returns : goal.returns
returns c = next_multiple
