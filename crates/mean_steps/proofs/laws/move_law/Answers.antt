use Rattle.mean_steps.proofs.Ends.{advances}
use Rattle.mean_steps.proofs.laws.move_law.Goals as goal

pub returns : goal.returns
returns c = advances
