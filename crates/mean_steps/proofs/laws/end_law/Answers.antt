use Rattle.mean_steps.proofs.Ends.{settles}
use Rattle.mean_steps.proofs.laws.end_law.Goals as goal

pub returns : goal.returns
returns c = settles
