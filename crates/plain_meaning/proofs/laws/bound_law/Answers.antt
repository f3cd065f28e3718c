use Rattle.plain_meaning.proofs.Bounds.{bound_keeps}
use Rattle.plain_meaning.proofs.laws.bound_law.Goals as goal

pub returns : goal.returns
returns c = bound_keeps
