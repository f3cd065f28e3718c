use Rattle.plain_meaning.proofs.Bounds.{events_grow}
use Rattle.plain_meaning.proofs.laws.events_law.Goals as goal

pub returns : goal.returns
returns c = events_grow
