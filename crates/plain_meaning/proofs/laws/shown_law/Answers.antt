use Rattle.plain_meaning.proofs.Bounds.{shown_grows}
use Rattle.plain_meaning.proofs.laws.shown_law.Goals as goal

pub returns : goal.returns
returns c = shown_grows
