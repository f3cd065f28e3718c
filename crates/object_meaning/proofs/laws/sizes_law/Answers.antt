use Rattle.object_meaning.proofs.Bounds.{brackets}
use Rattle.object_meaning.proofs.laws.sizes_law.Goals as goal

pub returns : goal.returns
returns c = brackets
