use Rattle.c_tokens.proofs.Shapes.{shape_is}
use Rattle.c_tokens.proofs.laws.ends_of_literals.Goals as goal

pub returns : goal.returns
returns c = shape_is
