use Rattle.parse_reading.proofs.Uniqueness.{expression_once}
use Rattle.parse_reading.proofs.laws.expression_is_one.Goals as goal

pub returns : goal.returns
returns c l h j s x y low d i = expression_once l h j s x y low d i
