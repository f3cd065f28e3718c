use Rattle.parse_reading.proofs.Uniqueness.{begins_once}
use Rattle.parse_reading.proofs.laws.external_is_one.Goals as goal

pub returns : goal.returns
returns c types names others s t u x y b d = begins_once types names others s t u x y b d
