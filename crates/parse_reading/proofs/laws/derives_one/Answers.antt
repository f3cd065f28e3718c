use Rattle.parse_reading.proofs.Uniqueness.{derives_once, derives_some}
use Rattle.parse_reading.proofs.laws.derives_one.Goals as goal

pub returns-clause-one : goal.returns-clause-one
returns-clause-one c s a b d e = derives_once s a b d e

pub returns-clause-some : goal.returns-clause-some
returns-clause-some c s = derives_some s
