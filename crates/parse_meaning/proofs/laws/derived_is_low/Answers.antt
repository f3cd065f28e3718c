use Rattle.parse_meaning.proofs.FileHeights.{file_low}
use Rattle.parse_meaning.proofs.laws.derived_is_low.Goals as goal

pub returns : goal.returns
returns c file d = file_low d.0 file d.1
