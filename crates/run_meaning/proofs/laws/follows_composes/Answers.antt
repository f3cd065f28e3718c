use Rattle.run_meaning.proofs.Follows.{follows_composes_lem}
use Rattle.run_meaning.proofs.laws.follows_composes.Goals as goal

pub returns : goal.returns
returns c = follows_composes_lem
