use Rattle.std.proofs.Common.{◌∙◌}
use Rattle.macro_replacement.proofs.replacement.follow.Goals as goal

pub returns-clause-own : goal.returns-clause-own
returns-clause-own c = c.set.ensures ∙ c.in_ok-copied.ensures

pub returns-clause-both : goal.returns-clause-both
returns-clause-both c = let b = rw (c.set.ensures, c.in_ok-copied.ensures) at c.in_ok-union.ensures in rw c.set-2.ensures b
