use Rattle.std.proofs.Common.{◌≡◌, length}
use Rattle.parse_reading.specs.Reading.{stars}
use Rattle.parse_lists.proofs.lookahead.pass_stars.Given as goal

abbrev pub invariant-loop-tokens : goal.invariant-loop-tokens
invariant-loop-tokens l = (stars l.fn.tokens).1 ≡ (stars l.tokens).1

abbrev pub decreases-loop-tokens : goal.decreases-loop-tokens
decreases-loop-tokens l = length l.tokens
