use Rattle.std.proofs.Common.{◌≡◌, [], reverse, length}
use Rattle.parse_reading.specs.Reading as spec
use Rattle.parse_leaves.proofs.AttributeSteps.{before}
use Rattle.parse_leaves.proofs.attributes.balanced.Given as goal

abbrev pub invariant-loop-terminal : goal.invariant-loop-terminal
invariant-loop-terminal l = spec.balanced [] l.fn.tokens ≡ before l.all (spec.balanced (reverse l.waiting.items) l.tokens)

abbrev pub decreases-loop-terminal : goal.decreases-loop-terminal
decreases-loop-terminal l = length l.tokens
