use Rattle.std.proofs.Common.{◌≡◌, ◌≤◌, length}
use Rattle.parse_reading.specs.Reading as spec
use Rattle.parse_leaves.specs.Runs.{joined}
use Rattle.parse_leaves.proofs.pointers.stars.Given as goal

abbrev pub invariant-loop-words : goal.invariant-loop-words
invariant-loop-words l = (length l.tokens ≤ length l.fn.tokens) × (spec.stars l.fn.tokens ≡ joined l.words (spec.stars l.tokens))

abbrev pub decreases-loop-words : goal.decreases-loop-words
decreases-loop-words l = length l.tokens
