use Rattle.std.proofs.Common.{◌≡◌, length}
use Rattle.parse_reading.specs.Reading as spec
use Rattle.parse_leaves.specs.Runs.{joined, strings_behind}
use Rattle.parse_leaves.proofs.literals.strings.Given as goal

abbrev pub invariant-loop-token : goal.invariant-loop-token
invariant-loop-token l = spec.strings l.first l.fn.tokens ≡ joined l.bytes.items (strings_behind l.tokens)

abbrev pub decreases-loop-token : goal.decreases-loop-token
decreases-loop-token l = length l.tokens
