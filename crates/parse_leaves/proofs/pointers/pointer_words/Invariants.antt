use Rattle.std.proofs.Common.{◌≡◌, ◌≤◌, length}
use Rattle.parse_reading.specs.Reading as spec
use Rattle.parse_leaves.specs.Runs.{joined}
use Rattle.parse_leaves.proofs.pointers.pointer_words.Given as goal

abbrev pub invariant-loop-word : goal.invariant-loop-word
invariant-loop-word l =
    (length l.tokens ≤ length l.fn.tokens) × (spec.pointer_words l.fn.tokens ≡ joined l.words (spec.pointer_words l.tokens))

abbrev pub decreases-loop-word : goal.decreases-loop-word
decreases-loop-word l = length l.tokens
