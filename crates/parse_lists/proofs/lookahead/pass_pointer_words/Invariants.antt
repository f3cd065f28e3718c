use Rattle.std.proofs.Common.{◌≡◌, length}
use Rattle.parse_reading.specs.Reading.{pointer_words}
use Rattle.parse_lists.proofs.lookahead.pass_pointer_words.Given as goal

abbrev pub invariant-loop-tokens : goal.invariant-loop-tokens
invariant-loop-tokens l = (pointer_words l.fn.tokens).1 ≡ (pointer_words l.tokens).1

abbrev pub decreases-loop-tokens : goal.decreases-loop-tokens
decreases-loop-tokens l = length l.tokens
