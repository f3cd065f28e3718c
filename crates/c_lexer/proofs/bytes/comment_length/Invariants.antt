use Rattle.std.proofs.Common.{◌≡◌, ◌+◌, ◌-◌, ◌≤◌, length, drop, false}
use Rattle.c_lexer.specs.Runs.{comment_end}
use Rattle.c_lexer.proofs.bytes.comment_length.Given as goal

abbrev pub invariant-loop-end : goal.invariant-loop-end
invariant-loop-end l = record {
  same : (l.end + (comment_end l.star (drop l.end l.bytes)).0, (comment_end l.star (drop l.end l.bytes)).1) ≡ comment_end false l.bytes;
  within : l.end ≤ length l.bytes;
}

abbrev pub decreases-loop-end : goal.decreases-loop-end
decreases-loop-end l = length l.bytes - l.end
