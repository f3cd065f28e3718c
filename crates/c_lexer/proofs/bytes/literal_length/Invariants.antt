use Rattle.std.proofs.Common.{◌≡◌, ◌+◌, ◌-◌, ◌≤◌, length, drop, false}
use Rattle.c_lexer.specs.Runs.{literal_end}
use Rattle.c_lexer.proofs.bytes.literal_length.Given as goal

abbrev pub invariant-loop-end : goal.invariant-loop-end
invariant-loop-end l = record {
  same : (
    l.end + (literal_end l.close l.escapes l.escaped (drop l.end l.bytes)).0,
    (literal_end l.close l.escapes l.escaped (drop l.end l.bytes)).1,
  ) ≡ literal_end l.close l.escapes false l.bytes;
  within : l.end ≤ length l.bytes;
}

abbrev pub decreases-loop-end : goal.decreases-loop-end
decreases-loop-end l = length l.bytes - l.end
