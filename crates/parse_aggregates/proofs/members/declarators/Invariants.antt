use Rattle.std.proofs.Common.{◌≡◌, ◌+◌, ◌-◌, ◌≤◌, length}
use Rattle.parse_reading.specs.Reading.{prepended}
use Rattle.parse_reading.specs.ReadingDeclarators.{declarator, declarators}
use Rattle.parse_aggregates.proofs.members.declarators.Given as goal

abbrev pub invariant-loop-turn : goal.invariant-loop-turn
invariant-loop-turn l = record {
  on : length l.tokens ≤ length l.fn.tokens;
  low : l.height + length l.tokens ≤ l.depth + length l.fn.tokens;
  same : declarators (declarator l.depth) (length l.fn.tokens) l.fn.tokens
      ≡ prepended l.trees l.height (declarators (declarator l.depth) (l.turns - l._turn) l.tokens);
}
