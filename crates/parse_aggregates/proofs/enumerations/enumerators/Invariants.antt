use Rattle.std.proofs.Common.{◌≡◌, ◌-◌, ◌≤◌, length}
use Rattle.parse_reading.specs.Reading.{prepended, expression}
use Rattle.parse_reading.specs.ReadingDeclarators.{enumerators}
use Rattle.parse_aggregates.proofs.enumerations.enumerators.Given as goal

abbrev pub invariant-loop-turn : goal.invariant-loop-turn
invariant-loop-turn l = record {
  on : length l.tokens ≤ length l.fn.tokens;
  low : l.height ≤ l.depth;
  same : enumerators (expression l.depth) (length l.fn.tokens) l.fn.tokens
      ≡ prepended l.trees l.height (enumerators (expression l.depth) (l.turns - l._turn) l.tokens);
}
