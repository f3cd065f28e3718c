use Rattle.std.proofs.Common.{◌≡◌, ◌+◌, ◌-◌, ◌≤◌, length}
use Rattle.parse_reading.specs.Reading.{prepended}
use Rattle.parse_reading.specs.ReadingDeclarators.{declarator, members, outer_spec}
use Rattle.parse_aggregates.proofs.members.Bodies.members.Given as goal

abbrev pub invariant-loop-turn : goal.invariant-loop-turn
invariant-loop-turn g l = record {
  on : length l.tokens ≤ length l.fn.tokens;
  low : l.height + length l.tokens ≤ l.self.depth + length l.fn.tokens;
  same : members (declarator l.self.depth) (outer_spec l.self.depth) (length l.fn.tokens) l.fn.tokens
      ≡ prepended l.trees l.height (members (declarator l.self.depth) (outer_spec l.self.depth) (l.turns - l._turn) l.tokens);
}
