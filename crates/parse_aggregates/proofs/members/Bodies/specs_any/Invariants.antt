use Rattle.std.proofs.Common.{◌≡◌, ◌+◌, ◌-◌, ◌≤◌, length}
use Rattle.parse_reading.specs.Reading as spec
use Rattle.parse_reading.specs.ReadingDeclarators.{outer_spec}
use Rattle.parse_leaves.specs.Counts.{tally_of, total}
use Rattle.parse_leaves.proofs.SpecSteps.{behind_specs}
use Rattle.parse_aggregates.proofs.members.Bodies.specs_any.Given as goal

abbrev pub invariant-loop-turn : goal.invariant-loop-turn
invariant-loop-turn g l = record {
  on : length l.tokens ≤ length l.fn.tokens;
  low : l.height + length l.tokens ≤ l.self.depth + length l.fn.tokens;
  small : total l.list.tally ≤ l._turn;
  same : spec.specs_any (outer_spec l.self.depth) l.fn.turns l.fn.tokens
      ≡ behind_specs l.list.specs (tally_of l.list.tally) l.height (spec.specs_any (outer_spec l.self.depth) (l.turns - l._turn) l.tokens);
}
