use Rattle.std.proofs.Common.{◌≡◌, ◌+◌, ◌-◌, ◌≤◌, length}
use Rattle.parse_reading.specs.Reading as spec
use Rattle.parse_leaves.specs.Counts.{tally_of, total}
use Rattle.parse_leaves.proofs.SpecSteps.{behind_specs}
use Rattle.parse_leaves.proofs.specifiers.specs_any.Given as goal

abbrev pub invariant-loop-turn : goal.invariant-loop-turn
invariant-loop-turn l = (l.height ≤ 1) × (total l.list.tally ≤ l._turn) × (length l.tokens + l._turn ≤ length l.fn.tokens) × (
    spec.specs_any spec.plain_spec l.fn.turns l.fn.tokens
    ≡ behind_specs l.list.specs (tally_of l.list.tally) l.height (spec.specs_any spec.plain_spec (l.turns - l._turn) l.tokens))
