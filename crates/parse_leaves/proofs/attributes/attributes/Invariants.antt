use Rattle.std.proofs.Common.{◌≡◌, ◌-◌}
use Rattle.parse_reading.specs.Reading as spec
use Rattle.parse_leaves.proofs.AttributeSteps.{before}
use Rattle.parse_leaves.proofs.attributes.attributes.Given as goal

abbrev pub invariant-loop-turn : goal.invariant-loop-turn
invariant-loop-turn l = spec.attributes l.fn.turns l.fn.tokens ≡ before l.all (spec.attributes (l.turns - l._turn) l.tokens)
