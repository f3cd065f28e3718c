use Rattle.std.proofs.Common.{◌≡◌, ◌+◌, ◌-◌, ◌≤◌}
use Rattle.parse_reading.specs.Reading as spec
use Rattle.parse_operations.specs.LeftOperands.{as_left_operand}
use Rattle.parse_expressions.proofs.terms.Terms.climb.Given as goal

abbrev pub invariant-loop-turn : goal.invariant-loop-turn
invariant-loop-turn g l = (l.left.height ≤ l.self.grammar.depth + 1) × (
    spec.climb l.self.grammar.depth (spec.expression l.self.grammar.depth) l.fn.turns l.level l.start
    (as_left_operand l.fn.first l.fn.tokens)
    ≡ spec.climb l.self.grammar.depth (spec.expression l.self.grammar.depth) (l.turns - l._turn) l.level l.start
    (as_left_operand l.left l.tokens))
