use Rattle.std.proofs.Common.{◌≡◌, ◌-◌, ◌≤◌}
use Rattle.parse_reading.specs.Reading as spec
use Rattle.parse_expressions.proofs.terms.Terms.exprs.Given as goal

abbrev pub invariant-loop-turn : goal.invariant-loop-turn
invariant-loop-turn g l = (l.height ≤ l.self.grammar.depth) × (
    spec.exprs l.self.grammar.depth (spec.expression l.self.grammar.depth) l.fn.turns l.fn.tokens
    ≡ spec.prepended l.trees l.height (spec.exprs l.self.grammar.depth (spec.expression l.self.grammar.depth) (l.turns - l._turn) l.tokens))
