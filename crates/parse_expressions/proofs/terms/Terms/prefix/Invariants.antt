use Rattle.std.proofs.Common.{◌≡◌, ◌+◌, ◌≤◌, length, vec_len, Some}
use Rattle.parse_reading.specs.Reading as spec
use Rattle.parse_operations.specs.LeftOperands.{as_left_operand}
use Rattle.parse_expressions.proofs.Groups.{within_groups}
use Rattle.parse_expressions.proofs.terms.Terms.prefix.Given as goal

abbrev pub invariant-loop-starts : goal.invariant-loop-starts
invariant-loop-starts g l =
    spec.prefix l.self.grammar.depth (spec.expression l.self.grammar.depth) l.fn.tokens
    ≡ within_groups l.self.grammar.depth (spec.expression l.self.grammar.depth) l.starts.items
    (spec.prefix l.self.grammar.depth (spec.expression l.self.grammar.depth) l.tokens)

abbrev pub decreases-loop-starts : goal.decreases-loop-starts
decreases-loop-starts g l = length l.tokens

abbrev pub invariant-loop-start : goal.invariant-loop-start
invariant-loop-start g l = (l.left.height ≤ l.self.grammar.depth + 1) × (
    spec.prefix l.self.grammar.depth (spec.expression l.self.grammar.depth) l.fn.tokens
    ≡ within_groups l.self.grammar.depth (spec.expression l.self.grammar.depth) l.starts.items (Some (as_left_operand l.left l.tokens)))

abbrev pub decreases-loop-start : goal.decreases-loop-start
decreases-loop-start g l = vec_len l.starts
