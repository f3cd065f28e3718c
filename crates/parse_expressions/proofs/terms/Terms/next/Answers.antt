use Rattle.std.proofs.Common.{Option, sym, subst}
use Rattle.parse_reading.specs.Reading as spec
use Rattle.parse_operations.specs.LeftOperands.{GivesLeftOperand}
use Rattle.parse_expressions.proofs.Parts.{next_parts}
use Rattle.parse_expressions.proofs.terms.Terms.next.Goals as goal

pub returns : goal.returns
returns g c =
    let n = c.args.self.now.grammar.depth in
    let left = c.args.left in
    let given : Option spec.LeftOperand → Type 0 = λ r. GivesLeftOperand r c.go_on.result c.go_on.new.tokens in
    let goes = rw (c.next_operator-role.ensures.role, c.next_operator-role.ensures.place, c.next_operator-role.ensures.rest) at
    c.go_on.ensures in
    subst given (sym (next_parts n (spec.expression n) c.args.start left.level left.tree left.height c.args.tokens.now)) goes
