use Rattle.std.proofs.Common.{Option, sym, subst}
use Rattle.parse_reading.specs.Reading as spec
use Rattle.parse_operations.specs.LeftOperands.{GivesLeftOperand}
use Rattle.parse_expressions.proofs.Parts.{prefix_sizeof, prefix_size_call, prefix_type}
use Rattle.parse_expressions.proofs.terms.Terms.operand.Goals as goal

pub returns-in-Some-Word-Sizeof-default-clause-reads : goal.returns-in-Some-Word-Sizeof-default-clause-reads
returns-in-Some-Word-Sizeof-default-clause-reads g c =
    let n = c.args.self.now.grammar.depth in
    let arm = c.in-Some-Word-Sizeof-default in
    let given : Option spec.LeftOperand → Type 0 = λ r. GivesLeftOperand r c.sized.result c.sized.new.tokens in
    subst given
    (sym (prefix_sizeof n (spec.expression n) arm.token.now c.args.tokens.now c.next.new.self
    (rw (arm.field-0-0-is, arm.field-0-0-0-is) at arm.ensures.next))) c.sized.ensures.reads

pub returns-in-Some-Word-DynamicObjectSize-default-clause-reads : goal.returns-in-Some-Word-DynamicObjectSize-default-clause-reads
returns-in-Some-Word-DynamicObjectSize-default-clause-reads g c =
    let n = c.args.self.now.grammar.depth in
    let arm = c.in-Some-Word-DynamicObjectSize-default in
    let given : Option spec.LeftOperand → Type 0 = λ r. GivesLeftOperand r c.size_called.result c.size_called.new.tokens in
    subst given
    (sym (prefix_size_call n (spec.expression n) arm.token.now c.args.tokens.now c.next.new.self
    (rw (arm.field-0-0-is, arm.field-0-0-0-is) at arm.ensures.next))) c.size_called.ensures.reads

pub returns-in-Some-Punct-LeftParen-default-clause-reads : goal.returns-in-Some-Punct-LeftParen-default-clause-reads
returns-in-Some-Punct-LeftParen-default-clause-reads g c =
    let n = c.args.self.now.grammar.depth in
    let arm = c.in-Some-Punct-LeftParen-default in
    let given : Option spec.LeftOperand → Type 0 = λ r. GivesLeftOperand r c.converted.result c.converted.new.tokens in
    subst given
    (sym (prefix_type n (spec.expression n) arm.token.now c.args.tokens.now c.next.new.self
    (rw (arm.field-0-0-is, arm.field-0-0-0-is) at arm.ensures.next) c.requires.plain)) c.converted.ensures.reads
