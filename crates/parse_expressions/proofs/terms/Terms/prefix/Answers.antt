use Rattle.std.proofs.Common.{◌≡◌, ◌∙◌, None, Some, refl, ap, rules}
use Rattle.parse_reading.specs.Reading as spec
use Rattle.parse_operations.specs.LeftOperands.{as_left_operand}
use Rattle.parse_expressions.proofs.Groups.{within_groups, groups_fail, group_opens, group_closes}
use Rattle.parse_expressions.proofs.terms.Terms.prefix.Goals as goal

pub loop-starts-preserved : goal.loop-starts-preserved
loop-starts-preserved g c =
    let n = c.args.self.now.grammar.depth in
    let opens = c.loop-starts-test.ensures.taken refl in
    rw (c.in_ok-push.ensures.items, c.place.ensures)
    (c.loop-starts.invariant
    ∙ group_opens n (spec.expression n) c.loop-starts.starts.items opens.0 c.loop-starts.tokens c.take_group.new.tokens opens.1 opens.2)

pub returns-in_err-left-clause-reads : goal.returns-in_err-left-clause-reads
returns-in_err-left-clause-reads g c =
    let n = c.args.self.now.grammar.depth in
    let sub = spec.expression n in
    let other = c.loop-starts-test.ensures.other refl in
    let starts = c.loop-starts.starts.items in
    let fails : spec.prefix n sub c.take_group.new.tokens ≡ None → spec.prefix n sub c.args.tokens.now ≡ None =
    λ f. c.loop-starts.invariant ∙ ap (λ r. within_groups n sub starts r) (rw other.1 at f) ∙ groups_fail n sub starts in
    search rules

pub returns-in_err-left-2-clause-reads : goal.returns-in_err-left-2-clause-reads
returns-in_err-left-2-clause-reads g c =
    let n = c.args.self.now.grammar.depth in
    let sub = spec.expression n in
    let first = as_left_operand c.loop-start.left c.loop-start.tokens in
    let others = c.pop.new.self.items in
    let fails : spec.parenthesised n sub (Some first) c.in-Some.start ≡ None → spec.prefix n sub c.args.tokens.now ≡ None =
    λ f. c.loop-start.invariant.1 ∙ group_closes n sub c.loop-start.starts.items others c.in-Some.start first c.in-Some.ensures.items
    ∙ ap (λ r. within_groups n sub others r) f ∙ groups_fail n sub others in
    search rules

pub loop-start-preserved : goal.loop-start-preserved
loop-start-preserved g c =
    let n = c.args.self.now.grammar.depth in
    let sub = spec.expression n in
    let first = as_left_operand c.loop-start.left c.loop-start.tokens in
    let others = c.pop.new.self.items in (
      c.in_ok-left-2.ensures.low,
      c.loop-start.invariant.1 ∙ group_closes n sub c.loop-start.starts.items others c.in-Some.start first c.in-Some.ensures.items
          ∙ ap (λ r. within_groups n sub others r) c.in_ok-left-2.ensures.reads,
    )
