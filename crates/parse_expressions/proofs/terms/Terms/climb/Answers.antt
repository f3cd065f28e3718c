use Rattle.std.proofs.Common.{◌≡◌, ◌∙◌, ◌+◌, ℕ, None, nat_lt, rules, arith}
use Rattle.std.proofs.lemmas.Result.{err_from_is_err_and}
use Rattle.parse_reading.specs.Reading as spec
use Rattle.parse_tokens.proofs.Turns.{one_more}
use Rattle.parse_operations.specs.LeftOperands.{as_left_operand}
use Rattle.parse_type_names.proofs.Keeping.{kept_gives}
use Rattle.parse_expressions.proofs.Climbing.{is_below, is_not_below, is_within, is_not_within, climb_stops, climb_over, climb_fails, climb_goes, climb_high}
use Rattle.parse_expressions.proofs.terms.Terms.climb.Goals as goal

pub returns-then-level-binds-clause-reads : goal.returns-then-level-binds-clause-reads
returns-then-level-binds-clause-reads g c =
    let n = c.args.self.now.grammar.depth in
    let ends = rw c.binds.ensures at c.if-level-binds.true in
    rw c.finish.ensures (c.loop-turn.invariant.1 ∙ climb_stops n (spec.expression n) c.args.level c.args.start
    (as_left_operand c.loop-turn.left c.loop-turn.tokens) _ ends)

pub returns-in_err-next-clause-reads : goal.returns-in_err-next-clause-reads
returns-in_err-next-clause-reads g c =
    let n = c.args.self.now.grammar.depth in
    let read = λ (m : ℕ). spec.climb n (spec.expression n) m c.args.level c.args.start
    (as_left_operand c.loop-turn.left c.loop-turn.tokens) in
    let e = one_more read c.args.turns c.loop-turn._turn c.loop-turn-test.true c.loop-turn.invariant.1 in
    let goes = rw c.binds.ensures at c.if-level-binds.false in
    let fails : spec.next_in n (spec.expression n) c.args.start
    (as_left_operand c.loop-turn.left c.loop-turn.tokens) c.loop-turn.tokens ≡ None →
    spec.climb n (spec.expression n) c.args.turns c.args.level c.args.start (as_left_operand c.args.first c.args.tokens.now) ≡ None =
    λ f. e ∙ climb_fails n (spec.expression n) c.args.level c.args.start (as_left_operand c.loop-turn.left c.loop-turn.tokens) _ goes f in
    search rules

pub returns-in_err-left-clause-reads : goal.returns-in_err-left-clause-reads
returns-in_err-left-clause-reads g c =
    let n = c.args.self.now.grammar.depth in
    let read = λ (m : ℕ). spec.climb n (spec.expression n) m c.args.level c.args.start
    (as_left_operand c.loop-turn.left c.loop-turn.tokens) in
    let e = one_more read c.args.turns c.loop-turn._turn c.loop-turn-test.true c.loop-turn.invariant.1 in
    let goes = rw c.binds.ensures at c.if-level-binds.false in
    let high = is_not_within c.in_ok-next.next.height (n + 1) c.in_err-left.ensures.err.1 in
    let left = err_from_is_err_and c.from_residual-in_err-left.result c.from_residual-in_err-left.ensures.1 in
    rw left.1 (λ _. e ∙ climb_high n (spec.expression n) c.args.level c.args.start
    (as_left_operand c.loop-turn.left c.loop-turn.tokens) _ _ goes c.in_ok-next.ensures (omega (arith, high)))

pub loop-turn-preserved : goal.loop-turn-preserved
loop-turn-preserved g c =
    let n = c.args.self.now.grammar.depth in
    let read = λ (m : ℕ). spec.climb n (spec.expression n) m c.args.level c.args.start
    (as_left_operand c.loop-turn.left c.loop-turn.tokens) in
    let e = one_more read c.args.turns c.loop-turn._turn c.loop-turn-test.true c.loop-turn.invariant.1 in
    let goes = rw c.binds.ensures at c.if-level-binds.false in
    let low = is_within c.in_ok-next.next.height (n + 1) c.in_ok-left.ensures.ok.1 in
    rw c.in_ok-left.ensures.ok.0 (
      omega (arith, low),
      e ∙ climb_goes n (spec.expression n) c.args.level c.args.start
          (as_left_operand c.loop-turn.left c.loop-turn.tokens) _ _ goes c.in_ok-next.ensures (omega (arith, low)),
    )

pub returns-clause-reads : goal.returns-clause-reads
returns-clause-reads g c =
    let n = c.args.self.now.grammar.depth in
    let l = as_left_operand c.loop-turn.left c.loop-turn.tokens in
    let over = c.loop-turn-test.false in
    kept_gives (spec.climb n (spec.expression n) c.args.turns c.args.level c.args.start (as_left_operand c.args.first c.args.tokens.now))
    c.finish-2.result (nat_lt c.args.level c.binds-2.result) c.loop-turn.tokens c.kept-2.result c.kept-2.ensures.ok c.kept-2.ensures.err
    (λ t. let below = is_below c.args.level c.binds-2.result t in
    let ends = rw c.binds-2.ensures at below in
    rw c.finish-2.ensures (c.loop-turn.invariant.1 ∙ climb_stops n (spec.expression n) c.args.level c.args.start l _ ends))
    (λ t. let within = is_not_below c.args.level c.binds-2.result t in
    let goes = rw c.binds-2.ensures at within in
    c.loop-turn.invariant.1 ∙ climb_over n (spec.expression n) c.args.level c.args.start l _ (omega (arith, over)) goes)
