use Rattle.std.proofs.Common.{◌≡◌, ◌∙◌, ℕ, None, refl, rules, arith}
use Rattle.parse_reading.specs.Reading as spec
use Rattle.parse_tokens.proofs.Turns.{one_more, no_more, highest}
use Rattle.parse_expressions.proofs.Lists.{exprs_fail, exprs_end, exprs_go, exprs_over}
use Rattle.parse_expressions.proofs.terms.Terms.exprs.Goals as goal

pub returns-in_err-one-clause-reads : goal.returns-in_err-one-clause-reads
returns-in_err-one-clause-reads g c =
    let n = c.args.self.now.grammar.depth in
    let read = λ (m : ℕ). spec.prepended c.loop-turn.trees c.loop-turn.height (spec.exprs n (spec.expression n) m c.loop-turn.tokens) in
    let e = one_more read c.args.turns c.loop-turn._turn c.loop-turn-test.true c.loop-turn.invariant.1 in
    let fails : spec.expression n 15 c.loop-turn.tokens ≡ None → spec.exprs n (spec.expression n) c.args.turns c.args.tokens.now ≡ None =
    λ f. e ∙ exprs_fail n (spec.expression n) c.loop-turn.trees c.loop-turn.height _ c.loop-turn.tokens f in
    search rules

pub returns-then-not-take_comma-clause-reads : goal.returns-then-not-take_comma-clause-reads
returns-then-not-take_comma-clause-reads g c =
    let n = c.args.self.now.grammar.depth in
    let read = λ (m : ℕ). spec.prepended c.loop-turn.trees c.loop-turn.height (spec.exprs n (spec.expression n) m c.loop-turn.tokens) in
    let e = one_more read c.args.turns c.loop-turn._turn c.loop-turn-test.true c.loop-turn.invariant.1 in
    let other = c.if-not-take_comma.ensures.other refl in
    let higher = c.max-height.ensures ∙ highest c.loop-turn.height c.in_ok-one.one.height in
    rw (c.finish.ensures, c.in_ok-push.ensures.ok, higher, other.1)
    (e ∙ exprs_end n (spec.expression n) c.loop-turn.trees c.loop-turn.height _ c.loop-turn.tokens c.expression.new.tokens _ _
    c.in_ok-one.ensures.reads other.0)

pub loop-turn-preserved : goal.loop-turn-preserved
loop-turn-preserved g c =
    let n = c.args.self.now.grammar.depth in
    let read = λ (m : ℕ). spec.prepended c.loop-turn.trees c.loop-turn.height (spec.exprs n (spec.expression n) m c.loop-turn.tokens) in
    let e = one_more read c.args.turns c.loop-turn._turn c.loop-turn-test.true c.loop-turn.invariant.1 in
    let comma = c.if-not-take_comma.ensures.taken refl in
    let higher = c.max-height.ensures ∙ highest c.loop-turn.height c.in_ok-one.one.height in
    let low = c.in_ok-one.ensures.low in (
      omega (arith, higher, low, c.loop-turn.invariant.0),
      rw (c.in_ok-push.ensures.ok, higher)
          (e ∙ exprs_go n (spec.expression n) c.loop-turn.trees c.loop-turn.height _ c.loop-turn.tokens c.expression.new.tokens
          c.take_comma.new.self _ _ c.in_ok-one.ensures.reads comma),
    )

pub returns-clause-reads : goal.returns-clause-reads
returns-clause-reads g c _ =
    let n = c.args.self.now.grammar.depth in
    let read = λ (m : ℕ). spec.prepended c.loop-turn.trees c.loop-turn.height (spec.exprs n (spec.expression n) m c.loop-turn.tokens) in
    no_more read c.args.turns c.loop-turn._turn c.loop-turn-test.false c.loop-turn.invariant.1
    ∙ exprs_over n (spec.expression n) c.loop-turn.trees c.loop-turn.height c.loop-turn.tokens
