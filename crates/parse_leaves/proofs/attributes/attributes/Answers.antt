use Rattle.std.proofs.Common.{◌≡◌, ◌∙◌, None, refl, rules}
use Rattle.parse_reading.specs.Reading as spec
use Rattle.parse_tokens.proofs.Turns.{one_more, no_more}
use Rattle.parse_leaves.proofs.AttributeSteps.{before, attributes_fail, attributes_go, attributes_open, attributes_half, attributes_end, attributes_over}
use Rattle.parse_leaves.proofs.attributes.attributes.Goals as goal

pub returns-in_err-attribute : goal.returns-in_err-attribute
returns-in_err-attribute c =
    let e = one_more (λ n. before c.loop-turn.all (spec.attributes n c.loop-turn.tokens)) c.args.turns c.loop-turn._turn
    c.loop-turn-test.true c.loop-turn.invariant in
    let fails : spec.attribute c.loop-turn.tokens ≡ None → spec.attributes c.args.turns c.args.tokens.now ≡ None = λ f. e
    ∙ attributes_fail c.loop-turn.all _ c.loop-turn.tokens f in
    search rules

pub returns-in_err-expect_right_paren : goal.returns-in_err-expect_right_paren
returns-in_err-expect_right_paren c =
    let e = one_more (λ n. before c.loop-turn.all (spec.attributes n c.loop-turn.tokens)) c.args.turns c.loop-turn._turn
    c.loop-turn-test.true c.loop-turn.invariant in
    let other = c.if-not-take_comma.ensures.other refl in
    let fails : spec.after_right_paren c.take_comma.new.self ≡ None → spec.attributes c.args.turns c.args.tokens.now ≡ None =
    λ f. e ∙ attributes_open c.loop-turn.all _ c.loop-turn.tokens _ c.attribute.new.tokens c.in_ok-attribute.ensures other.0
    (rw other.1 at f) in
    search rules

pub returns-in_err-expect_right_paren-2 : goal.returns-in_err-expect_right_paren-2
returns-in_err-expect_right_paren-2 c =
    let e = one_more (λ n. before c.loop-turn.all (spec.attributes n c.loop-turn.tokens)) c.args.turns c.loop-turn._turn
    c.loop-turn-test.true c.loop-turn.invariant in
    let other = c.if-not-take_comma.ensures.other refl in
    let first = rw other.1 at c.in_ok-expect_right_paren.ensures in
    let fails : spec.after_right_paren c.expect_right_paren.new.self ≡ None → spec.attributes c.args.turns c.args.tokens.now ≡ None =
    λ f. e ∙ attributes_half c.loop-turn.all _ c.loop-turn.tokens _ c.attribute.new.tokens c.in_ok-attribute.ensures other.0
    c.expect_right_paren.new.self first f in
    search rules

pub returns-then-not-take_comma : goal.returns-then-not-take_comma
returns-then-not-take_comma c =
    let e = one_more (λ n. before c.loop-turn.all (spec.attributes n c.loop-turn.tokens)) c.args.turns c.loop-turn._turn
    c.loop-turn-test.true c.loop-turn.invariant in
    let other = c.if-not-take_comma.ensures.other refl in
    let first = rw other.1 at c.in_ok-expect_right_paren.ensures in
    let grown = c.in_ok-push.ensures.ok in
    rw grown (e ∙ attributes_end c.loop-turn.all _ c.loop-turn.tokens _ c.attribute.new.tokens c.in_ok-attribute.ensures other.0 _ _ first
    c.in_ok-expect_right_paren-2.ensures)

pub loop-turn-preserved : goal.loop-turn-preserved
loop-turn-preserved c =
    let e = one_more (λ n. before c.loop-turn.all (spec.attributes n c.loop-turn.tokens)) c.args.turns c.loop-turn._turn
    c.loop-turn-test.true c.loop-turn.invariant in
    let comma = c.if-not-take_comma.ensures.taken refl in
    let grown = c.in_ok-push.ensures.ok in
    rw grown (e ∙ attributes_go c.loop-turn.all _ c.loop-turn.tokens _ c.attribute.new.tokens c.take_comma.new.self
    c.in_ok-attribute.ensures comma)

pub returns : goal.returns
returns c _ =
    no_more (λ n. before c.loop-turn.all (spec.attributes n c.loop-turn.tokens)) c.args.turns c.loop-turn._turn c.loop-turn-test.false
    c.loop-turn.invariant
    ∙ attributes_over c.loop-turn.all c.loop-turn.tokens
