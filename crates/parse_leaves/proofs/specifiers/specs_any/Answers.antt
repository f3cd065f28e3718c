use Rattle.std.proofs.Common.{◌≡◌, ◌∙◌, ℕ, None, sym, rules, arith}
use Rattle.parse_reading.specs.Reading as spec
use Rattle.parse_tokens.proofs.Turns.{one_more, no_more, highest}
use Rattle.parse_leaves.specs.Counts.{tally_of}
use Rattle.parse_leaves.proofs.SpecSteps.{behind_specs, specs_fail, specs_end, specs_go, specs_over, behind_same}
use Rattle.parse_leaves.proofs.specifiers.specs_any.Goals as goal

pub returns-in_err-one-clause-reads : goal.returns-in_err-one-clause-reads
returns-in_err-one-clause-reads c =
    let read = λ (n : ℕ). behind_specs c.loop-turn.list.specs (tally_of c.loop-turn.list.tally) c.loop-turn.height
    (spec.specs_any spec.plain_spec n c.loop-turn.tokens) in
    let e = one_more read c.args.turns c.loop-turn._turn c.loop-turn-test.true c.loop-turn.invariant.3 in
    let fails : spec.plain_spec c.loop-turn.tokens ≡ None → spec.specs_any spec.plain_spec c.args.turns c.args.tokens.now ≡ None =
    λ f. e ∙ specs_fail c.loop-turn.list.specs (tally_of c.loop-turn.list.tally) c.loop-turn.height spec.plain_spec _
    c.loop-turn.tokens f in
    search rules

pub returns-then-not-begins_spec-clause-reads : goal.returns-then-not-begins_spec-clause-reads
returns-then-not-begins_spec-clause-reads c =
    let read = λ (n : ℕ). behind_specs c.loop-turn.list.specs (tally_of c.loop-turn.list.tally) c.loop-turn.height
    (spec.specs_any spec.plain_spec n c.loop-turn.tokens) in
    let e = one_more read c.args.turns c.loop-turn._turn c.loop-turn-test.true c.loop-turn.invariant.3 in
    let grown = c.in_ok-push.ensures in
    let higher = c.max-height.ensures ∙ highest c.loop-turn.height c.in_ok-one.one.height in
    rw (grown.specs, grown.tally, higher)
    (e ∙ specs_end c.loop-turn.list.specs (tally_of c.loop-turn.list.tally) c.loop-turn.height _ spec.plain_spec _ c.loop-turn.tokens
    c.in_ok-one.ensures.reads (sym c.if-not-begins_spec.ensures))

pub loop-turn-preserved : goal.loop-turn-preserved
loop-turn-preserved c =
    let read = λ (n : ℕ). behind_specs c.loop-turn.list.specs (tally_of c.loop-turn.list.tally) c.loop-turn.height
    (spec.specs_any spec.plain_spec n c.loop-turn.tokens) in
    let e = one_more read c.args.turns c.loop-turn._turn c.loop-turn-test.true c.loop-turn.invariant.3 in
    let grown = c.in_ok-push.ensures in
    let higher = c.max-height.ensures ∙ highest c.loop-turn.height c.in_ok-one.one.height in
    let low = c.in_ok-one.ensures.low in
    let small = c.in_ok-one.ensures.small in
    let on = c.in_ok-one.ensures.on in
    let total = grown.total in let goes = specs_go c.loop-turn.list.specs
    (tally_of c.loop-turn.list.tally) c.loop-turn.height _ spec.plain_spec _ c.loop-turn.tokens c.in_ok-one.ensures.reads
    (sym c.if-not-begins_spec.ensures) in (
      omega arith,
      omega arith,
      omega arith,
      e ∙ goes
          ∙ behind_same _ c.push.new.self.specs _ (tally_of c.push.new.self.tally) _ c.max-height.result _ grown.specs grown.tally higher,
    )

pub returns-clause-reads : goal.returns-clause-reads
returns-clause-reads c _ =
    let read = λ (n : ℕ). behind_specs c.loop-turn.list.specs (tally_of c.loop-turn.list.tally) c.loop-turn.height
    (spec.specs_any spec.plain_spec n c.loop-turn.tokens) in
    no_more read c.args.turns c.loop-turn._turn c.loop-turn-test.false c.loop-turn.invariant.3
    ∙ specs_over c.loop-turn.list.specs (tally_of c.loop-turn.list.tally) c.loop-turn.height spec.plain_spec c.loop-turn.tokens
