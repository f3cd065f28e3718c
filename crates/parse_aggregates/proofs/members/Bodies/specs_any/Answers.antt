use Rattle.std.proofs.Common.{◌+◌, ◌-◌, max, [], ◌∷◌, ◌++◌, ◌∙◌, ap, sym, rules, arith}
use Rattle.parse_reading.specs.Reading.{found, specs_any}
use Rattle.parse_reading.specs.ReadingDeclarators.{outer_spec}
use Rattle.parse_leaves.specs.Counts.{tally_of}
use Rattle.parse_leaves.proofs.SpecSteps.{behind_specs, specs_fail, specs_end, specs_go, specs_over}
use Rattle.parse_tokens.proofs.Turns.{highest, one_more, no_more}
use Rattle.parse_tokens.proofs.Binds.{none_along}
use Rattle.parse_aggregates.proofs.members.Bodies.specs_any.Goals as goal

pub returns-in_err-one-clause-reads : goal.returns-in_err-one-clause-reads
returns-in_err-one-clause-reads g c =
    let turn = one_more (λ m. behind_specs c.loop-turn.list.specs (tally_of c.loop-turn.list.tally) c.loop-turn.height
    (specs_any (outer_spec c.args.self.now.depth) m c.loop-turn.tokens))
    c.args.turns c.loop-turn._turn c.loop-turn-test.true c.loop-turn.invariant.same in
    let fails = none_along turn (specs_fail c.loop-turn.list.specs (tally_of c.loop-turn.list.tally) c.loop-turn.height
    (outer_spec c.args.self.now.depth) _ c.loop-turn.tokens) in
    search (rules, fails)

pub returns-then-not-begins_spec-clause-reads : goal.returns-then-not-begins_spec-clause-reads
returns-then-not-begins_spec-clause-reads g c =
    let turn = one_more (λ m. behind_specs c.loop-turn.list.specs (tally_of c.loop-turn.list.tally) c.loop-turn.height
    (specs_any (outer_spec c.args.self.now.depth) m c.loop-turn.tokens))
    c.args.turns c.loop-turn._turn c.loop-turn-test.true c.loop-turn.invariant.same in
    rw (c.in_ok-push.ensures.specs, c.in_ok-push.ensures.tally, c.max-height.ensures ∙ highest c.loop-turn.height c.in_ok-one.one.height)
    (turn ∙ specs_end c.loop-turn.list.specs (tally_of c.loop-turn.list.tally) c.loop-turn.height
    (found (record { spec = c.in_ok-one.one.tree.spec; tally = tally_of c.in_ok-one.one.tree.tally }) c.in_ok-one.one.height
    c.one.new.tokens)
    (outer_spec c.args.self.now.depth) (c.args.turns - (c.loop-turn._turn + 1)) c.loop-turn.tokens c.in_ok-one.ensures.reads
    (sym c.begins_spec.ensures ∙ c.if-not-begins_spec.true))

pub loop-turn-preserved : goal.loop-turn-preserved
loop-turn-preserved g c =
    let turn = one_more (λ m. behind_specs c.loop-turn.list.specs (tally_of c.loop-turn.list.tally) c.loop-turn.height
    (specs_any (outer_spec c.args.self.now.depth) m c.loop-turn.tokens))
    c.args.turns c.loop-turn._turn c.loop-turn-test.true c.loop-turn.invariant.same in
    let higher = c.max-height.ensures ∙ highest c.loop-turn.height c.in_ok-one.one.height in
    record {
      on = omega (arith, c.loop-turn.invariant.on, c.in_ok-one.ensures.on);
      low = omega (arith, higher, c.loop-turn.invariant.on, c.loop-turn.invariant.low, c.in_ok-one.ensures.low, c.in_ok-one.ensures.on);
      small = rw c.in_ok-push.ensures.total (omega (arith, c.loop-turn.invariant.small, c.in_ok-one.ensures.small));
      same = rw (c.in_ok-push.ensures.specs, higher)
          (turn ∙ specs_go c.loop-turn.list.specs (tally_of c.loop-turn.list.tally) c.loop-turn.height
          (found (record { spec = c.in_ok-one.one.tree.spec; tally = tally_of c.in_ok-one.one.tree.tally }) c.in_ok-one.one.height
          c.one.new.tokens)
          (outer_spec c.args.self.now.depth) (c.args.turns - (c.loop-turn._turn + 1)) c.loop-turn.tokens c.in_ok-one.ensures.reads
          (sym c.begins_spec.ensures ∙ c.if-not-begins_spec.false)
          ∙ ap (λ a. behind_specs (c.loop-turn.list.specs ++ c.in_ok-one.one.tree.spec ∷ []) a
          (max c.loop-turn.height c.in_ok-one.one.height)
          (specs_any (outer_spec c.args.self.now.depth) (c.args.turns - (c.loop-turn._turn + 1)) c.one.new.tokens))
          (sym c.in_ok-push.ensures.tally));
    }

pub returns-clause-reads : goal.returns-clause-reads
returns-clause-reads g c =
    λ _. no_more (λ m. behind_specs c.loop-turn.list.specs (tally_of c.loop-turn.list.tally) c.loop-turn.height
    (specs_any (outer_spec c.args.self.now.depth) m c.loop-turn.tokens))
    c.args.turns c.loop-turn._turn c.loop-turn-test.false c.loop-turn.invariant.same
    ∙ specs_over c.loop-turn.list.specs (tally_of c.loop-turn.list.tally) c.loop-turn.height
    (outer_spec c.args.self.now.depth) c.loop-turn.tokens
