use Rattle.std.proofs.Common.{◌∙◌, rules, arith}
use Rattle.parse_reading.specs.Reading.{found}
use Rattle.parse_tokens.proofs.Turns.{highest}
use Rattle.parse_lists.proofs.Lists.{item_fails, end_fails, turn_ends, turn_goes, turns_over}
use Rattle.parse_declarators.proofs.Items.{params_are}
use Rattle.parse_declarators.proofs.params.Declarators.params_some.Goals as goal

pub returns-in_err-param-clause-reads : goal.returns-in_err-param-clause-reads
returns-in_err-param-clause-reads g c =
    let fails = item_fails (params_are c.args.self.now.depth) c.loop-turn.trees c.loop-turn.height c.left-turns.result c.loop-turn._turn
    c.loop-turn.tokens c.loop-turn-test.true c.loop-turn.invariant.same in
    search (rules, fails)

pub returns-in_err-take_params_end-clause-reads : goal.returns-in_err-take_params_end-clause-reads
returns-in_err-take_params_end-clause-reads g c =
    let fails = end_fails (params_are c.args.self.now.depth) c.loop-turn.trees c.loop-turn.height c.left-turns.result c.loop-turn._turn
    c.loop-turn.tokens c.loop-turn-test.true c.loop-turn.invariant.same
    (found c.in_ok-param.param.tree c.in_ok-param.param.height c.param.new.tokens) c.in_ok-param.ensures.reads in
    search (rules, fails)

pub returns-then-branch-clause-reads : goal.returns-then-branch-clause-reads
returns-then-branch-clause-reads g c =
    rw (c.finish.ensures, c.in_ok-push.ensures.ok, c.max-height.ensures ∙ highest c.loop-turn.height c.in_ok-param.param.height)
    (turn_ends (params_are c.args.self.now.depth) c.loop-turn.trees c.loop-turn.height c.left-turns.result c.loop-turn._turn
    c.loop-turn.tokens c.loop-turn-test.true c.loop-turn.invariant.same
    (found c.in_ok-param.param.tree c.in_ok-param.param.height c.param.new.tokens) c.in_ok-param.ensures.reads
    c.in_ok-take_params_end.field-0 c.take_params_end.new.tokens c.in_ok-take_params_end.ensures.reads c.if-branch.true)

pub loop-turn-preserved : goal.loop-turn-preserved
loop-turn-preserved g c = record {
  on = omega (arith, c.loop-turn.invariant.on, c.in_ok-param.ensures.on, c.in_ok-take_params_end.ensures.on);
  low =
      omega (
        arith,
        c.max-height.ensures ∙ highest c.loop-turn.height c.in_ok-param.param.height,
        c.loop-turn.invariant.on,
        c.loop-turn.invariant.low,
        c.in_ok-param.ensures.low,
        c.in_ok-param.ensures.on,
        c.in_ok-take_params_end.ensures.on,
      );
  same = rw (c.in_ok-push.ensures.ok, c.max-height.ensures ∙ highest c.loop-turn.height c.in_ok-param.param.height)
      (turn_goes (params_are c.args.self.now.depth) c.loop-turn.trees c.loop-turn.height c.left-turns.result c.loop-turn._turn
      c.loop-turn.tokens c.loop-turn-test.true c.loop-turn.invariant.same
      (found c.in_ok-param.param.tree c.in_ok-param.param.height c.param.new.tokens) c.in_ok-param.ensures.reads
      c.in_ok-take_params_end.field-0 c.take_params_end.new.tokens c.in_ok-take_params_end.ensures.reads c.if-branch.false);
}

pub returns-clause-reads : goal.returns-clause-reads
returns-clause-reads g c =
    λ _. turns_over (params_are c.args.self.now.depth) c.loop-turn.trees c.loop-turn.height c.left-turns.result c.loop-turn._turn
    c.loop-turn.tokens c.loop-turn-test.false c.loop-turn.invariant.same
