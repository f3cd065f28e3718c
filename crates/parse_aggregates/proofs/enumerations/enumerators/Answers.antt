use Rattle.std.proofs.Common.{◌∙◌, rules, arith}
use Rattle.parse_reading.specs.Reading.{found}
use Rattle.parse_tokens.proofs.Turns.{highest}
use Rattle.parse_lists.proofs.Lists.{item_fails, end_fails, turn_ends, turn_goes, turns_over}
use Rattle.parse_aggregates.proofs.Items.{enumerators_are}
use Rattle.parse_aggregates.proofs.enumerations.enumerators.Goals as goal

pub returns-in_err-next-clause-reads : goal.returns-in_err-next-clause-reads
returns-in_err-next-clause-reads c =
    let fails = item_fails (enumerators_are c.args.depth) c.loop-turn.trees c.loop-turn.height c.left-turns.result c.loop-turn._turn
    c.loop-turn.tokens c.loop-turn-test.true c.loop-turn.invariant.same in
    search (rules, fails)

pub returns-in_err-take_enumerators_end-clause-reads : goal.returns-in_err-take_enumerators_end-clause-reads
returns-in_err-take_enumerators_end-clause-reads c =
    let fails = end_fails (enumerators_are c.args.depth) c.loop-turn.trees c.loop-turn.height c.left-turns.result c.loop-turn._turn
    c.loop-turn.tokens c.loop-turn-test.true c.loop-turn.invariant.same
    (found c.in_ok-next.next.tree c.in_ok-next.next.height c.enumerator.new.tokens) c.in_ok-next.ensures.reads in
    search (rules, fails)

pub returns-then-branch-clause-reads : goal.returns-then-branch-clause-reads
returns-then-branch-clause-reads c =
    rw (c.finish.ensures, c.in_ok-push.ensures.ok, c.max-height.ensures ∙ highest c.loop-turn.height c.in_ok-next.next.height)
    (turn_ends (enumerators_are c.args.depth) c.loop-turn.trees c.loop-turn.height c.left-turns.result c.loop-turn._turn c.loop-turn.tokens
    c.loop-turn-test.true c.loop-turn.invariant.same
    (found c.in_ok-next.next.tree c.in_ok-next.next.height c.enumerator.new.tokens) c.in_ok-next.ensures.reads
    c.in_ok-take_enumerators_end.field-0 c.take_enumerators_end.new.tokens c.in_ok-take_enumerators_end.ensures.reads c.if-branch.true)

pub loop-turn-preserved : goal.loop-turn-preserved
loop-turn-preserved c = record {
  on = omega (arith, c.loop-turn.invariant.on, c.in_ok-next.ensures.on, c.in_ok-take_enumerators_end.ensures.on);
  low =
      omega (
        arith,
        c.max-height.ensures ∙ highest c.loop-turn.height c.in_ok-next.next.height,
        c.loop-turn.invariant.low,
        c.in_ok-next.ensures.low,
        c.in_ok-take_enumerators_end.ensures.on,
      );
  same = rw (c.in_ok-push.ensures.ok, c.max-height.ensures ∙ highest c.loop-turn.height c.in_ok-next.next.height)
      (turn_goes (enumerators_are c.args.depth) c.loop-turn.trees c.loop-turn.height c.left-turns.result c.loop-turn._turn
      c.loop-turn.tokens c.loop-turn-test.true c.loop-turn.invariant.same
      (found c.in_ok-next.next.tree c.in_ok-next.next.height c.enumerator.new.tokens) c.in_ok-next.ensures.reads
      c.in_ok-take_enumerators_end.field-0 c.take_enumerators_end.new.tokens c.in_ok-take_enumerators_end.ensures.reads
      c.if-branch.false);
}

pub returns-clause-reads : goal.returns-clause-reads
returns-clause-reads c =
    λ _. turns_over (enumerators_are c.args.depth) c.loop-turn.trees c.loop-turn.height c.left-turns.result c.loop-turn._turn
    c.loop-turn.tokens c.loop-turn-test.false c.loop-turn.invariant.same
