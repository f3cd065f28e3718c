use Rattle.std.proofs.Common.{◌∙◌, Some, ap, rules, arith}
use Rattle.parse_reading.specs.Reading.{found}
use Rattle.parse_tokens.proofs.Turns.{highest}
use Rattle.parse_lists.proofs.Lists.{item_fails, turn_ends, turn_goes, turns_over}
use Rattle.parse_aggregates.proofs.Items.{members_are}
use Rattle.parse_aggregates.proofs.members.Bodies.members.Goals as goal

pub returns-in_err-next-clause-reads : goal.returns-in_err-next-clause-reads
returns-in_err-next-clause-reads g c =
    let fails = item_fails (members_are c.args.self.now.depth) c.loop-turn.trees c.loop-turn.height c.left-turns.result c.loop-turn._turn
    c.loop-turn.tokens c.loop-turn-test.true c.loop-turn.invariant.same in
    search (rules, fails)

pub returns-then-take_body_end-clause-reads : goal.returns-then-take_body_end-clause-reads
returns-then-take_body_end-clause-reads g c =
    rw (c.finish.ensures, c.in_ok-push.ensures.ok, c.max-height.ensures ∙ highest c.loop-turn.height c.in_ok-next.next.height)
    (turn_ends (members_are c.args.self.now.depth) c.loop-turn.trees c.loop-turn.height c.left-turns.result c.loop-turn._turn
    c.loop-turn.tokens c.loop-turn-test.true c.loop-turn.invariant.same
    (found c.in_ok-next.next.tree c.in_ok-next.next.height c.member_decl.new.tokens) c.in_ok-next.ensures.reads c.take_body_end.result
    c.take_body_end.new.tokens (ap Some c.take_body_end.ensures.reads) c.if-take_body_end.true)

pub loop-turn-preserved : goal.loop-turn-preserved
loop-turn-preserved g c = record {
  on = omega (arith, c.loop-turn.invariant.on, c.in_ok-next.ensures.on, c.take_body_end.ensures.on);
  low =
      omega (
        arith,
        c.max-height.ensures ∙ highest c.loop-turn.height c.in_ok-next.next.height,
        c.loop-turn.invariant.on,
        c.loop-turn.invariant.low,
        c.in_ok-next.ensures.low,
        c.in_ok-next.ensures.on,
        c.take_body_end.ensures.on,
      );
  same = rw (c.in_ok-push.ensures.ok, c.max-height.ensures ∙ highest c.loop-turn.height c.in_ok-next.next.height)
      (turn_goes (members_are c.args.self.now.depth) c.loop-turn.trees c.loop-turn.height c.left-turns.result c.loop-turn._turn
      c.loop-turn.tokens c.loop-turn-test.true c.loop-turn.invariant.same
      (found c.in_ok-next.next.tree c.in_ok-next.next.height c.member_decl.new.tokens) c.in_ok-next.ensures.reads c.take_body_end.result
      c.take_body_end.new.tokens (ap Some c.take_body_end.ensures.reads) c.if-take_body_end.false);
}

pub returns-clause-reads : goal.returns-clause-reads
returns-clause-reads g c =
    λ _. turns_over (members_are c.args.self.now.depth) c.loop-turn.trees c.loop-turn.height c.left-turns.result c.loop-turn._turn
    c.loop-turn.tokens c.loop-turn-test.false c.loop-turn.invariant.same
