use Rattle.std.proofs.Common.{◌∙◌, rules, arith}
use Rattle.parse_reading.specs.ReadingStatements.{initialiser}
use Rattle.parse_tokens.proofs.Turns.{highest}
use Rattle.parse_lists.proofs.Lists.{item_fails, end_fails, turn_ends, turn_goes, turns_over}
use Rattle.parse_initialisers.proofs.Lists.{inits_are}
use Rattle.parse_initialisers.proofs.initialisers.Initialisers.items.Goals as goal

pub returns-in_err-next-clause-reads : goal.returns-in_err-next-clause-reads
returns-in_err-next-clause-reads g c =
    let fails = item_fails (inits_are (initialiser c.args.self.now.depth)) c.loop-turn.trees c.loop-turn.height c.left-turn-end.result
    c.loop-turn._turn c.loop-turn.tokens c.loop-turn-test.true c.loop-turn.invariant.reads in
    search (rules, fails)

pub returns-in_err-take_enumerators_end-clause-reads : goal.returns-in_err-take_enumerators_end-clause-reads
returns-in_err-take_enumerators_end-clause-reads g c =
    let fails = end_fails (inits_are (initialiser c.args.self.now.depth)) c.loop-turn.trees c.loop-turn.height c.left-turn-end.result
    c.loop-turn._turn c.loop-turn.tokens c.loop-turn-test.true c.loop-turn.invariant.reads _ c.in_ok-next.ensures.reads in
    search (rules, fails)

pub returns-then-branch-clause-reads : goal.returns-then-branch-clause-reads
returns-then-branch-clause-reads g c =
    rw (c.finish.ensures, c.in_ok-push.ensures.ok, c.max-height.ensures ∙ highest c.loop-turn.height c.in_ok-next.next.height)
    (turn_ends (inits_are (initialiser c.args.self.now.depth)) c.loop-turn.trees c.loop-turn.height c.left-turn-end.result c.loop-turn._turn
    c.loop-turn.tokens c.loop-turn-test.true c.loop-turn.invariant.reads _ c.in_ok-next.ensures.reads _ _
    c.in_ok-take_enumerators_end.ensures.reads c.if-branch.true)

pub loop-turn-preserved : goal.loop-turn-preserved
loop-turn-preserved g c =
    let higher = c.max-height.ensures ∙ highest c.loop-turn.height c.in_ok-next.next.height in
    record {
      low = omega (arith, higher, c.in_ok-next.ensures.low, c.loop-turn.invariant.low);
      reads = rw (c.in_ok-push.ensures.ok, higher)
          (turn_goes (inits_are (initialiser c.args.self.now.depth)) c.loop-turn.trees c.loop-turn.height c.left-turn-end.result
          c.loop-turn._turn c.loop-turn.tokens c.loop-turn-test.true c.loop-turn.invariant.reads _ c.in_ok-next.ensures.reads _ _
          c.in_ok-take_enumerators_end.ensures.reads c.if-branch.false);
    }

pub returns-clause-reads : goal.returns-clause-reads
returns-clause-reads g c =
    λ _. turns_over (inits_are (initialiser c.args.self.now.depth)) c.loop-turn.trees c.loop-turn.height c.left-turn-end.result
    c.loop-turn._turn c.loop-turn.tokens c.loop-turn-test.false c.loop-turn.invariant.reads
