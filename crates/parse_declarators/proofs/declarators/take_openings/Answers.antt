use Rattle.std.proofs.Common.{arith}
use Rattle.parse_declarators.proofs.Openings.{inside_begins, inside_goes, inside_named, openings_given}
use Rattle.parse_declarators.proofs.declarators.take_openings.Goals as goal

pub loop-outer-init : goal.loop-outer-init
loop-outer-init c = record {
  on = c.in_ok-inmost.ensures.on;
  inside = λ n. rw c.new-outer.ensures (inside_begins n _ _ _ c.in_ok-inmost.ensures.reads c.in_ok-inmost.ensures.on);
}

pub loop-outer-preserved : goal.loop-outer-preserved
loop-outer-preserved c = record {
  on = omega (arith, c.loop-outer.invariant.on, c.take_left_paren.ensures.on, c.in_ok-inmost-2.ensures.on);
  inside = λ n. rw c.in_ok-push.ensures.ok
      (inside_goes n _ c.loop-outer.outer c.loop-outer.inmost c.in_ok-inmost-2.inmost c.loop-outer.tokens c.take_left_paren.new.tokens
      c.take_opening-in-loop-outer.new.tokens
      c.take_left_paren.result c.take_left_paren.ensures.reads c.loop-outer-test.true c.in_ok-inmost-2.ensures.reads
      c.in_ok-inmost-2.ensures.on (c.loop-outer.invariant.inside n));
}

pub returns-clause-reads : goal.returns-clause-reads
returns-clause-reads c =
    openings_given c.args.tokens.now c.take_left_paren.new.tokens c.take_name-name.new.tokens c.loop-outer.outer c.loop-outer.inmost
    (λ n. inside_named n _ c.loop-outer.outer c.loop-outer.inmost c.loop-outer.tokens c.take_left_paren.new.tokens c.take_left_paren.result
    c.take_left_paren.ensures.reads
    c.loop-outer-test.false (c.loop-outer.invariant.inside n))
    c.take_name-name.result c.both.result c.take_name-name.ensures.reads c.both.ensures.ok c.both.ensures.err
