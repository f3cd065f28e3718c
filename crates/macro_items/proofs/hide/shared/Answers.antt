use Rattle.std.proofs.Common.{◌∙◌, ap}
use Rattle.macro_items.specs.HideSets.{names}
use Rattle.macro_items.proofs.Merging.{dropped, pushed, rest_ascends, skips_first, takes_both, skips_second, first_done, second_done}
use Rattle.macro_items.proofs.hide.shared.Goals.{then-loop-i-test+else-j-b, else-loop-i-test}
use Rattle.macro_items.proofs.hide.shared.Goals as goal

pub returns : goal.returns
returns c =
    elim c.loop-i-test.branch [
      | then-loop-i-test+else-j-b w ↦ second_done _ c.args.a.now c.args.b.now _ c.loop-i.i c.loop-i.j
          c.loop-i.invariant.same w.if-j-b.false
      | else-loop-i-test w ↦ first_done _ c.args.a.now c.args.b.now _ c.loop-i.i c.loop-i.j
          c.loop-i.invariant.same w.loop-i-test.false
    ]

pub loop-i-preserved-in-Less : goal.loop-i-preserved-in-Less
loop-i-preserved-in-Less c =
    let x = dropped c.args.a.now c.loop-i.i _ c.loop-i-test.true in
    let y = dropped c.args.b.now c.loop-i.j _ c.if-j-b.true in
    record {
      first = rest_ascends c.args.a.now c.loop-i.i c.loop-i-test.true c.loop-i.invariant.first;
      second = c.loop-i.invariant.second;
      same = skips_first _ _ _ _ _ _ _ _ x y c.loop-i.invariant.first c.loop-i.invariant.second c.loop-i.invariant.same c.in-Less.ensures;
    }

pub loop-i-preserved-in-Equal : goal.loop-i-preserved-in-Equal
loop-i-preserved-in-Equal c =
    let x = dropped c.args.a.now c.loop-i.i _ c.loop-i-test.true in
    let y = dropped c.args.b.now c.loop-i.j _ c.if-j-b.true in
    let more = ap names c.in_ok-push-in-Equal.ensures.ok ∙ pushed c.loop-i.both.items _ in
    record {
      first = rest_ascends c.args.a.now c.loop-i.i c.loop-i-test.true c.loop-i.invariant.first;
      second = rest_ascends c.args.b.now c.loop-i.j c.if-j-b.true c.loop-i.invariant.second;
      same =
          rw more (takes_both _ _ _ _ _ _ _ _ x y c.loop-i.invariant.first c.loop-i.invariant.second c.loop-i.invariant.same
          c.in-Equal.ensures);
    }

pub loop-i-preserved : goal.loop-i-preserved
loop-i-preserved c =
    let x = dropped c.args.a.now c.loop-i.i _ c.loop-i-test.true in
    let y = dropped c.args.b.now c.loop-i.j _ c.if-j-b.true in
    record {
      first = c.loop-i.invariant.first;
      second = rest_ascends c.args.b.now c.loop-i.j c.if-j-b.true c.loop-i.invariant.second;
      same =
          skips_second _ _ _ _ _ _ _ _ x y c.loop-i.invariant.first c.loop-i.invariant.second c.loop-i.invariant.same c.in-Greater.ensures;
    }
