use Rattle.std.proofs.Common.{◌+◌, take, drop, sym, subst, ◌∙◌, arith}
use Rattle.src_values.proofs.Putting.{Puts, SameFrom, puts_next, same_from_next, copied_at, copied_long}
use Rattle.src_values.proofs.copies.copy_up.Goals as goal

pub loop-i-preserved : goal.loop-i-preserved
loop-i-preserved c =
    let long = copied_long c.args.object.now.cells c.args.from c.args.count c.requires.source in
    let less = c.loop-i-test.true in
    let source = c.requires.source in
    let before = c.requires.before in
    let read = c.cell-cell.ensures ∙ c.loop-i.invariant.same (c.args.from + c.loop-i.i) (omega arith)
    ∙ sym (copied_at c.args.object.now.cells c.args.from c.args.count c.loop-i.i less) in
    let puts = puts_next c.args.object.now c.loop-i.object c.args.to c.loop-i.i
    (take c.args.count (drop c.args.from c.args.object.now.cells)) c.cell-cell.result
    (omega (arith, long, less)) (omega (arith, long, source, before)) read c.loop-i.invariant.puts in
    let same = same_from_next c.args.object.now c.loop-i.object (c.args.from + c.loop-i.i) (c.args.to + c.loop-i.i) c.cell-cell.result
    (omega (arith, before)) c.loop-i.invariant.same in
    record {
      puts = subst (λ now. Puts c.args.object.now now c.args.to (c.loop-i.i + 1)
          (take c.args.count (drop c.args.from c.args.object.now.cells))) (sym c.put.ensures) puts;
      same = subst (SameFrom (c.args.from + (c.loop-i.i + 1)) c.args.object.now) (sym c.put.ensures) (λ k b. same k (omega (arith, b)));
    }
