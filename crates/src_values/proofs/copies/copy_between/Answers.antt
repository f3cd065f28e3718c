use Rattle.std.proofs.Common.{◌+◌, take, drop, sym, subst, ◌∙◌, arith}
use Rattle.src_values.proofs.Putting.{Puts, puts_next, copied_at, copied_long}
use Rattle.src_values.proofs.copies.copy_between.Goals as goal

pub loop-i-preserved : goal.loop-i-preserved
loop-i-preserved c =
    let long = copied_long c.args.from.now.cells c.args.start c.args.count c.requires.source in
    let less = c.loop-i-test.true in
    let room = c.requires.target in
    subst (λ now. Puts c.args.to.now now c.args.at (c.loop-i.i + 1) (take c.args.count (drop c.args.start c.args.from.now.cells)))
    (sym c.put.ensures)
    (puts_next c.args.to.now c.loop-i.to c.args.at c.loop-i.i (take c.args.count (drop c.args.start c.args.from.now.cells))
    c.cell-cell.result
    (omega (arith, long, less)) (omega (arith, long, room)) (c.cell-cell.ensures
    ∙ sym (copied_at c.args.from.now.cells c.args.start c.args.count c.loop-i.i less)) c.loop-i.invariant)
