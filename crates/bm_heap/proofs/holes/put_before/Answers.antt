-- The bytes are one with the hole that they touch.
use Rattle.std.proofs.Common.{arith}
use Rattle.bm_heap.proofs.Edits.{put_here}
use Rattle.bm_heap.proofs.holes.put_before.Goals as goal

pub returns-then-place-count-clause-holes : goal.returns-then-place-count-clause-holes
returns-then-place-count-clause-holes c =
    put_here c.args.holes.now.items c.args.at c.args.place c.args.count c.index-next.result.now (omega
    (arith, c.if-at-len.true, c.len.ensures, c.args.holes.now.ok)) c.index-next.ensures
    c.if-place-count.true
