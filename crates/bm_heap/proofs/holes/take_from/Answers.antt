-- The hole that holds the bytes is cut in its place.
use Rattle.std.proofs.Common.{◌∙◌, ap, arith}
use Rattle.std.specs.Prelude.{vec_items, vec_len}
use Rattle.bm_heap.specs.Heaps.{take_from}
use Rattle.bm_heap.proofs.Edits.{cut_here}
use Rattle.bm_heap.proofs.holes.take_from.Goals as goal

pub returns-else-hole-count-clause-rest : goal.returns-else-hole-count-clause-rest
returns-else-hole-count-clause-rest c =
    let same = ap (λ v. vec_len v) c.loop-i.invariant.same in
    cut_here c.loop-i.holes.items c.loop-i.i c.args.count c.index-hole.result.now (omega
    (arith, c.loop-i.holes.ok, same, c.len-i-end.ensures)) c.index-hole.ensures
    c.if-count-hole.true c.if-hole-count.false ∙ c.loop-i.invariant.rest
    ∙ ap (λ v. take_from c.args.count (vec_items v)) c.loop-i.invariant.same
