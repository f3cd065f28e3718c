-- No block is past the region.
use Rattle.std.proofs.Common.{◌≡◌, ◌≤◌, None, sym, subst, arith}
use Rattle.bm_heap.specs.Heaps.{heap_size, block_at, IsHeap}
use Rattle.bm_heap.proofs.Kept.{block_past}
use Rattle.bm_heap.proofs.heap.Heap.size_at.Goals as goal

pub returns-then-place-ge-HEAP_SIZE-clause-size : goal.returns-then-place-ge-HEAP_SIZE-clause-size
returns-then-place-ge-HEAP_SIZE-clause-size c =
    let h = c.self.inside in
    let past : heap_size ≤ c.args.place = omega (arith, c.if-place-ge-HEAP_SIZE.true) in
    let len = h.sizes.ok.0 in
    let places = c.self.invariant.places in
    subst (λ s. None ≡ block_at s c.args.place) c.self.view_is (sym (block_past h.holes.items h.sizes.items c.args.place (omega
    (arith, len, places)) past))

pub returns-then-place-ge-HEAP_SIZE-clause-whole : goal.returns-then-place-ge-HEAP_SIZE-clause-whole
returns-then-place-ge-HEAP_SIZE-clause-whole c = subst (λ s. IsHeap s.holes (block_at s)) c.self.view_is c.self.invariant.heap

pub returns-then-place-ne0-clause-whole : goal.returns-then-place-ne0-clause-whole
returns-then-place-ne0-clause-whole c = subst (λ s. IsHeap s.holes (block_at s)) c.self.view_is c.self.invariant.heap

pub returns-then-size-eq0-clause-whole : goal.returns-then-size-eq0-clause-whole
returns-then-size-eq0-clause-whole c = subst (λ s. IsHeap s.holes (block_at s)) c.self.view_is c.self.invariant.heap

pub returns-clause-whole : goal.returns-clause-whole
returns-clause-whole c = subst (λ s. IsHeap s.holes (block_at s)) c.self.view_is c.self.invariant.heap
