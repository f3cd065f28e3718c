-- The heap is one without the block.
use Rattle.std.proofs.Common.{ap, sym, ◌∙◌, refl, arith}
use Rattle.bm_heap.specs.Heaps.{heap_size, give_to, block_at}
use Rattle.bm_heap.specs.View.{heap_of}
use Rattle.bm_heap.proofs.Kept.{within_region, few, block_aligned, give_kept}
use Rattle.bm_heap.proofs.heap.Heap.give.Goals as goal

pub overflow_cast-size : goal.overflow_cast-size
overflow_cast-size c =
    let found = ap (λ s. block_at s c.args.place) c.self.view_is ∙ sym c.in-Some.ensures.size in
    let inside = c.self.invariant.heap.inside c.args.place c.in-Some.size found in
    omega (arith, inside)

pub block_bytes-requires : goal.block_bytes-requires
block_bytes-requires c =
    let found = ap (λ s. block_at s c.args.place) c.self.view_is ∙ sym c.in-Some.ensures.size in
    let inside = c.self.invariant.heap.inside c.args.place c.in-Some.size found in
    omega (arith, inside)

pub give_to-requires-clause-small : goal.give_to-requires-clause-small
give_to-requires-clause-small c = λ k d below. within_region 0 heap_size c.self.inside.holes.items c.self.invariant.heap.ordered k d below

pub give_to-requires-clause-room : goal.give_to-requires-clause-room
give_to-requires-clause-room c =
    let most = few c.self.inside.holes.items c.self.invariant.heap.ordered c.self.invariant.aligned in
    let len = c.self.inside.holes.ok.0 in
    let room = c.self.invariant.room in
    omega (arith, most, len, room)

pub invariant_of-self : goal.invariant_of-self
invariant_of-self c =
    let h = c.self.inside in
    let found = ap (λ s. block_at s c.args.place) c.self.view_is ∙ sym c.in-Some.ensures.size in
    let len = h.sizes.ok.0 in
    let places = c.self.invariant.places in
    let items = c.give_to.ensures.holes ∙ ap (λ n. give_to c.args.place n h.holes.items) c.block_bytes.ensures in
    let kept = give_kept h.holes.items c.give_to.new.holes.items h.sizes.items c.in-Some.size c.args.place 0 c.self.invariant.heap
    c.self.invariant.aligned (omega (arith, len, places)) found
    (block_aligned (heap_of h) c.args.place c.in-Some.size found) items refl in
    record {
      heap = kept.0;
      aligned = kept.1;
      places = places;
      room = let room = c.give_to.ensures.room in let most = c.self.invariant.room in omega (arith, room, most);
    }
