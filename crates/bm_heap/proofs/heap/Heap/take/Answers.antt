-- The heap is one behind a request, and nothing changes where no hole fits.
use Rattle.std.proofs.Common.{◌≡◌, ◌+◌, ◌≤◌, Some, None, List, ap, sym, subst, ◌∙◌, arith}
use Rattle.bm_heap.specs.Heaps.{Heap, heap_size, block_bytes, first_fit, take_from, place_for, after_take, block_at, IsHeap}
use Rattle.bm_heap.specs.declared.holes.Hole.{Hole}
use Rattle.bm_heap.specs.View.{heap_of, Aligned}
use Rattle.bm_heap.proofs.Kept.{within_region, too_large, none_left, after_none, place_inside, place_found, take_kept}
use Rattle.bm_heap.proofs.heap.Heap.take.Goals as goal

pub returns-then-size-ge-HEAP_SIZE-clause-place : goal.returns-then-size-ge-HEAP_SIZE-clause-place
returns-then-size-ge-HEAP_SIZE-clause-place c =
    let n = c.args.size in
    let large : heap_size ≤ n = omega (arith, c.if-size-ge-HEAP_SIZE.true) in
    subst (λ s. None ≡ place_for n s) c.self.view_is (sym (too_large n c.self.inside.holes.items large c.self.invariant.heap.ordered))

pub returns-then-size-ge-HEAP_SIZE-clause-heap : goal.returns-then-size-ge-HEAP_SIZE-clause-heap
returns-then-size-ge-HEAP_SIZE-clause-heap c =
    let n = c.args.size in
    let large : heap_size ≤ n = omega (arith, c.if-size-ge-HEAP_SIZE.true) in
    subst (λ s. s ≡ after_take n s) c.self.view_is (sym (after_none n (heap_of c.self.inside)
    (too_large n c.self.inside.holes.items large c.self.invariant.heap.ordered)))

pub take_from-requires : goal.take_from-requires
take_from-requires c = λ k d below.
    let most = within_region 0 heap_size c.self.inside.holes.items c.self.invariant.heap.ordered k d below in
    omega (arith, most)

pub invariant_of-self : goal.invariant_of-self
invariant_of-self c =
    let h = c.self.inside in
    let none : first_fit (block_bytes c.args.size) h.holes.items ≡ None = ap (λ n. first_fit n h.holes.items)
    (sym c.block_bytes.ensures) ∙ sym c.in_err-place.ensures.place in
    let same = c.take_from.ensures.rest ∙ none_left c.block_bytes.result h.holes.items (sym c.in_err-place.ensures.place) in
    record {
      heap = subst (λ l. IsHeap l (block_at (heap_of h))) (sym same) c.self.invariant.heap;
      aligned = subst Aligned (sym same) c.self.invariant.aligned;
      places = c.self.invariant.places;
      room = let room = c.take_from.ensures.room in let most = c.self.invariant.room in omega (arith, room, most);
    }

pub returns-in_err-place-clause-heap : goal.returns-in_err-place-clause-heap
returns-in_err-place-clause-heap c =
    let h = c.self.inside in
    let n = c.args.size in
    let none : first_fit (block_bytes n) h.holes.items ≡ None = ap (λ n. first_fit n h.holes.items) (sym c.block_bytes.ensures)
    ∙ sym c.in_err-place.ensures.place in
    let same = c.take_from.ensures.rest ∙ none_left c.block_bytes.result h.holes.items (sym c.in_err-place.ensures.place) in
    let with_holes : List Hole → Heap = λ l. record { holes = l; sizes = h.sizes.items } in
    ap with_holes same ∙ subst (λ s. heap_of h ≡ after_take n s) c.self.view_is (sym (after_none n (heap_of h) none))

pub index_mut-requires : goal.index_mut-requires
index_mut-requires c =
    let h = c.self.inside in
    let n = c.args.size in
    let found : first_fit (block_bytes n) h.holes.items ≡ Some c.in_ok-place.place = ap (λ n. first_fit n h.holes.items)
    (sym c.block_bytes.ensures) ∙ sym c.in_ok-place.ensures.place in
    let inside = place_found n c.in_ok-place.place (place_inside h.holes.items (block_at
    (heap_of h)) n c.in_ok-place.place c.self.invariant.heap found) in
    let places = c.self.invariant.places in
    omega (arith, inside, places)

pub invariant_of-self-2 : goal.invariant_of-self-2
invariant_of-self-2 c =
    let h = c.self.inside in
    let n = c.args.size in
    let found : first_fit (block_bytes n) h.holes.items ≡ Some c.in_ok-place.place = ap (λ n. first_fit n h.holes.items)
    (sym c.block_bytes.ensures) ∙ sym c.in_ok-place.ensures.place in
    let len = h.sizes.ok.0 in
    let places = c.self.invariant.places in
    let items = c.take_from.ensures.rest ∙ ap (λ n. take_from n h.holes.items) c.block_bytes.ensures in
    let kept = take_kept h.holes.items c.take_from.new.holes.items h.sizes.items n c.in_ok-place.place
    (n + 1) c.self.invariant.heap c.self.invariant.aligned (omega (arith, len, places)) found items
    (omega arith) in
    record {
      heap = kept.0;
      aligned = kept.1;
      places = places;
      room = let room = c.take_from.ensures.room in let most = c.self.invariant.room in omega (arith, room, most);
    }

pub returns-clause-inside : goal.returns-clause-inside
returns-clause-inside c =
    let h = c.self.inside in
    let n = c.args.size in
    let found : first_fit (block_bytes n) h.holes.items ≡ Some c.in_ok-place.place = ap (λ n. first_fit n h.holes.items)
    (sym c.block_bytes.ensures) ∙ sym c.in_ok-place.ensures.place in
    rw c.from.ensures (place_inside h.holes.items (block_at (heap_of h)) n c.in_ok-place.place c.self.invariant.heap found)
