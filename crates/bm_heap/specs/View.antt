-- How a heap is seen, and what its fields keep.
use Rattle.std.specs.Prelude.{◌≡◌, ◌%◌, ◌≤◌, List, [], ◌∷◌, vec_len, vec_capacity}
use Rattle.bm_heap.specs.declared.holes.Hole.{Hole}
use Rattle.bm_heap.specs.declared.heap.Heap.TheInside.{Inside}
use Rattle.bm_heap.specs.Heaps.{Heap, IsHeap, block_at, heap_places}

abbrev pub heap_of : Inside → Heap
heap_of h = record { holes = h.holes.items; sizes = h.sizes.items }

-- holes begin at multiples of 16, and have a multiple of 16 bytes
abbrev pub Aligned : List Hole → Type 0
Aligned [] = Unit {0}
Aligned (hole ∷ holes) = (hole.start % 16 ≡ 0) × (hole.count % 16 ≡ 0) × Aligned holes

pub record IsKept (h : Inside) : Type 0 where
  pub heap : IsHeap h.holes.items (block_at (heap_of h))
  pub aligned : Aligned h.holes.items
  pub places : vec_len h.sizes ≡ heap_places
  pub room : 262145 ≤ vec_capacity h.holes
