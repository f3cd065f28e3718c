-- A heap in one region: first fit over holes in the order of their addresses, and blocks merged with their neighbours when they
-- are let go (Knuth, The Art of Computer Programming, 2.5, algorithms A and B). The numbers are this project's own.
use Rattle.std.specs.Prelude.{◌≡◌, ◌≢◌, ◌⊎◌, ℕ, ◌+◌, ◌-◌, ◌*◌, ◌/◌, ◌%◌, ◌<◌, ◌≤◌, ◌==◌, List, [], ◌∷◌, Option, Some, None, nat_le, nat_lt, cond, replicate, slice_set, slice_index, zero, suc}
use Rattle.bm_heap.specs.declared.holes.Hole.{Hole}

-- how many bytes the region has. Places count from its start
abbrev pub heap_size : ℕ
heap_size = 8388608

-- a block begins at a multiple of 16, so there are this many places for one
abbrev pub heap_places : ℕ
heap_places = 524288

-- how many bytes a request of n takes: one more than n, rounded up to a multiple of 16
abbrev pub block_bytes : ℕ → ℕ
block_bytes n = (n + 16) / 16 * 16

-- the heap: its holes in the order of their places, and for each multiple of 16 one more than the size that was asked for of the
-- live block that begins there, or 0 where none does
pub record Heap : Type 0 where
  pub holes : List Hole
  pub sizes : List ℕ

-- no block at any place
unfoldable pub no_sizes : List ℕ
no_sizes = replicate heap_places 0

-- a heap that nothing was asked of
abbrev pub whole_heap : Heap
whole_heap = record { holes = record { start = 0; count = heap_size } ∷ []; sizes = no_sizes }

-- the size that was asked for of the live block at a place, if there is one
abbrev pub size_in : ℕ → Option ℕ
size_in zero = None
size_in (suc n) = Some n

abbrev pub block_at : Heap → ℕ → Option ℕ
block_at heap place = cond (place % 16 == 0) (size_in (slice_index heap.sizes (place / 16))) None

-- the front of the first hole that holds n bytes
abbrev pub first_fit : ℕ → List Hole → Option ℕ
first_fit n [] = None
first_fit n (hole ∷ holes) = cond (nat_le n hole.count) (Some hole.start) (first_fit n holes)

-- a hole without its first n bytes, before other holes
abbrev pub cut : Hole → ℕ → List Hole → List Hole
cut hole n holes = cond (hole.count == n) holes (record { start = hole.start + n; count = hole.count - n } ∷ holes)

-- the holes without n bytes at the front of the first that holds them
abbrev pub take_from : ℕ → List Hole → List Hole
take_from n [] = []
take_from n (hole ∷ holes) = cond (nat_le n hole.count) (cut hole n holes) (hole ∷ take_from n holes)

-- n bytes at a place before the holes that lie behind it, as one with the first where they touch it
abbrev pub put_before : ℕ → ℕ → List Hole → List Hole
put_before place n [] = record { start = place; count = n } ∷ []
put_before place n (hole ∷ holes) =
    cond (place + n == hole.start) (record { start = place; count = n + hole.count } ∷ holes)
    (record { start = place; count = n } ∷ hole ∷ holes)

-- the holes with n bytes at a place, as one with the holes that they touch
abbrev pub give_to : ℕ → ℕ → List Hole → List Hole
give_to place n [] = put_before place n []
give_to place n (hole ∷ holes) =
    cond (nat_lt hole.start place)
    (cond (hole.start + hole.count == place) (put_before hole.start (hole.count + n) holes) (hole ∷ give_to place n holes))
    (put_before place n (hole ∷ holes))

-- the place that a request of n bytes gets, if there is one
abbrev pub place_for : ℕ → Heap → Option ℕ
place_for n heap = first_fit (block_bytes n) heap.holes

-- the heap with a block of n bytes at the place that was found, or as it was
abbrev pub with_block : ℕ → Option ℕ → Heap → Heap
with_block n None heap = heap
with_block n (Some place) heap = record {
  holes = take_from (block_bytes n) heap.holes;
  sizes = slice_set heap.sizes (place / 16) (suc n);
}

-- the heap after a request of n bytes
abbrev pub after_take : ℕ → Heap → Heap
after_take n heap = with_block n (place_for n heap) heap

-- the heap without the block at a place, which has this size, or as it was where there is none
abbrev pub without_block : ℕ → Option ℕ → Heap → Heap
without_block place None heap = heap
without_block place (Some n) heap = record {
  holes = give_to place (block_bytes n) heap.holes;
  sizes = slice_set heap.sizes (place / 16) 0;
}

-- the heap after the block at a place was let go
abbrev pub after_give : ℕ → Heap → Heap
after_give place heap = without_block place (block_at heap place) heap

-- x is one of the n bytes at a place
abbrev pub Within : ℕ → ℕ → ℕ → Type 0
Within place n x = (place ≤ x) × (x < place + n)

-- a byte is free
abbrev pub Free : List Hole → ℕ → Type 0
Free [] x = ⊥
Free (hole ∷ holes) x = Within hole.start hole.count x ⊎ Free holes x

-- the holes are in order from low on, end by high, hold something, and don't touch
abbrev pub Ordered : ℕ → ℕ → List Hole → Type 0
Ordered low high [] = Unit {0}
Ordered low high (hole ∷ holes) =
    (low ≤ hole.start) × (0 < hole.count) × (hole.start + hole.count ≤ high) × Ordered (hole.start + hole.count + 1) high holes

-- the holes and the live blocks are all of the region, and no byte is in two of them
pub record IsHeap (holes : List Hole) (blocks : ℕ → Option ℕ) : Type 0 where
  pub ordered : Ordered 0 heap_size holes
  pub inside : (a n : ℕ) → blocks a ≡ Some n → a + block_bytes n ≤ heap_size
  pub apart : (a n b k : ℕ) → blocks a ≡ Some n → blocks b ≡ Some k → a ≢ b → (a + block_bytes n ≤ b) ⊎ (b + block_bytes k ≤ a)
  pub taken : (a n x : ℕ) → blocks a ≡ Some n → Within a (block_bytes n) x → Free holes x → ⊥
  pub covered : (x : ℕ) → x < heap_size → Free holes x ⊎ ((a : ℕ) × (n : ℕ) × (blocks a ≡ Some n) × Within a (block_bytes n) x)

-- one more block, and one less, by their places
abbrev pub one_more : (ℕ → Option ℕ) → ℕ → ℕ → ℕ → Option ℕ
one_more blocks a n b = cond (b == a) (Some n) (blocks b)

abbrev pub one_less : (ℕ → Option ℕ) → ℕ → ℕ → Option ℕ
one_less blocks a b = cond (b == a) None (blocks b)
