-- The calls on the heap.
use Rattle.std.proofs.Common.{◌≡◌, ℕ, ◌+◌, ◌-◌, ◌≤◌, ◌^◌, Bool, true, false, cond, nat_lt, Option, None, Some, IfSome, refl, sym, ◌∙◌, ap, arith}
use Rattle.std.proofs.lemmas.Bool.{le-leb, and_from, or_right}
use Rattle.bm_heap.specs.Heaps.{Heap, IsHeap, block_at, place_for, after_take, after_give}
use Rattle.library_meaning.specs.Memory.{are_valid, first_valid, memory_size}
use Rattle.byte_machine.specs.State.{Core, heap_start, giving, block_address, allocating, clearing, replaced, zeroed}
use Rattle.byte_machine.specs.Machines.{Loaded}

-- bytes of the heap may be touched
pub heap_valid : (address n : ℕ) → heap_start ≤ address → address + n ≤ memory_size → are_valid address n ≡ true
heap_valid address n from to = or_right _ _ (and_from _ _ (le-leb first_valid address (omega (arith, from))) (le-leb (address + n) memory_size to))

-- those of a live block
pub block_valid : (heap : Heap) (address : ℕ) (found : Option ℕ) → heap_start ≤ address → found ≡ block_at heap (address - heap_start)
    → IsHeap heap.holes (block_at heap) → IfSome found (λ size. are_valid address size ≡ true)
block_valid heap address None from is whole = tt
block_valid heap address (Some n) from is whole =
    let inside = whole.inside (address - heap_start) n (sym is) in
    heap_valid address n from (omega (arith, from, inside))

-- a block was found, and its address is the call's result
pub allocated : (l mid new : Loaded) (to n read address : ℕ) → read ≡ n → address ≡ block_address (place_for read l.core.heap)
    → mid ≡ record l { core = record l.core { heap = after_take read l.core.heap } } → new ≡ record mid { core = giving to address mid.core }
    → new ≡ record l { core = allocating to n l.core }
allocated l mid new to n read address same found taken given =
    given
    ∙ ap (λ (m : Loaded). record m { core = giving to address m.core }) taken
    ∙ ap (λ a. record l { core = giving to a (record l.core { heap = after_take read l.core.heap }) }) found
    ∙ ap (λ n. record l { core = allocating to n l.core }) same

-- a block was let go
pub let_go : (l mid new : Loaded) (to place read : ℕ) → read ≡ place
    → mid ≡ record l { core = record l.core { heap = after_give (read - heap_start) l.core.heap } } → new ≡ record mid { core = giving to 0 mid.core }
    → new ≡ record l { core = giving to 0 (record l.core { heap = after_give (place - heap_start) l.core.heap }) }
let_go l mid new to place read same gone given =
    given
    ∙ ap (λ (m : Loaded). record m { core = giving to 0 m.core }) gone
    ∙ ap (λ a. record l { core = giving to 0 (record l.core { heap = after_give (a - heap_start) l.core.heap }) }) same

-- neither call ends the run
pub replaced_runs : (to address kept n : ℕ) (place : Option ℕ) (core : Core) → (replaced to address kept n place core).stopped ≡ core.stopped
replaced_runs to address kept n None core = refl
replaced_runs to address kept n (Some place) core = refl

pub clearing_runs : (to n : ℕ) (core : Core) → (clearing to n core).stopped ≡ core.stopped
clearing_runs to n core = go (nat_lt n (2 ^ 64)) where
  go : (t : Bool) → (cond t (giving to (block_address (place_for n core.heap))
      (record core { heap = after_take n core.heap; memory = zeroed (place_for n core.heap) n core.memory })) (giving to 0 core)).stopped ≡ core.stopped
  go true = refl
  go false = refl

-- a size past 64 bits has no place
pub clears_nothing : (to n : ℕ) (core : Core) → nat_lt n (2 ^ 64) ≡ false → clearing to n core ≡ giving to 0 core
clears_nothing to n core test =
    ap (λ t. cond t (giving to (block_address (place_for n core.heap))
    (record core { heap = after_take n core.heap; memory = zeroed (place_for n core.heap) n core.memory })) (giving to 0 core)) test
