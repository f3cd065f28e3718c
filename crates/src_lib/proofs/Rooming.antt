-- Requests that no hole of the heap holds.
use Rattle.std.proofs.Common.{◌≡◌, ℕ, ◌+◌, ◌<◌, ◌≤◌, ◌^◌, Bool, List, [], ◌∷◌, None, refl, ap, ◌∙◌, arith}
use Rattle.std.specs.Prelude.{if◌then◌else◌}
use Rattle.std.proofs.lemmas.Bool.{le-ltb, lt-leb}
use Rattle.bm_heap.specs.Heaps.{Ordered, block_bytes, first_fit, heap_size, place_for}
use Rattle.bm_heap.specs.declared.holes.Hole.{Hole}
use Rattle.run_meaning.specs.Worlds.{World}
use Rattle.object_meaning.specs.Allocations.{Store, Gave, allocate, object_for, with_block}
use Rattle.object_meaning.specs.Provenance.{allocated, forgot, fresh, null}
use Rattle.object_meaning.specs.declared.values.Value.TheVariants.{Pointer}

none_fits : (holes : List Hole) (low n : ℕ) → Ordered low heap_size holes → heap_size < n → first_fit n holes ≡ None
none_fits [] low n o l = refl
none_fits (h ∷ hs) low n o l =
    let inside = o.2 in
    rw (lt-leb n h.count (omega (arith, inside, l))) (none_fits hs (h.start + h.count + 1) n o.3 l)

-- a product that 64 bits don't hold
pub past_numbers : (s : Store) (product : ℕ) (zeroed : Bool) (w : World) → Ordered 0 heap_size s.heap.holes → 2 ^ 64 ≤ product
    → allocate product zeroed s w ≡ Gave (Pointer null) s w
past_numbers s product zeroed w o l =
    let none : place_for product s.heap ≡ None = none_fits s.heap.holes 0 (block_bytes product) o (omega (arith, l)) in
    ap (λ p. Gave (Pointer (fresh (object_for p s) product)) (with_block product zeroed p s) w) none
    ∙ ap (λ b. Gave (Pointer (if b then allocated None product else forgot (allocated None product))) s w)
    (le-ltb product (2 ^ 63) (omega (arith, l)))
