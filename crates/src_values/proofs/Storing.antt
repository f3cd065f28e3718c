-- What a store has done.
use Rattle.std.proofs.Common.{◌≡◌, ℕ, zero, suc, ◌<◌, true, List, length, map, set, Ok, Err, refl, sym, ap, subst, ◌∙◌, arith}
use Rattle.std.specs.Prelude.{IfOk, pos}
use Rattle.fc_base.specs.Widths.{width_bytes}
use Rattle.fc_base.specs.declared.levels.Width.{Width}
use Rattle.fc_base.specs.declared.undefined.UndefKind.{UndefKind}
use Rattle.library_meaning.specs.Memory.{put}
use Rattle.object_meaning.specs.Cells.{bytes_of, cells_of, parts_of}
use Rattle.object_meaning.specs.Memory.{store, store_pointer, IsMemory, SameObjects}
use Rattle.object_meaning.specs.Objects.{Object, object_at, with_cells, put_cells}
use Rattle.object_meaning.specs.declared.values.Cell.TheVariants.{Byte}
use Rattle.object_meaning.specs.Provenance.{IsPointer}
use Rattle.object_meaning.specs.declared.values.Ptr.{Ptr}
use Rattle.object_meaning.specs.declared.values.PtrValue.{PtrValue}
use Rattle.object_meaning.specs.declared.values.PtrValue.TheVariants.{Null, At}
use Rattle.object_meaning.proofs.Kept.{store_keeps, store_pointer_keeps}
use Rattle.src_values.specs.Spots.{spot_for}
use Rattle.src_values.specs.declared.copies.Spot.{Spot}
use Rattle.src_values.proofs.Spots.{spot_tells, store_cells_is, store_cells_stops, written_is}

length_bytes : (n x : ℕ) → length (map Byte (bytes_of n x)) ≡ n
length_bytes zero x = refl
length_bytes (suc n) x = ap suc (length_bytes n _)

pub record Stored (items objs : List Object) (v : PtrValue) (width : Width) (x : ℕ) (o : ℕ) (new : Object) : Type 0 where
  pub is : store objs v width x ≡ Ok (set items o new)
  pub is_memory : IsMemory (set items o new)

pub store_done : (items objs : List Object) (v : PtrValue) (width : Width) (x n : ℕ) (spot : Spot) (old new : Object) → IsMemory items
    → items ≡ objs → n ≡ width_bytes width → 0 < n → spot_for objs true v n ≡ Ok spot → old ≡ object_at items spot.object
    → new ≡ with_cells old (put spot.start (map Byte (bytes_of n x)) old.cells) → Stored items objs v width x spot.object new
store_done items objs v width x n spot old new w same e some at found_at written =
    let s = spot_tells objs true v n spot at in
    let put_is = written_is items objs spot.object spot.start old new (map Byte (bytes_of n x)) same found_at written in
    let done : store objs v width x ≡ Ok (put_cells objs spot.object (pos spot.start) (map Byte (bytes_of n x))) = subst
    (λ k. store objs v width x ≡ Ok (put_cells objs spot.object (pos spot.start) (map Byte (bytes_of k x)))) (sym e)
    (store_cells_is objs v (map Byte (bytes_of (width_bytes width) x)) (width_bytes width) spot (length_bytes (width_bytes width) x)
    (subst (λ k. 0 < k) e some) (subst (λ k. spot_for objs true v k ≡ Ok spot) e at)) in
    let kept = subst (λ r. IfOk r (λ after. IsMemory after × SameObjects objs after)) done
    (store_keeps objs (subst IsMemory same w) v width x) in
    record { is = done ∙ ap Ok (sym put_is); is_memory = subst IsMemory (sym put_is) kept.0 }

pub store_stops : (objs : List Object) (v : PtrValue) (width : Width) (x n : ℕ) (k : UndefKind) → n ≡ width_bytes width → 0 < n
    → spot_for objs true v n ≡ Err k → store objs v width x ≡ Err k
store_stops objs v width x n k e some at = store_cells_stops objs v (map Byte (bytes_of (width_bytes width) x)) (width_bytes width) k
    (length_bytes (width_bytes width) x) (subst (λ m. 0 < m) e some) (subst (λ m. spot_for objs true v m ≡ Err k) e at)

length_parts : (p : Ptr) (k n : ℕ) → length (parts_of p k n) ≡ n
length_parts p k zero = refl
length_parts p k (suc n) = ap suc (length_parts p (suc k) n)

length_cells : (x : PtrValue) → length (cells_of x) ≡ 8
length_cells (Null claim) = refl
length_cells (At p) = length_parts p 0 8

pub record StoredPointer (items objs : List Object) (v x : PtrValue) (o : ℕ) (new : Object) : Type 0 where
  pub is : store_pointer objs v x ≡ Ok (set items o new)
  pub is_memory : IsMemory (set items o new)

pub store_pointer_done : (items objs : List Object) (v x : PtrValue) (spot : Spot) (old new : Object) → IsMemory items → items ≡ objs
    → IsPointer objs x → spot_for objs true v 8 ≡ Ok spot → old ≡ object_at items spot.object
    → new ≡ with_cells old (put spot.start (cells_of x) old.cells) → StoredPointer items objs v x spot.object new
store_pointer_done items objs v x spot old new w same pointer at found_at written =
    let s = spot_tells objs true v 8 spot at in
    let put_is = written_is items objs spot.object spot.start old new (cells_of x) same found_at written in
    let done : store_pointer objs v x ≡ Ok (put_cells objs spot.object (pos spot.start) (cells_of x)) = store_cells_is objs v
    (cells_of x) 8 spot (length_cells x) (omega arith) at in
    let kept = subst (λ r. IfOk r (λ after. IsMemory after × SameObjects objs after)) done
    (store_pointer_keeps objs (subst IsMemory same w) v x pointer) in
    record { is = done ∙ ap Ok (sym put_is); is_memory = subst IsMemory (sym put_is) kept.0 }

pub store_pointer_stops : (objs : List Object) (v x : PtrValue) (k : UndefKind) → spot_for objs true v 8 ≡ Err k
    → store_pointer objs v x ≡ Err k
store_pointer_stops objs v x k at = store_cells_stops objs v (cells_of x) 8 k (length_cells x) (omega arith) at
