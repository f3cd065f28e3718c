-- Objects that are given all their bytes.
use Rattle.std.proofs.Common.{◌≡◌, ℕ, suc, ◌+◌, ◌<◌, ◌^◌, List, [], ◌∷◌, ◌++◌, length, map, drop, get_or, set, ap, ◌∙◌, arith, append-nil, Fits, w8}
use Rattle.std.proofs.lemmas.List.{drop_all, length-map}
use Rattle.std.specs.List.{AllByRecursion}
use Rattle.library_meaning.specs.Memory.{put}
use Rattle.object_meaning.specs.Objects.{Object, ended, object_at, size_at, with_cells, fill}
use Rattle.object_meaning.specs.declared.values.Cell.{Cell}
use Rattle.object_meaning.specs.declared.values.Cell.TheVariants.{Byte}
use Rattle.src_values.proofs.Spots.{get_or_any}

pub bytes_are : (bytes : List ℕ) → ((i : ℕ) → Fits w8 (get_or bytes i 0)) → AllByRecursion (λ byte. byte < 2 ^ 8) bytes
bytes_are [] h = tt
bytes_are (b ∷ bs) h = (let first = h 0 in omega (arith, first), bytes_are bs (λ i. h (suc i)))

put_whole : (new cells : List Cell) → length new ≡ length cells → put 0 new cells ≡ new
put_whole new cells e = ap (λ n. new ++ drop n cells) (let none : 0 + length new ≡ length new = omega arith in none)
    ∙ ap (λ xs. new ++ xs) (drop_all (length new) cells (omega (arith, e))) ∙ append-nil new

pub filled_is : (items : List Object) (o : ℕ) (bytes : List ℕ) (old new : Object) → o < length items → old ≡ get_or items o old
    → length bytes ≡ size_at items o → length old.cells ≡ old.size
    → new ≡ with_cells old (put 0 (map Byte bytes) old.cells) → set items o new ≡ fill items o bytes
filled_is items o bytes old new there e whole full w =
    let is : old ≡ object_at items o = e ∙ get_or_any items o old ended there in
    let long = length-map bytes Byte in
    let size = ap (λ (x : Object). x.size) is in
    ap (set items o) (w ∙ ap (with_cells old) (put_whole (map Byte bytes) old.cells (omega (arith, long, whole, full, size)))
    ∙ ap (λ (x : Object). with_cells x (map Byte bytes)) is)
