-- The heap over objects (C11 7.22.3): a live block is an object, and where it stands in the heap shows only in which requests find no
-- room. First fit and merging stand in `bm_heap`. This project's own.
use Rattle.std.specs.Prelude.{ℕ, ◌==◌, min, Bool, true, false, not, ◌&&◌, is_some, List, [], ◌∷◌, length, take, filter, find, Option, None, Some, Result, Ok, Err, pos}
use Rattle.std.specs.Option.{option_map, option_map_or}
use Rattle.std.specs.Ordering.{int_eq}
use Rattle.bm_heap.specs.Heaps.{Heap, place_for, after_take, after_give}
use Rattle.fc_base.specs.declared.levels.End.{End}
use Rattle.fc_base.specs.declared.undefined.UndefKind.{UndefKind}
use Rattle.fc_base.specs.declared.undefined.UndefKind.TheVariants as kind
use Rattle.run_meaning.specs.Worlds.{World}
use Rattle.object_meaning.specs.Objects.{Object, object_at, size_at, begun, add, finish, put_cells}
use Rattle.object_meaning.specs.Provenance.{fresh}
use Rattle.object_meaning.specs.Touches.{Test, test, tested, is_dead}
use Rattle.object_meaning.specs.declared.values.Ptr.{Ptr}
use Rattle.object_meaning.specs.declared.values.PtrValue.{PtrValue}
use Rattle.object_meaning.specs.declared.values.PtrValue.TheVariants.{Null, At}
use Rattle.object_meaning.specs.declared.values.Value.{Value}
use Rattle.object_meaning.specs.declared.values.Value.TheVariants.{Pointer, Nothing}

-- what a library call acts on besides the world: the objects, the heap, and of each live block its place in the heap and its object
pub record Store : Type 0 where
  pub objects : List Object
  pub heap : Heap
  pub blocks : List (ℕ × ℕ)

-- how a library call ends: it gives a value, ends the run, or is undefined
pub data CallEnd : Type 0 where
  Gave : (value : Value) → (store : Store) → (world : World) → CallEnd
  Ends : (end : End) → CallEnd
  Undefined : (kind : UndefKind) → CallEnd

abbrev pub unless_undefined : Result CallEnd UndefKind → CallEnd
unless_undefined (Ok end) = end
unless_undefined (Err kind) = Undefined kind

-- ---- a new block

-- the object of a block that was found, if one was
abbrev pub object_for : Option ℕ → Store → Option ℕ
object_for place s = option_map (λ p. length s.objects) place

abbrev pub with_block : ℕ → Bool → Option ℕ → Store → Store
with_block n zeroed None s = s
with_block n zeroed (Some place) s = record {
  objects = add s.objects (begun n true zeroed);
  heap = after_take n s.heap;
  blocks = (place, length s.objects) ∷ s.blocks;
}

-- n bytes, zero or uninitialised; null keeps n as its claim
abbrev pub allocate : ℕ → Bool → Store → World → CallEnd
allocate n zeroed s w =
    Gave (Pointer (fresh (object_for (place_for n s.heap) s) n)) (with_block n zeroed (place_for n s.heap) s) w

-- ---- a block that is let go

-- the place in the heap of the block that is this object
abbrev pub block_place : List (ℕ × ℕ) → ℕ → Option ℕ
block_place blocks o = option_map (λ block. block.0) (find (λ block. block.1 == o) blocks)

-- null, or the start of a live block, whatever is known of its bytes (7.22.3.3p2)
abbrev pub is_block : List (ℕ × ℕ) → PtrValue → Bool
is_block blocks (Null claim) = true
is_block blocks (At p) = int_eq p.offset (pos 0) && is_some (block_place blocks p.object)

abbrev pub block_tests : Store → PtrValue → List Test
block_tests s v = test (is_dead s.objects v) kind.DeadObject ∷ test (not (is_block s.blocks v)) kind.BadFree ∷ []

abbrev pub without_block : ℕ → Store → Store
without_block o s = record {
  objects = finish s.objects o;
  heap = option_map_or (λ place. after_give place s.heap) (block_place s.blocks o) s.heap;
  blocks = filter (λ block. not (block.1 == o)) s.blocks;
}

abbrev pub let_go : PtrValue → Store → Store
let_go (Null claim) s = s
let_go (At p) s = without_block p.object s

-- ---- the calls

-- malloc(n): C11 7.22.3.4
abbrev pub malloc : ℕ → Store → World → CallEnd
malloc n s w = allocate n false s w

-- calloc(a, b): C11 7.22.3.2, by the product as a number. One that 64 bits don't hold finds no room and is no claim
abbrev pub calloc : ℕ → Store → World → CallEnd
calloc product s w = allocate product true s w

-- free(p): C11 7.22.3.3
abbrev pub free : PtrValue → Store → World → CallEnd
free v s w = unless_undefined (tested (block_tests s v) (Ok (Gave Nothing (let_go v s) w)))

-- the cells of the old block that the new one holds, in the object that was added last
abbrev pub moved_cells : Ptr → ℕ → List Object → List Object → List Object
moved_cells p n old new = put_cells new (length old) (pos 0) (take (min n (size_at old p.object)) (object_at old p.object).cells)

-- the new block is found while the old one lives. Where none is found the old one stays
abbrev pub replaced : Ptr → ℕ → Option ℕ → Store → World → CallEnd
replaced p n None s w = Gave (Pointer (fresh None n)) s w
replaced p n (Some place) s w =
    let grown = with_block n false (Some place) s in
    Gave (Pointer (fresh (Some (length s.objects)) n))
    (without_block p.object (record grown { objects = moved_cells p n s.objects grown.objects })) w

-- realloc(p, n): C11 7.22.3.5
abbrev pub realloc : PtrValue → ℕ → Store → World → CallEnd
realloc (Null claim) n s w = malloc n s w
realloc (At p) n s w = unless_undefined (tested (block_tests s (At p)) (Ok (replaced p n (place_for n s.heap) s w)))
