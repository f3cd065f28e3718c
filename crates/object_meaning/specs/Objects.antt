-- Memory as a list of objects (C11 6.2.4 and 6.5p6). An object is named by its place in the list. It has no address. This
-- project's own.
use Rattle.std.specs.Prelude.{ℕ, Bool, true, false, List, [], ◌∷◌, ◌++◌, map, set, get_or, drop, replicate, ℤ, pos, negsuc, if◌then◌else◌}
use Rattle.library_meaning.specs.Memory.{put}
use Rattle.object_meaning.specs.declared.values.Cell.{Cell}
use Rattle.object_meaning.specs.declared.values.Cell.TheVariants.{Byte, Uninit}

pub record Object : Type 0 where
  pub size : ℕ
  pub alive : Bool
  pub writable : Bool
  pub cells : List Cell

-- an object that has ended: nothing is asked of it but that. It stands past the list's end too
abbrev pub ended : Object
ended = record { size = 0; alive = false; writable = false; cells = [] }

abbrev pub object_at : List Object → ℕ → Object
object_at objs o = get_or objs o ended

abbrev pub is_live : List Object → ℕ → Bool
is_live objs o = (object_at objs o).alive

abbrev pub size_at : List Object → ℕ → ℕ
size_at objs o = (object_at objs o).size

abbrev pub cell_at : List Object → ℕ → ℕ → Cell
cell_at objs o k = get_or (object_at objs o).cells k Uninit

-- an object as it begins: zero bytes, or uninitialised
abbrev pub begun : ℕ → Bool → Bool → Object
begun size writable zeroed =
    record { size = size; alive = true; writable = writable; cells = replicate size (if zeroed then Byte 0 else Uninit) }

abbrev pub with_cells : Object → List Cell → Object
with_cells object cells = record object { cells = cells }

-- one more object, whose number is the length of the list
abbrev pub add : List Object → Object → List Object
add objs object = objs ++ object ∷ []

-- an object ends
abbrev pub finish : List Object → ℕ → List Object
finish objs o = set objs o ended

-- an object has these bytes
abbrev pub fill : List Object → ℕ → List ℕ → List Object
fill objs o bytes = set objs o (with_cells (object_at objs o) (map Byte bytes))

-- cells from a place of an object on. There are none before its start
abbrev pub cells_behind : List Cell → ℤ → List Cell
cells_behind cells (pos k) = drop k cells
cells_behind cells (negsuc k) = []

-- an object with other cells from a place on
abbrev pub put_behind : ℤ → List Cell → List Cell → List Cell
put_behind (pos k) new cells = put k new cells
put_behind (negsuc k) new cells = cells

abbrev pub put_cells : List Object → ℕ → ℤ → List Cell → List Object
put_cells objs o k new = set objs o (with_cells (object_at objs o) (put_behind k new (object_at objs o).cells))
