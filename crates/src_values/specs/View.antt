-- How the cells of an object are seen, and what their fields keep.
use Rattle.std.specs.Prelude.{ℕ, ◌+◌, ◌-◌, ◌≤◌, List, [], ◌∷◌, ◌++◌, length, set, replicate, vec_len, vec_capacity, pos}
use Rattle.object_meaning.specs.declared.values.Cell.{Cell}
use Rattle.object_meaning.specs.declared.values.Cell.TheVariants as cell
use Rattle.object_meaning.specs.declared.values.Ptr.{Ptr}
use Rattle.object_meaning.specs.declared.values.Tag.TheVariants.{Unknown}
use Rattle.src_values.specs.declared.cells.Cells.TheInside.{Inside}
use Rattle.src_values.specs.declared.cells.Mark.{Mark}
use Rattle.src_values.specs.declared.cells.Mark.TheVariants as mark

abbrev pub nowhere : Ptr
nowhere = record { object = 0; offset = pos 0; end = pos 0; tag = Unknown }

abbrev pub cell_of : Mark → Ptr → Cell
cell_of (mark.Byte b) p = cell.Byte b
cell_of mark.Uninit p = cell.Uninit
cell_of (mark.Part k) p = cell.Part p k

-- each mark with the pointer at its place
abbrev pub marked : List Mark → List Ptr → List Cell
marked [] ps = []
marked (m ∷ ms) [] = cell_of m nowhere ∷ marked ms []
marked (m ∷ ms) (p ∷ ps) = cell_of m p ∷ marked ms ps

-- pointers with one at a place, behind as many that stand for none as are wanted
abbrev pub with_pointer : List Ptr → ℕ → Ptr → List Ptr
with_pointer ps at p = set (ps ++ replicate (at + 1 - length ps) nowhere) at p

abbrev pub cells_in : Inside → List Cell
cells_in c = marked c.marks.items c.pointers.items

-- there is room for the pointers of all cells
abbrev pub HasRoom : Inside → Type 0
HasRoom c = vec_len c.marks ≤ vec_capacity c.pointers
