-- How blocks are seen, and what their entries keep.
use Rattle.std.specs.Prelude.{ℕ, List}
use Rattle.src_lib.specs.Owners.{blocks_of, AreNumbers}
use Rattle.src_lib.specs.declared.owners.Blocks.TheInside.{Inside}

abbrev pub blocks_in : Inside → List (ℕ × ℕ)
blocks_in b = blocks_of b.places.entries

abbrev pub HasNumbers : Inside → Type 0
HasNumbers b = AreNumbers b.places.entries
