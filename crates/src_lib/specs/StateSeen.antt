-- How the state is seen, and what its fields keep.
use Rattle.std.specs.Prelude.{length}
use Rattle.object_meaning.specs.Allocations.{Store}
use Rattle.src_lib.specs.Owners.{AreBelow}
use Rattle.src_lib.specs.declared.state.State.TheInside.{Inside}

abbrev pub store_in : Inside → Store
store_in s = record { objects = s.memory; heap = s.heap; blocks = s.blocks }

-- a block's object is there
abbrev pub IsState : Inside → Type 0
IsState s = AreBelow (length s.memory) s.blocks
