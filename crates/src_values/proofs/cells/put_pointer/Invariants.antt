use Rattle.std.specs.Prelude.{◌≡◌, ◌+◌, ◌-◌, ◌++◌, length, replicate, vec_capacity}
use Rattle.src_values.specs.View.{nowhere}
use Rattle.src_values.proofs.cells.put_pointer.Given as goal

abbrev pub invariant-loop-pointers : goal.invariant-loop-pointers
invariant-loop-pointers l = (l.pointers.items ++ replicate (l.at + 1 - length l.pointers.items) nowhere
    ≡ l.initial.pointers.items ++ replicate (l.at + 1 - length l.initial.pointers.items) nowhere)
    × (vec_capacity l.pointers ≡ vec_capacity l.initial.pointers)

abbrev pub decreases-loop-pointers : goal.decreases-loop-pointers
decreases-loop-pointers l = l.at + 1 - length l.pointers.items
