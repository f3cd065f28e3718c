use Rattle.std.specs.Prelude.{take, drop}
use Rattle.src_values.proofs.Putting.{Puts}
use Rattle.src_values.proofs.copies.copy_between.Given as goal

abbrev pub invariant-loop-i : goal.invariant-loop-i
invariant-loop-i l = Puts l.initial.to l.to l.at l.i (take l.count (drop l.start l.from.cells))
