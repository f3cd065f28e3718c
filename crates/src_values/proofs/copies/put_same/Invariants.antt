use Rattle.std.specs.Prelude.{replicate}
use Rattle.object_meaning.specs.declared.values.Cell.TheVariants.{Byte}
use Rattle.src_values.proofs.Putting.{Puts}
use Rattle.src_values.proofs.copies.put_same.Given as goal

abbrev pub invariant-loop-i : goal.invariant-loop-i
invariant-loop-i l = Puts l.initial.object l.object l.at l.i (replicate l.count (Byte l.byte))
