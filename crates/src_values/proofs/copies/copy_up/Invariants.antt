use Rattle.std.specs.Prelude.{◌+◌, take, drop}
use Rattle.src_values.proofs.Putting.{Puts, SameFrom}
use Rattle.src_values.proofs.copies.copy_up.Given as goal

abbrev pub invariant-loop-i : goal.invariant-loop-i
invariant-loop-i l = record {
  puts : Puts l.initial.object l.object l.to l.i (take l.count (drop l.from l.initial.object.cells));
  same : SameFrom (l.from + l.i) l.initial.object l.object;
}
