use Rattle.std.specs.Prelude.{◌+◌, ◌≤◌, take, drop}
use Rattle.src_values.proofs.Putting.{PutsDown, SameBefore}
use Rattle.src_values.proofs.copies.copy_down.Given as goal

abbrev pub invariant-loop-left : goal.invariant-loop-left
invariant-loop-left l = record {
  puts : PutsDown l.initial.object l.object l.to l.left (take l.count (drop l.from l.initial.object.cells));
  same : SameBefore (l.from + l.left) l.initial.object l.object;
  few : l.left ≤ l.count;
}

abbrev pub decreases-loop-left : goal.decreases-loop-left
decreases-loop-left l = l.left
