use Rattle.std.proofs.Common.{◌≡◌, ◌≤◌, ◌-◌, drop}
use Rattle.str_chk.specs.Pairs.{both_scan, order_found}
use Rattle.str_chk.proofs.compare_texts.Given as goal

abbrev pub invariant-loop-at : goal.invariant-loop-at
invariant-loop-at l = record {
  within : l.at ≤ l.most;
  same : order_found (both_scan (drop l.at l.left) (drop l.at l.right)) ≡ order_found (both_scan l.left l.right);
}

abbrev pub decreases-loop-at : goal.decreases-loop-at
decreases-loop-at l = l.most - l.at
