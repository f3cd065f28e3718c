use Rattle.std.proofs.Common.{true, ◌≡◌, ◌+◌, ◌-◌, ◌≤◌, ◌++◌, length, drop}
use Rattle.std.specs.Set.{sorted_merge}
use Rattle.macro_items.specs.HideSets.{names, by_bytes}
use Rattle.macro_items.proofs.hide.merge_into.Given as goal

abbrev pub invariant-loop-i : goal.invariant-loop-i
invariant-loop-i l = record {
  first : l.i ≤ length l.a;
  second : l.j ≤ length l.b;
  same : names l.all.items ++ sorted_merge by_bytes true (names (drop l.i l.a)) (names (drop l.j l.b)) ≡ sorted_merge by_bytes true
      (names l.a) (names l.b);
}

abbrev pub decreases-loop-i : goal.decreases-loop-i
decreases-loop-i l = (length l.a - l.i) + (length l.b - l.j)
