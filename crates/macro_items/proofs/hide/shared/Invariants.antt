use Rattle.std.proofs.Common.{◌≡◌, ◌+◌, ◌-◌, ◌++◌, length, drop}
use Rattle.std.specs.List.{filter}
use Rattle.std.specs.List.Sorted.{IsStrictlySortedBy}
use Rattle.macro_items.specs.HideSets.{names, by_bytes}
use Rattle.macro_items.proofs.Merging.{in_names}
use Rattle.macro_items.proofs.hide.shared.Given as goal

abbrev pub invariant-loop-i : goal.invariant-loop-i
invariant-loop-i l = record {
  first : IsStrictlySortedBy by_bytes (names (drop l.i l.a));
  second : IsStrictlySortedBy by_bytes (names (drop l.j l.b));
  same : names l.both.items ++ filter (in_names (names (drop l.j l.b))) (names (drop l.i l.a)) ≡ filter (in_names (names l.b)) (names l.a);
}

abbrev pub decreases-loop-i : goal.decreases-loop-i
decreases-loop-i l = (length l.a - l.i) + (length l.b - l.j)
