use Rattle.std.proofs.Common.{length, ◌-◌, ◌≡◌, ◌≤◌, drop, is_some, true}
use Rattle.print_formats.specs.Formats.{directives_of}
use Rattle.print_texts.specs.Printing.{apart, listed}
use Rattle.print_chk.proofs.formats.is_apart.Given as goal

abbrev pub invariant-loop-behind : goal.invariant-loop-behind
invariant-loop-behind l = record {
  inside : l.at ≤ length l.format;
  few : l.next ≤ l.at;
  well : is_some (directives_of (drop l.at l.format)) ≡ true;
  is : apart l.args l.mem l.to l.count (listed (directives_of (drop l.at l.format))) l.next
      ≡ apart l.args l.mem l.to l.count (listed (directives_of l.format)) 0;
}

abbrev pub decreases-loop-behind : goal.decreases-loop-behind
decreases-loop-behind l = length l.format - l.at
