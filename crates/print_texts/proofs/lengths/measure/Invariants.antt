use Rattle.std.proofs.Common.{length, ◌-◌, ◌*◌, ◌^◌, ◌≡◌, ◌≤◌, ◌&&◌, drop, is_some, true}
use Rattle.print_formats.specs.Formats.{directives_of}
use Rattle.print_texts.specs.Printing.{apart, listed, measured}
use Rattle.print_texts.proofs.lengths.measure.Given as goal

abbrev pub invariant-loop-from : goal.invariant-loop-from
invariant-loop-from l = record {
  inside : l.at ≤ length l.format;
  few : l.next ≤ l.at;
  small : l.total ≤ l.at * 2 ^ 32;
  well : is_some (directives_of (drop l.at l.format)) ≡ true;
  is : measured l.args l.mem (listed (directives_of (drop l.at l.format))) l.next l.total ≡ measured l.args l.mem (listed (directives_of l.format)) 0 0;
  far : l.clear && apart l.args l.mem l.to l.room (listed (directives_of (drop l.at l.format))) l.next
      ≡ apart l.args l.mem l.to l.room (listed (directives_of l.format)) 0;
}

abbrev pub decreases-loop-from : goal.decreases-loop-from
decreases-loop-from l = length l.format - l.at
