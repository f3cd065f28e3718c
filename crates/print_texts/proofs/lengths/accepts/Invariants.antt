use Rattle.std.proofs.Common.{length, ◌-◌, ◌≡◌, ◌≤◌, drop}
use Rattle.print_formats.specs.Formats.{directives_of}
use Rattle.print_texts.specs.Printing.{accepted}
use Rattle.print_texts.proofs.lengths.accepts.Given as goal

abbrev pub invariant-loop-behind : goal.invariant-loop-behind
invariant-loop-behind l = record {
  inside : l.at ≤ length l.format;
  few : l.count ≤ l.at;
  is : accepted l.passed l.count (directives_of (drop l.at l.format)) ≡ accepted l.passed 0 (directives_of l.format);
}

abbrev pub decreases-loop-behind : goal.decreases-loop-behind
decreases-loop-behind l = length l.format - l.at
