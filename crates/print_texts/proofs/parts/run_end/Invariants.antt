use Rattle.std.proofs.Common.{length, ◌-◌, ◌≡◌, ◌≤◌, drop, take}
use Rattle.print_formats.specs.Formats.{directives_of}
use Rattle.print_texts.specs.Printing.{ordinary}
use Rattle.print_texts.proofs.parts.run_end.Given as goal

abbrev pub invariant-loop-end : goal.invariant-loop-end
invariant-loop-end l = record {
  up : l.at ≤ l.end;
  inside : l.end ≤ length l.format;
  is : ordinary (take (l.end - l.at) (drop l.at l.format)) (directives_of (drop l.end l.format)) ≡ directives_of (drop l.at l.format);
}

abbrev pub decreases-loop-end : goal.decreases-loop-end
decreases-loop-end l = length l.format - l.end
