use Rattle.std.proofs.Common.{length, ◌^◌, ◌≡◌, ◌≤◌, ◌<◌, drop}
use Rattle.std.specs.Fmt.{digits}
use Rattle.print_texts.specs.Numbers.{unwritten}
use Rattle.print_texts.proofs.numbers.write_radix.Given as goal

abbrev pub invariant-loop-left : goal.invariant-loop-left
invariant-loop-left l = record {
  some : 0 < l.at;
  inside : l.at ≤ 22;
  size : length l.room ≡ 22;
  small : l.left < 8 ^ l.at;
  is : unwritten l.base l.upper l.at l.left (drop l.at l.room) ≡ digits l.base l.upper l.value;
}

abbrev pub decreases-loop-left : goal.decreases-loop-left
decreases-loop-left l = l.at
