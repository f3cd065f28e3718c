use Rattle.std.proofs.Common.{◌≡◌, drop}
use Rattle.print_formats.specs.Formats.{directives_from, directives_of}
use Rattle.print_formats.proofs.directives.next_directive.Given as goal

abbrev pub invariant-loop-i : goal.invariant-loop-i
invariant-loop-i l = directives_of (drop l.at l.format) ≡ directives_from l.state (drop l.i l.format)
