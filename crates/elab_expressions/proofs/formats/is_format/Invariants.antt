use Rattle.std.proofs.Common.{◌≡◌, drop}
use Rattle.std.specs.Prelude.{is_some}
use Rattle.print_formats.specs.Formats.{directives_from, directives_of}
use Rattle.elab_expressions.proofs.formats.is_format.Given as goal

abbrev pub invariant-loop-byte : goal.invariant-loop-byte
invariant-loop-byte l = is_some (directives_from l.state (drop l.byte-index l.bytes)) ≡ is_some (directives_of l.bytes)
