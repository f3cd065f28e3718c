use Rattle.std.proofs.Common.{◌≡◌, true, drop}
use Rattle.print_formats.specs.Formats.{directives_from, directives_of}
use Rattle.elab_expressions.specs.Words.{fits_rest}
use Rattle.elab_expressions.proofs.formats.all_fit.Given as goal

abbrev pub invariant-loop-byte : goal.invariant-loop-byte
invariant-loop-byte l = fits_rest l.fit l.rest (directives_from l.state (drop l.byte-index l.bytes)) ≡ fits_rest true l.args (directives_of l.bytes)
