use Rattle.std.proofs.Common.{◌≡◌, drop}
use Rattle.std.specs.List.{list_any}
use Rattle.macro_meaning.specs.Sameness.{same_header}
use Rattle.c_macros.proofs.directives.is_included.Given as goal

abbrev pub invariant-loop-other : goal.invariant-loop-other
invariant-loop-other l = list_any (same_header l.header) l.headers ≡ list_any (same_header l.header) (drop l.other-index l.headers)
