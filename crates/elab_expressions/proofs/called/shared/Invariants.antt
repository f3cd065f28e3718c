use Rattle.std.proofs.Common.{◌≡◌, take}
use Rattle.elab_expressions.proofs.called.shared.Given as goal

abbrev pub invariant-loop-ctype : goal.invariant-loop-ctype
invariant-loop-ctype l = l.copies ≡ take l.ctype-index l.ctypes
