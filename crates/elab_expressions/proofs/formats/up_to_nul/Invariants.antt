use Rattle.std.proofs.Common.{◌≡◌, ◌++◌, drop, take}
use Rattle.elab_expressions.specs.Words.{up_to_nul}
use Rattle.elab_expressions.proofs.formats.up_to_nul.Given as goal

abbrev pub invariant-loop-i : goal.invariant-loop-i
invariant-loop-i l = take l.i l.text ++ up_to_nul (drop l.i l.text) ≡ up_to_nul l.text
