use Rattle.std.specs.Prelude.{drop}
use Rattle.src_lib.proofs.Scans.{Clear}
use Rattle.src_lib.proofs.texts.scan.Given as goal

abbrev pub invariant-loop-k : goal.invariant-loop-k
invariant-loop-k l = Clear l.wanted (drop l.start l.object.cells) l.k
