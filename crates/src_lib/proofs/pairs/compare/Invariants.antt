use Rattle.std.specs.Prelude.{◌≡◌, drop}
use Rattle.src_lib.proofs.Pairing.{compared}
use Rattle.src_lib.proofs.pairs.compare.Given as goal

abbrev pub invariant-loop-k : goal.invariant-loop-k
invariant-loop-k l =
    compared (drop l.k (drop l.from l.left.cells)) (drop l.k (drop l.at l.right.cells))
    ≡ compared (drop l.from l.left.cells) (drop l.at l.right.cells)
