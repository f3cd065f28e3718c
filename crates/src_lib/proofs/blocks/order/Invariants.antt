use Rattle.std.specs.Prelude.{◌≡◌, take, drop, map}
use Rattle.library_meaning.specs.Table.{order_of}
use Rattle.src_lib.specs.Texts.{byte_in}
use Rattle.src_lib.proofs.blocks.order.Given as goal

abbrev pub invariant-loop-k : goal.invariant-loop-k
invariant-loop-k l =
    order_of (map byte_in (drop l.k (take l.count (drop l.from l.left.cells)))) (map byte_in (drop l.k (take l.count (drop l.at l.right.cells))))
    ≡ order_of (map byte_in (take l.count (drop l.from l.left.cells))) (map byte_in (take l.count (drop l.at l.right.cells)))
