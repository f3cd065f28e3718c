use Rattle.std.specs.Prelude.{◌≡◌, take, drop}
use Rattle.std.specs.List.{list_any}
use Rattle.src_lib.specs.Blocks.{is_part}
use Rattle.src_lib.proofs.blocks.any_part.Given as goal

abbrev pub invariant-loop-k : goal.invariant-loop-k
invariant-loop-k l =
    list_any is_part (drop l.k (take l.count (drop l.start l.object.cells))) ≡ list_any is_part (take l.count (drop l.start l.object.cells))
