use Rattle.std.specs.Prelude.{◌≡◌, take, drop}
use Rattle.std.specs.List.{list_any}
use Rattle.object_meaning.specs.Cells.{is_uninit}
use Rattle.src_lib.proofs.blocks.any_uninit.Given as goal

abbrev pub invariant-loop-k : goal.invariant-loop-k
invariant-loop-k l =
    list_any is_uninit (drop l.k (take l.count (drop l.start l.object.cells))) ≡ list_any is_uninit (take l.count (drop l.start l.object.cells))
