use Rattle.std.proofs.Common.{◌≡◌, drop, max}
use Rattle.c_layout.specs.Depths.{capped_depth, greatest_depth, tag_depth}
use Rattle.c_layout.proofs.tags.Tags.greatest_depth.Given as goal

abbrev pub invariant-loop-index : goal.invariant-loop-index
invariant-loop-index l =
    max l.greatest (capped_depth (greatest_depth (tag_depth l.self) (drop l.index l.members))) ≡
    capped_depth (greatest_depth (tag_depth l.self) l.members)
