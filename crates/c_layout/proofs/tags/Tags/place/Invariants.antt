use Rattle.std.proofs.Common.{◌≡◌, drop}
use Rattle.std.specs.Option.{option_map}
use Rattle.c_layout.specs.Layouts.{member_layouts, tag_layout}
use Rattle.c_layout.specs.Capped.{IsCut, placed, placed_behind}
use Rattle.c_layout.proofs.tags.Tags.place.Given as goal

abbrev pub invariant-loop-index : goal.invariant-loop-index
invariant-loop-index l =
    (option_map placed (member_layouts (tag_layout l.self) l.members) ≡
    option_map (placed_behind l.placed) (member_layouts (tag_layout l.self) (drop l.index l.members))) ×
    IsCut l.placed
