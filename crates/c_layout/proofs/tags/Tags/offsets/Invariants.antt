use Rattle.std.proofs.Common.{◌≡◌, ◌++◌, drop}
use Rattle.std.specs.Option.{option_map}
use Rattle.c_layout.specs.Layouts.{member_layouts, tag_layout}
use Rattle.c_layout.specs.Capped.{IsCut, offsets_behind, offsets_of}
use Rattle.c_layout.proofs.tags.Tags.offsets.Given as goal

abbrev pub invariant-loop-index : goal.invariant-loop-index
invariant-loop-index l =
    (option_map (offsets_of l.is_union) (member_layouts (tag_layout l.self) l.members) ≡
    option_map (λ more. l.offsets ++ more)
    (option_map (offsets_behind l.is_union l.placed) (member_layouts (tag_layout l.self) (drop l.index l.members)))) ×
    IsCut l.placed
