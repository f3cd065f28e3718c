use Rattle.std.proofs.Common.{◌≡◌, Some, ap, ◌∙◌}
use Rattle.std.specs.Option.{option_map}
use Rattle.c_layout.specs.Layouts.{tag_layout, layout}
use Rattle.c_layout.specs.Capped.{capped}
use Rattle.c_layout.proofs.Extents.{repeated_extent}
use Rattle.c_layout.proofs.TypeLayouts.{type_layout-array}
use Rattle.c_layout.proofs.tags.Tags.+extent.Goals as goal

pub returns-in_ok-element-in-Array : goal.returns-in_ok-element-in-Array
returns-in_ok-element-in-Array t c =
    let tags = c.args.self.now in
    let n = c.in-Array.count in
    let of = c.in-Array.of in
    let form = ap (layout tags) c.in-Array.is ∙ type_layout-array (tag_layout tags) of n in
    let same = ap (layout tags) c.get.ensures in
    let was = c.in_ok-element-in-Array.was {u = tt} in
    let e : option_map capped (layout tags of) ≡ Some c.in_ok-element-in-Array.element = cc in
    let q = repeated_extent n (layout tags of) c.in_ok-element-in-Array.element e in
    cc
