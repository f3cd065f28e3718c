use Rattle.std.proofs.Common.{◌≡◌, ◌∙◌, List, Some, true, ap, sym, rules}
use Rattle.std.specs.Option.{option_map}
use Rattle.c_layout.specs.declared.tags.Member.{Member}
use Rattle.c_layout.specs.Layouts.{member_layouts, tag_layout}
use Rattle.c_layout.specs.Capped.{placed}
use Rattle.c_layout.proofs.Fair.{tags_fair}
use Rattle.c_layout.proofs.Extents.{members_align, defined_extent}
use Rattle.c_layout.proofs.tags.Tags.definition_extent.Goals as goal

pub aggregate-requires-clause-small : goal.aggregate-requires-clause-small
aggregate-requires-clause-small c =
    let tags = c.args.self.now in
    (members_align (tag_layout tags) (tags_fair tags) c.as_slice.result.now c.in_ok-placed.placed
    (sym c.place.ensures ∙ c.in_ok-placed.was {u = tt})).1

pub returns : goal.returns
returns c =
    let tags = c.args.self.now in
    let as_slice = c.as_slice.ensures in
    let place = c.place.ensures in
    let was = c.in_ok-placed.was {u = tt} in
    let members = ap (λ (ms : List Member). option_map placed (member_layouts (tag_layout tags) ms)) as_slice in
    let e : option_map placed (member_layouts (tag_layout tags) c.args.def.now.members) ≡ Some c.in_ok-placed.placed = cc in
    let complete : c.args.def.now.complete ≡ true = search rules in
    let whole = defined_extent (tag_layout tags) (tags_fair tags) c.args.def.now c.in_ok-placed.placed complete e in
    let same = c.aggregate.ensures in
    cc
