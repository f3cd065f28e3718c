use Rattle.std.proofs.Common.{◌∙◌, ◌+◌, List, ap, sym, drop}
use Rattle.std.specs.Option.{option_map}
use Rattle.c_layout.specs.declared.tags.Member.{Member}
use Rattle.c_layout.specs.Layouts.{tag_layout, member_layouts}
use Rattle.c_layout.specs.Capped.{placed_behind}
use Rattle.c_layout.proofs.Fair.{tags_fair}
use Rattle.c_layout.proofs.Extents.{placed_one, from_here, whole_rest}
use Rattle.c_layout.proofs.tags.Tags.place.Goals as goal

pub loop-index-preserved : goal.loop-index-preserved
loop-index-preserved c =
    let tags = c.args.self.now in
    let ms = c.args.members.now in
    let m = c.index-members-index.result in
    let i = c.loop-index.index in
    let here = from_here ms i m c.loop-index-test.true c.index-members-index.is in
    let next = sym (c.in_ok-next.was {u = tt}) ∙ rw (whole_rest ms i c.loop-index-test.true) at c.place_one.ensures.next in
    let one = placed_one (tag_layout tags) (tags_fair tags) c.loop-index.placed m (drop (i + 1) ms) c.in_ok-next.next next in (
      c.loop-index.invariant.0 ∙
          ap (λ (x : List Member). option_map (placed_behind c.loop-index.placed) (member_layouts (tag_layout tags) x)) here ∙ one,
      c.in_ok-next.ensures.cut,
    )
