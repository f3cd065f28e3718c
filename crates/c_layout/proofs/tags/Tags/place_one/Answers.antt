use Rattle.std.proofs.Common.{sym, ◌∙◌}
use Rattle.c_layout.specs.Layouts.{tag_layout, member_layout}
use Rattle.c_layout.proofs.Fair.{tags_fair}
use Rattle.c_layout.proofs.Extents.{extent_fair, placed_with, with_cut}
use Rattle.c_layout.proofs.tags.Tags.place_one.Goals as goal

pub with-requires-clause-positive : goal.with-requires-clause-positive
with-requires-clause-positive c =
    (extent_fair (tag_layout c.args.self.now) (tags_fair c.args.self.now) c.args.member.now c.args.behind.now c.in_ok-layout.layout
    (sym c.member_extent.ensures ∙ c.in_ok-layout.was {u = tt})).positive

pub with-requires-clause-small : goal.with-requires-clause-small
with-requires-clause-small c =
    (extent_fair (tag_layout c.args.self.now) (tags_fair c.args.self.now) c.args.member.now c.args.behind.now c.in_ok-layout.layout
    (sym c.member_extent.ensures ∙ c.in_ok-layout.was {u = tt})).small

pub returns : goal.returns
returns c =
    let f = tag_layout c.args.self.now in
    let was = sym c.member_extent.ensures ∙ c.in_ok-layout.was {u = tt} in
    let next = placed_with c.args.placed (member_layout f c.args.member.now c.args.behind.now) c.in_ok-layout.layout was in
    let cut = with_cut c.args.placed c.in_ok-layout.layout
    (extent_fair f (tags_fair c.args.self.now) c.args.member.now c.args.behind.now c.in_ok-layout.layout was) c.requires in
    rw c.with.ensures (record { next = next; cut = cut })
