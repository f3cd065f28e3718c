use Rattle.std.proofs.Common.{◌+◌, ◌++◌, drop, sym, ap, ◌∙◌}
use Rattle.std.specs.Prelude.{flat_map}
use Rattle.std.proofs.lemmas.List.{append-nil, at_drop_all}
use Rattle.elab_meaning.specs.Initialisers.{leaves, links_of}
use Rattle.elab_initialisers.proofs.Gathered.{leaves-List, next_linked}
use Rattle.elab_initialisers.proofs.data.StaticData.+link_leaves.Goals as goal

pub returns-after-loop-item : goal.returns-after-loop-item
returns-after-loop-item t c =
    let items = c.as_slice-item-items in
    let all = ap (flat_map leaves) items.ensures ∙ sym (leaves-List c.in-List.items c.in-List.place) ∙ ap leaves (sym c.in-List.is) in
    sym (append-nil c.loop-item.links) ∙ sym (at_drop_all (λ rest. c.loop-item.links ++ links_of c.args.self.now.tags.now c.args.self.now.objects.now (flat_map leaves rest)) items.result.now c.loop-item.item-index c.loop-item-test.false)
    ∙ c.loop-item.invariant
    ∙ ap (λ ls. c.args.links.now ++ links_of c.args.self.now.tags.now c.args.self.now.objects.now ls) all

pub loop-item-preserved : goal.loop-item-preserved
loop-item-preserved t c =
    let tags = c.args.self.now.tags.now in
    let objects = c.args.self.now.objects.now in
    let items = c.as_slice-item-items.result.now in
    ap (λ ls. ls ++ links_of tags objects (flat_map leaves (drop (c.loop-item.item-index + 1) items))) (c.in_ok-link_leaves-in-List).ensures
    ∙ next_linked tags objects c.loop-item.links items c.loop-item.item-index c.item-item.result c.loop-item-test.true c.item-item.is
    ∙ c.loop-item.invariant
