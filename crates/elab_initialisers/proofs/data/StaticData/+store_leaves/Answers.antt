use Rattle.std.proofs.Common.{sym, ap, ◌∙◌}
use Rattle.std.specs.Prelude.{flat_map}
use Rattle.std.proofs.lemmas.List.{at_drop_all}
use Rattle.elab_meaning.specs.Initialisers.{leaves}
use Rattle.elab_initialisers.specs.Stored.{stored_leaves}
use Rattle.elab_initialisers.proofs.Gathered.{leaves-List}
use Rattle.elab_initialisers.proofs.data.StaticData.+store_leaves.Goals as goal

pub returns-after-loop-item : goal.returns-after-loop-item
returns-after-loop-item t c =
    let items = c.as_slice-item-items in
    let all = ap (flat_map leaves) items.ensures ∙ sym (leaves-List c.in-List.items c.in-List.place) ∙ ap leaves (sym c.in-List.is) in
    sym (at_drop_all (λ rest. stored_leaves c.args.self.now.tags.now c.args.self.now.objects.now c.loop-item.bytes.items (flat_map leaves rest)) items.result.now c.loop-item.item-index c.loop-item-test.false)
    ∙ c.loop-item.invariant
    ∙ ap (λ ls. stored_leaves c.args.self.now.tags.now c.args.self.now.objects.now c.args.bytes.now.items ls) all
