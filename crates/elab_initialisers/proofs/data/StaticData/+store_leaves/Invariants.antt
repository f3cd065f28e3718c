use Rattle.std.proofs.Common.{◌≡◌, drop}
use Rattle.std.specs.Prelude.{flat_map}
use Rattle.elab_meaning.specs.Initialisers.{leaves}
use Rattle.elab_initialisers.specs.Stored.{stored_leaves}
use Rattle.elab_initialisers.proofs.data.StaticData.+store_leaves.Given as goal

-- what is stored so far and then the rest is all
abbrev pub invariant-loop-item : goal.invariant-loop-item
invariant-loop-item l =
    stored_leaves l.self.tags.now l.self.objects.now l.bytes.items (flat_map leaves (drop l.item-index l.item-items))
    ≡ stored_leaves l.self.tags.now l.self.objects.now l.fn.bytes.items (flat_map leaves l.item-items)
