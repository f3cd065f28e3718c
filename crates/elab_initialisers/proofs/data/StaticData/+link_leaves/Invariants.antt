use Rattle.std.proofs.Common.{◌≡◌, ◌++◌, drop}
use Rattle.std.specs.Prelude.{flat_map}
use Rattle.elab_meaning.specs.Initialisers.{leaves, links_of}
use Rattle.elab_initialisers.proofs.data.StaticData.+link_leaves.Given as goal

-- the links so far and those of the rest are all
abbrev pub invariant-loop-item : goal.invariant-loop-item
invariant-loop-item l =
    l.links ++ links_of l.self.tags.now l.self.objects.now (flat_map leaves (drop l.item-index l.item-items))
    ≡ l.fn.links ++ links_of l.self.tags.now l.self.objects.now (flat_map leaves l.item-items)
