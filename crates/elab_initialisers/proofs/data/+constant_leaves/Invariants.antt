use Rattle.std.proofs.Common.{◌≡◌, drop}
use Rattle.std.specs.Prelude.{flat_map}
use Rattle.elab_meaning.specs.Initialisers.{leaves}
use Rattle.elab_meaning.specs.Statements.{constant_leaves}
use Rattle.elab_scope.specs.States.{state_of}
use Rattle.elab_initialisers.proofs.data.+constant_leaves.Given as goal

-- the answer of the rest is that of all
abbrev pub invariant-loop-item : goal.invariant-loop-item
invariant-loop-item l =
    constant_leaves (flat_map leaves (drop l.item-index l.item-items)) (state_of l.state) ≡ constant_leaves (flat_map leaves l.item-items) (state_of l.state)
