use Rattle.std.proofs.Common.{◌≡◌, drop}
use Rattle.elab_types.specs.Forming.{deepest_of}
use Rattle.elab_types.proofs.forming.deepest_of.Given as goal

-- the greatest so far and of the rest
abbrev pub invariant-loop-ctype : goal.invariant-loop-ctype
invariant-loop-ctype l = deepest_of l.tags l.greatest (drop l.ctype-index l.types) ≡ deepest_of l.tags l.fn.depth l.types
