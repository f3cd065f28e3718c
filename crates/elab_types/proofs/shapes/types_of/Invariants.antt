use Rattle.std.proofs.Common.{◌≡◌, take}
use Rattle.elab_types.specs.Shapes.{types_of}
use Rattle.elab_types.proofs.shapes.types_of.Given as goal

abbrev pub invariant-loop-param : goal.invariant-loop-param
invariant-loop-param l = l.types ≡ types_of (take l.param-index l.params)
