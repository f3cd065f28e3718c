use Rattle.std.proofs.Common.{◌≡◌, map, take}
use Rattle.parse_externals.proofs.externals.names_of.Given as goal

abbrev pub invariant-loop-one : goal.invariant-loop-one
invariant-loop-one l = l.names ≡ map (λ one. one.name.now) (take l.one-index l.declared)
