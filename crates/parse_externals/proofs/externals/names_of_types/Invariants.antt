use Rattle.std.proofs.Common.{◌≡◌, map, take}
use Rattle.c_headers.specs.Headers.{type_view}
use Rattle.parse_externals.proofs.externals.names_of_types.Given as goal

abbrev pub invariant-loop-t : goal.invariant-loop-t
invariant-loop-t l = l.names ≡ map (λ t. (type_view t).name) (take l.t-index l.types)
