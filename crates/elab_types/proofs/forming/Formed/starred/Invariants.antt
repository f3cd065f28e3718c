use Rattle.std.proofs.Common.{◌≡◌}
use Rattle.elab_types.specs.Forming.{starred}
use Rattle.elab_types.proofs.forming.Formed.starred.Given as goal

abbrev pub invariant-loop-star : goal.invariant-loop-star
invariant-loop-star l = l.formed ≡ starred l._star l.fn.self
