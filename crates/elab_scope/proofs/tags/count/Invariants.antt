use Rattle.std.proofs.Common.{◌≤◌, ◌-◌, length}
use Rattle.elab_scope.proofs.tags.count.Given as goal

abbrev pub invariant-loop-count : goal.invariant-loop-count
invariant-loop-count l = l.count ≤ length l.tags

abbrev pub decreases-loop-count : goal.decreases-loop-count
decreases-loop-count l = 4294967295 - l.count
