-- It is the least of those that were looked at.
use Rattle.std.proofs.Common.{◌≤◌, ◌<◌, ℕ}
use Rattle.bm_image.specs.Images.{function_at}
use Rattle.byte_machine.proofs.stack.least_weight.Given as goal

abbrev pub invariant-loop-k : goal.invariant-loop-k
invariant-loop-k l = record {
  some : 1 ≤ l.least;
  least : (j : ℕ) → j < l.k → l.least ≤ (function_at l.functions j).weight;
}
