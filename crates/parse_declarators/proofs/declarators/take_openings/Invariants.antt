use Rattle.std.proofs.Common.{ℕ, ◌≤◌, suc, length}
use Rattle.parse_reading.specs.Reading.{expression}
use Rattle.parse_reading.specs.ReadingDeclarators.{declarator, whole}
use Rattle.parse_declarators.proofs.Openings.{Inside}
use Rattle.parse_declarators.proofs.declarators.take_openings.Given as goal

abbrev pub invariant-loop-outer : goal.invariant-loop-outer
invariant-loop-outer l = record {
  on : length l.tokens ≤ length l.fn.tokens;
  inside : (n : ℕ) → Inside n (whole (suc n) (expression n) (declarator n) (suc (length l.fn.tokens)) l.fn.tokens) l.outer
      l.inmost l.tokens;
}

abbrev pub decreases-loop-outer : goal.decreases-loop-outer
decreases-loop-outer l = length l.tokens
