use Rattle.std.proofs.Common.{◌≡◌, suc, ◌+◌, ◌≤◌, Some, max, length}
use Rattle.parse_reading.specs.Reading.{expression}
use Rattle.parse_reading.specs.ReadingDeclarators.{declarator}
use Rattle.parse_declarators.specs.Named.{as_read}
use Rattle.parse_declarators.specs.Suffixes.{around}
use Rattle.parse_declarators.proofs.params.Declarators.around.Given as goal

abbrev pub invariant-loop-opening : goal.invariant-loop-opening
invariant-loop-opening g l = record {
  on : length l.tokens ≤ length l.fn.tokens;
  low : l.declarator.height + length l.tokens ≤ max l.fn.inner.height (l.self.depth + 1) + length l.fn.tokens;
  same : around (suc l.self.depth) (expression l.self.depth) (declarator l.self.depth) l.fn.outer (Some (as_read l.fn.inner l.fn.tokens))
      ≡ around (suc l.self.depth) (expression l.self.depth) (declarator l.self.depth) l.outer (Some (as_read l.declarator l.tokens));
}

abbrev pub decreases-loop-opening : goal.decreases-loop-opening
decreases-loop-opening g l = length l.outer
