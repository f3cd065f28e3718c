use Rattle.std.proofs.Common.{◌≡◌, suc, ◌+◌, ◌≤◌, max, length}
use Rattle.parse_reading.specs.Reading.{expression}
use Rattle.parse_reading.specs.ReadingDeclarators.{suffixes, declarator}
use Rattle.parse_declarators.specs.Named.{as_read}
use Rattle.parse_declarators.proofs.params.Declarators.suffixes.Given as goal

abbrev pub invariant-loop-suffix : goal.invariant-loop-suffix
invariant-loop-suffix g l = record {
  on : length l.tokens ≤ length l.fn.tokens;
  low : l.left.height + length l.tokens ≤ max l.fn.first.height (l.self.depth + 1) + length l.fn.tokens;
  same : suffixes (suc l.self.depth) (expression l.self.depth) (declarator l.self.depth) (length l.fn.tokens) l.start
      (as_read l.fn.first l.fn.tokens)
      ≡ suffixes (suc l.self.depth) (expression l.self.depth) (declarator l.self.depth) (length l.tokens) l.start (as_read l.left l.tokens);
}

abbrev pub decreases-loop-suffix : goal.decreases-loop-suffix
decreases-loop-suffix g l = length l.tokens
