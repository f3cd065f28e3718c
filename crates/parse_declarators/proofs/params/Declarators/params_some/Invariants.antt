use Rattle.std.proofs.Common.{◌≡◌, suc, ◌+◌, ◌-◌, ◌≤◌, length}
use Rattle.parse_reading.specs.Reading.{prepended, expression}
use Rattle.parse_reading.specs.ReadingDeclarators.{params_some, declarator}
use Rattle.parse_declarators.proofs.params.Declarators.params_some.Given as goal

abbrev pub invariant-loop-turn : goal.invariant-loop-turn
invariant-loop-turn g l = record {
  on : length l.tokens ≤ length l.fn.tokens;
  low : l.height + length l.tokens ≤ l.self.depth + 1 + length l.fn.tokens;
  same : params_some (suc l.self.depth) (expression l.self.depth) (declarator l.self.depth) (length l.fn.tokens) l.fn.tokens
      ≡ prepended l.trees l.height (params_some (suc l.self.depth) (expression l.self.depth) (declarator l.self.depth)
      (l.turns - l._turn) l.tokens);
}
