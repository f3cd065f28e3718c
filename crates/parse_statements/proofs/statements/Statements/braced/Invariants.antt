use Rattle.std.proofs.Common.{◌≡◌, ◌+◌, ◌*◌, ◌^◌, ◌-◌, ◌≤◌}
use Rattle.parse_reading.specs.Reading.{prepended}
use Rattle.parse_statements.specs.Lists.{stmts_of}
use Rattle.parse_statements.proofs.statements.Statements.braced.Given as goal

abbrev pub invariant-loop-turn : goal.invariant-loop-turn
invariant-loop-turn g l = record {
  low : l.height ≤ 2 * l.self.depth + 1 + 2 ^ 63;
  reads : prepended l.fn.first.tree l.fn.first.height (stmts_of l.self.depth l.beside l.fn.turns l.fn.tokens)
      ≡ prepended l.trees l.height (stmts_of l.self.depth l.beside (l.turns - l._turn) l.tokens);
}
