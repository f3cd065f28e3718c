use Rattle.std.proofs.Common.{◌≡◌, ◌+◌, ◌*◌, ◌^◌, ◌-◌, ◌≤◌, length}
use Rattle.parse_reading.specs.Reading.{prepended}
use Rattle.parse_reading.specs.ReadingStatements.{initialiser, inits}
use Rattle.parse_initialisers.proofs.initialisers.Initialisers.items.Given as goal

abbrev pub invariant-loop-turn : goal.invariant-loop-turn
invariant-loop-turn g l = record {
  low : l.height ≤ 2 * l.self.depth + 2 ^ 63;
  reads : inits (initialiser l.self.depth) (length l.fn.tokens) l.fn.tokens
      ≡ prepended l.trees l.height (inits (initialiser l.self.depth) (l._turn-end - l._turn) l.tokens);
}
