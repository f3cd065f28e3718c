use Rattle.std.proofs.Common.{◌≡◌, ◌+◌, ◌*◌, ◌^◌, ◌-◌, ◌≤◌, map}
use Rattle.parse_reading.specs.ReadingDeclarators.{declarator}
use Rattle.parse_reading.specs.ReadingStatements.{initialiser}
use Rattle.parse_declarators.specs.Named.{named_of}
use Rattle.parse_initialisers.specs.Declarations.{declared_of}
use Rattle.parse_initialisers.specs.Readers.{init_declarators_from}
use Rattle.parse_initialisers.proofs.InitDeclarators.{gathered}
use Rattle.parse_initialisers.proofs.declarations.init_declarators.Given as goal

abbrev pub invariant-loop-turn : goal.invariant-loop-turn
invariant-loop-turn l = record {
  low : l.height ≤ 2 * l.depth + 2 ^ 63;
  next_low : l.named.height ≤ 2 * l.depth + 2 ^ 63;
  reads : init_declarators_from (declarator l.depth) (initialiser l.depth) l.fn.turns
      (named_of l.fn.first.tree) l.fn.first.height l.fn.tokens
      ≡ gathered l.found.trees (map declared_of l.found.declared) l.height
      (init_declarators_from (declarator l.depth) (initialiser l.depth) (l.turns - l._turn)
      (named_of l.named.tree) l.named.height l.tokens);
}
