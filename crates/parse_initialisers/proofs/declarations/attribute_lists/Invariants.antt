use Rattle.std.proofs.Common.{◌≡◌, ◌-◌, length}
use Rattle.parse_reading.specs.ReadingStatements.{attribute_lists}
use Rattle.parse_leaves.proofs.AttributeSteps.{before}
use Rattle.parse_initialisers.proofs.declarations.attribute_lists.Given as goal

abbrev pub invariant-loop-turn : goal.invariant-loop-turn
invariant-loop-turn l = attribute_lists (length l.fn.tokens) l.fn.tokens ≡ before l.lists (attribute_lists (l._turn-end - l._turn) l.tokens)
