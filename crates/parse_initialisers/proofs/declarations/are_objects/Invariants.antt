use Rattle.std.proofs.Common.{◌≡◌, drop, map}
use Rattle.parse_meaning.specs.Statements.{are_objects}
use Rattle.parse_initialisers.specs.Declarations.{declared_of}
use Rattle.parse_initialisers.proofs.declarations.are_objects.Given as goal

abbrev pub invariant-loop-one : goal.invariant-loop-one
invariant-loop-one l = are_objects (map declared_of l.declared) ≡ are_objects (map declared_of (drop l.one-index l.declared))
