use Rattle.std.proofs.Common.{◌≡◌, ◌≤◌, pos, map, drop}
use Rattle.c_tree.specs.Heights.{enumerator_height, highest}
use Rattle.elab_meaning.specs.Declarations.{enumerators_from}
use Rattle.elab_meaning.specs.Trees.{read_enumerator}
use Rattle.elab_scope.specs.States.{state_of, Grows}
use Rattle.elab_types.proofs.typer.Typer.enumerators.Given as goal

abbrev pub invariant-loop-enumerator : goal.invariant-loop-enumerator
invariant-loop-enumerator g l = record {
  types : enumerators_from l.next (map read_enumerator (drop l.enumerator-index l.enumerators)) (state_of l.state)
      ≡ enumerators_from (pos 0) (map read_enumerator l.enumerators) (state_of l.fn.state);
  grows : Grows l.fn.state l.state;
  low : highest (map enumerator_height (drop l.enumerator-index l.enumerators)) ≤ l.self.room;
}
