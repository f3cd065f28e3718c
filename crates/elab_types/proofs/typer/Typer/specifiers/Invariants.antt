use Rattle.std.proofs.Common.{◌≡◌, ◌≤◌, map, drop}
use Rattle.c_tree.specs.Heights.{spec_height, highest}
use Rattle.elab_meaning.specs.Trees.{read_spec}
use Rattle.elab_scope.specs.States.{state_of, Grows}
use Rattle.elab_types.specs.Specifiers.{gathered_on, specifiers_kept}
use Rattle.elab_types.proofs.typer.Typer.specifiers.Given as goal

abbrev pub invariant-loop-spec : goal.invariant-loop-spec
invariant-loop-spec g l = record {
  types : gathered_on l.gathered (map read_spec (drop l.spec-index l.specs)) (state_of l.state)
      ≡ specifiers_kept (map read_spec l.specs) (state_of l.fn.state);
  grows : Grows l.fn.state l.state;
  low : highest (map spec_height (drop l.spec-index l.specs)) ≤ l.self.room;
}
