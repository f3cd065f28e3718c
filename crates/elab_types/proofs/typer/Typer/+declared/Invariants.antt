use Rattle.std.proofs.Common.{◌≡◌, ◌≤◌, length, map, drop}
use Rattle.c_tree.specs.Heights.{param_height, highest}
use Rattle.elab_meaning.specs.Declarations.{params_from}
use Rattle.elab_meaning.specs.Trees.{read_param}
use Rattle.elab_scope.specs.States.{state_of, Grows}
use Rattle.elab_types.specs.Shapes.{parameter}
use Rattle.elab_types.proofs.Listing.{params_onto}
use Rattle.elab_types.proofs.typer.Typer.+declared.Given as goal

abbrev pub invariant-params_from-loop-param : goal.invariant-params_from-loop-param
invariant-params_from-loop-param g l = record {
  types : params_onto (map parameter l.all) l.start l.param-index (map read_param (drop l.param-index l.params)) (state_of l.state)
      ≡ params_from l.start 0 (map read_param l.params) (state_of l.fn.state);
  count : length l.all ≡ l.param-index;
  grows : Grows l.fn.state l.state;
  low : highest (map param_height (drop l.param-index l.params)) ≤ l.self.room;
}
