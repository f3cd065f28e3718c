use Rattle.std.proofs.Common.{◌≡◌, ◌≤◌, drop}
use Rattle.elab_scope.specs.States.{state_of, Grows}
use Rattle.elab_expressions.specs.Words.{heights, parts_of, values_onto}
use Rattle.elab_expressions.proofs.nodes.Nodes.values.Given as goal

abbrev pub invariant-loop-expr : goal.invariant-loop-expr
invariant-loop-expr g l = record {
  types : values_onto l.values (parts_of (drop l.expr-index l.exprs)) (state_of l.state) ≡ values_onto l.fn.values (parts_of l.exprs) (state_of l.initial.state);
  grows : Grows l.initial.state l.state;
  low : heights (drop l.expr-index l.exprs) ≤ l.self.room;
}
