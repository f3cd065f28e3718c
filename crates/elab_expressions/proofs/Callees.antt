-- What a call calls, by the name that it is or as another expression.
use Rattle.std.proofs.Common.{◌≡◌, Option, None, Some, Result, sym, subst}
use Rattle.std.specs.Option.{option_map}
use Rattle.fc_base.specs.declared.refusals.Fault.{Fault}
use Rattle.fc_base.specs.declared.refusals.Place.{Place}
use Rattle.c_tree.specs.declared.nodes.Expr.{Expr}
use Rattle.elab_meaning.specs.Scope.{Name}
use Rattle.elab_meaning.specs.Trees.{read_expr}
use Rattle.elab_scope.specs.declared.state.State.{State}
use Rattle.elab_types.proofs.Bounds.{expr_place}
use Rattle.elab_types.specs.Nests.{TypesAs}
use Rattle.elab_expressions.specs.declared.called.Called.{Called}
use Rattle.elab_expressions.specs.Calls.{called_by, called_named, function_of}
use Rattle.elab_expressions.specs.Words.{name_in}

pub by_name : (e : Expr) (name : Name) (r : Result (Option Called) Fault) (s : State) → Some name ≡ name_in (read_expr e).form
    → TypesAs (option_map function_of) (called_named name e.place) s r s
    → TypesAs (option_map function_of) (called_by (name_in (read_expr e).form) (read_expr e)) s r s
by_name e name r s is types =
    subst (λ (o : Option Name). TypesAs (option_map function_of) (called_by o (read_expr e)) s r s) is
    (subst (λ (at : Place). TypesAs (option_map function_of) (called_named name at) s r s) (sym (expr_place e)) types)

pub by_other : (e : Expr) (r : Result (Option Called) Fault) (s t : State) → None ≡ name_in (read_expr e).form
    → TypesAs (option_map function_of) (called_by None (read_expr e)) s r t
    → TypesAs (option_map function_of) (called_by (name_in (read_expr e).form) (read_expr e)) s r t
by_other e r s t is types = subst (λ (o : Option Name). TypesAs (option_map function_of) (called_by o (read_expr e)) s r t) is types
