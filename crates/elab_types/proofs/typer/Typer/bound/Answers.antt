use Rattle.elab_meaning.specs.Trees.{read_expr}
use Rattle.elab_types.proofs.Bounds.{bound_gives, expr_place}
use Rattle.elab_types.proofs.typer.Typer.bound.Goals as goal

pub returns-clause-types : goal.returns-clause-types
returns-clause-types g c =
    bound_gives (read_expr c.args.bound.now) c.args.state.now c.expression.new.state c.in_ok-value.value c.args.bound.now.place
    c.bound_of.result (expr_place c.args.bound.now) c.in_ok-value.ensures.types (rw c.tags.ensures at c.bound_of.ensures)
