use Rattle.elab_meaning.specs.Expressions.{before_format}
use Rattle.elab_meaning.specs.Trees.{read_expr}
use Rattle.elab_expressions.proofs.Following.{two_steps}
use Rattle.elab_expressions.specs.Calls.{arguments_by, call_of, called_by}
use Rattle.elab_expressions.specs.Words.{name_in, parts_of}
use Rattle.elab_expressions.proofs.nodes.Nodes.call.Goals as goal

pub returns-clause-types : goal.returns-clause-types
returns-clause-types g c =
    let callee = read_expr c.args.callee.now in
    let parts = parts_of c.args.args.now in
    let values = rw (c.in_ok-called.ensures.ok.1, c.before_format.ensures) at c.arguments-values.ensures.types in
    two_steps (called_by (name_in callee.form) callee) (λ f. arguments_by (before_format f) parts) (λ tags f xs. call_of tags f parts xs c.args.at)
    c.args.state.now _ _ _ _ _ _ c.in_ok-f.ensures.types values c.tags.ensures (rw c.in_ok-called.ensures.ok.0 at c.call_of.ensures)
