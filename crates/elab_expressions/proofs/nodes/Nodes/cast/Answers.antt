use Rattle.elab_meaning.specs.Expressions.{value_part}
use Rattle.elab_meaning.specs.Nodes.{cast_node}
use Rattle.elab_meaning.specs.Trees.{read_expr}
use Rattle.elab_expressions.proofs.Following.{one_part}
use Rattle.elab_expressions.proofs.nodes.Nodes.cast.Goals as goal

pub returns-clause-types : goal.returns-clause-types
returns-clause-types g c =
    let of = rw c.in_ok-to.ensures.ok.1 at c.value-of.ensures.types in
    one_part (value_part (read_expr c.args.of.now)) (λ tags x. cast_node tags c.args.to x c.args.at) c.args.state.now _ _ _ _
    of c.tags.ensures (rw c.in_ok-to.ensures.ok.0 at c.cast-node.ensures)
