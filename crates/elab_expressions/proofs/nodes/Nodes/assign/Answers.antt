use Rattle.elab_meaning.specs.Expressions.{value_part}
use Rattle.elab_meaning.specs.Nodes.{assign_node}
use Rattle.elab_meaning.specs.Trees.{read_expr}
use Rattle.elab_expressions.proofs.Following.{two_parts}
use Rattle.elab_expressions.proofs.nodes.Nodes.assign.Goals as goal

pub returns-clause-types : goal.returns-clause-types
returns-clause-types g c =
    two_parts ((read_expr c.args.to.now).typed) (value_part (read_expr c.args.from.now)) (λ tags a b. assign_node tags c.args.op a b c.args.at) c.args.state.now _ _ _ _ _
    c.in_ok-to.ensures.types c.tags.ensures c.assign-node.ensures
