use Rattle.elab_meaning.specs.Expressions.{wanted_part}
use Rattle.elab_meaning.specs.Operators.{wanted}
use Rattle.elab_meaning.specs.Nodes.{prefix_node}
use Rattle.elab_meaning.specs.Trees.{read_expr}
use Rattle.elab_expressions.proofs.Following.{one_part}
use Rattle.elab_expressions.proofs.nodes.Nodes.prefix.Goals as goal

pub returns-clause-types : goal.returns-clause-types
returns-clause-types g c =
    one_part (wanted_part (wanted c.args.op) (read_expr c.args.of.now)) (λ tags x. prefix_node tags c.args.op x c.args.at) c.args.state.now _ _ _ _
    c.in_ok-of.ensures.types c.tags.ensures c.prefix-node.ensures
