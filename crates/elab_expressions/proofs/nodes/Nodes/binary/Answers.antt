use Rattle.elab_meaning.specs.Expressions.{value_part}
use Rattle.elab_meaning.specs.Nodes.{binary_node}
use Rattle.elab_meaning.specs.Trees.{read_expr}
use Rattle.elab_expressions.proofs.Following.{two_parts}
use Rattle.elab_expressions.proofs.nodes.Nodes.binary.Goals as goal

pub returns-clause-types : goal.returns-clause-types
returns-clause-types g c =
    two_parts (value_part (read_expr c.args.a.now)) (value_part (read_expr c.args.b.now)) (λ tags a b. binary_node tags c.args.op a b c.args.at) c.args.state.now _ _ _ _ _
    c.in_ok-a.ensures.types c.tags.ensures c.binary-node.ensures
