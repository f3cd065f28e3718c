use Rattle.elab_meaning.specs.Expressions.{value_part}
use Rattle.elab_meaning.specs.Nodes.{index_node}
use Rattle.elab_meaning.specs.Trees.{read_expr}
use Rattle.elab_expressions.proofs.Following.{two_parts}
use Rattle.elab_expressions.proofs.nodes.Nodes.index.Goals as goal

pub returns-clause-types : goal.returns-clause-types
returns-clause-types g c =
    two_parts (value_part (read_expr c.args.a.now)) (value_part (read_expr c.args.b.now)) (λ tags a b. index_node tags a b c.args.at) c.args.state.now _ _ _ _ _
    c.in_ok-a.ensures.types c.tags.ensures c.index-node.ensures
