use Rattle.elab_meaning.specs.Nodes.{sizeof_type_node}
use Rattle.elab_expressions.proofs.Following.{by_tags_types}
use Rattle.elab_expressions.proofs.nodes.size_of_type.Goals as goal

pub returns : goal.returns
returns c = by_tags_types (λ tags. sizeof_type_node tags c.args.of c.args.at) c.args.state.now _ _ c.tags.ensures c.size_of_type-node.ensures
