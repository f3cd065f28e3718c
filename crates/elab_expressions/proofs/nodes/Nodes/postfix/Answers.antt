use Rattle.elab_meaning.specs.Nodes.{postfix_node}
use Rattle.elab_meaning.specs.Trees.{read_expr}
use Rattle.elab_expressions.proofs.Following.{one_part}
use Rattle.elab_expressions.proofs.nodes.Nodes.postfix.Goals as goal

pub returns-clause-types : goal.returns-clause-types
returns-clause-types g c =
    one_part ((read_expr c.args.of.now).typed) (λ tags x. postfix_node tags c.args.op x c.args.at) c.args.state.now _ _ _ _
    c.in_ok-of.ensures.types c.tags.ensures c.postfix-node.ensures
