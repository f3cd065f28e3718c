use Rattle.elab_meaning.specs.Expressions.{value_part}
use Rattle.elab_meaning.specs.Nodes.{cond_node}
use Rattle.elab_meaning.specs.Trees.{read_expr}
use Rattle.elab_expressions.proofs.Following.{three_parts}
use Rattle.elab_expressions.proofs.nodes.Nodes.conditional.Goals as goal

pub returns-clause-types : goal.returns-clause-types
returns-clause-types g c =
    let arms = rw c.in_ok-tested.ensures.ok.1 at c.two-arms.ensures.types in
    three_parts (value_part (read_expr c.args.test.now)) (value_part (read_expr c.args.yes.now)) (value_part (read_expr c.args.no.now))
    (λ tags t a b. cond_node tags t a b c.args.at) c.args.state.now _ _ _ _ _ _ _
    c.in_ok-test.ensures.types arms c.tags.ensures (rw c.in_ok-tested.ensures.ok.0 at c.conditional-node.ensures)
