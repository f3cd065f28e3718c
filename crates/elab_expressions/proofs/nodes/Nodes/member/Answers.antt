use Rattle.elab_meaning.specs.Expressions.{base_part}
use Rattle.elab_meaning.specs.Trees.{read_expr}
use Rattle.elab_expressions.proofs.Following.{one_part}
use Rattle.elab_expressions.specs.Words.{selected}
use Rattle.elab_expressions.proofs.nodes.Nodes.member.Goals as goal

pub returns-clause-types : goal.returns-clause-types
returns-clause-types g c =
    one_part (base_part c.args.arrow (read_expr c.args.base.now)) (λ tags x. selected tags x c.args.arrow c.args.name.now c.args.at) c.args.state.now _ _ _ _
    c.in_ok-base.ensures.types c.tags.ensures c.selected.ensures
