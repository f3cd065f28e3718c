use Rattle.std.proofs.Common.{sym, subst}
use Rattle.fc_base.specs.declared.refusals.Place.{Place}
use Rattle.elab_conversions.specs.Answers.{Gives}
use Rattle.elab_meaning.specs.Expressions.{value_part}
use Rattle.elab_meaning.specs.Trees.{read_expr}
use Rattle.elab_types.proofs.Bounds.{expr_place}
use Rattle.elab_expressions.proofs.Following.{two_parts}
use Rattle.elab_expressions.specs.Words.{sized}
use Rattle.elab_expressions.proofs.nodes.Nodes.size_call.Goals as goal

pub returns-clause-types : goal.returns-clause-types
returns-clause-types g c =
    let node =
    subst (λ (mode : Place). Gives c.sized.result (sized c.tags.result.now c.in_ok-pointer.pointer c.in_ok-pointer.mode mode c.args.at))
    (sym (expr_place c.args.b.now)) c.sized.ensures in
    two_parts (value_part (read_expr c.args.a.now)) (value_part (read_expr c.args.b.now))
    (λ tags p m. sized tags p m (read_expr c.args.b.now).place c.args.at) c.args.state.now _ _ _ _ _
    c.in_ok-pointer.ensures.types c.tags.ensures node
