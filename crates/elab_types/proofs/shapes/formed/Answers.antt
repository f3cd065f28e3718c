use Rattle.std.proofs.Common.{sym, ◌∙◌}
use Rattle.elab_types.proofs.Standing.{formed_whole}
use Rattle.elab_types.proofs.shapes.formed.Goals as goal

pub returns-then-is_settled : goal.returns-then-is_settled
returns-then-is_settled c =
    formed_whole c.args.tags.now c.args.parts.now c.args.ctype c.in_ok-formed.formed c.in_ok-formed.ensures
    (sym c.is_settled.ensures ∙ c.if-is_settled.true)
