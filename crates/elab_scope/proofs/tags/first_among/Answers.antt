use Rattle.std.proofs.Common.{refl, sym, ◌∙◌}
use Rattle.elab_meaning.specs.Scope.{is_named}
use Rattle.elab_scope.proofs.Positions.{step}
use Rattle.elab_scope.proofs.tags.first_among.Goals as goal

pub returns-then-is_named_at : goal.returns-then-is_named_at
returns-then-is_named_at c =
    let next = step (is_named c.args.name.now) c.loop-number.number c.args.given c.args.tags.now c.loop-number-test.true c.requires in
    sym (sym c.loop-number.invariant ∙ next ∙ rw (sym c.if-is_named_at.ensures) refl)

pub loop-number-preserved : goal.loop-number-preserved
loop-number-preserved c =
    let next = step (is_named c.args.name.now) c.loop-number.number c.args.given c.args.tags.now c.loop-number-test.true c.requires in
    sym (sym c.loop-number.invariant ∙ next ∙ rw (sym c.if-is_named_at.ensures) refl)
