use Rattle.std.proofs.Common.{arith, ap, ◌∙◌, w32, pos, ◌+ℤ◌}
use Rattle.std.proofs.lemmas.Grind.{common_steps}
use Rattle.std.proofs.lemmas.Int.{ints, to_z-of_z}
use Rattle.elab_meaning.specs.Declarations.{as_int}
use Rattle.elab_types.proofs.Turns.{turn, further}
use Rattle.elab_types.proofs.typer.Typer.enumerators.Goals as goal

pub loop-enumerator-preserved : goal.loop-enumerator-preserved
loop-enumerator-preserved g c = record {
  types =
      turn c.args.enumerators.now c.loop-enumerator.enumerator-index c.enumerator-item.result _ _ _ _ _ c.loop-enumerator-test.true c.enumerator-item.is
      c.in_ok-value.ensures.types
      (to_z-of_z w32 c.after-next.result (grind (arith, ints, c.after-next.type_inv)) ∙ c.after-next.ensures
      ∙ ap (λ v. as_int (v +ℤ pos 1)) (to_z-of_z w32 c.in_ok-value.value (grind (arith, ints))))
      ∙ c.loop-enumerator.invariant.types;
  grows = record { names = grind (arith, common_steps, c.loop-enumerator.invariant.grows.names, c.in_ok-value.ensures.grows.names) };
  low = further c.args.enumerators.now c.loop-enumerator.enumerator-index c.enumerator-item.result _ c.loop-enumerator-test.true c.loop-enumerator.invariant.low;
}
