use Rattle.std.proofs.Common.{[], ◌∷◌}
use Rattle.library_meaning.specs.Rows.{Behind}
use Rattle.object_meaning.specs.declared.values.Value.TheVariants.{Pointer}
use Rattle.src_lib.proofs.Rows.{behind_none, with_ok, with_err}
use Rattle.src_lib.proofs.strings.strcpy.Goals as goal

pub returns-in-Ok : goal.returns-in-Ok
returns-in-Ok c w =
    with_ok (Pointer c.args.d ∷ Pointer c.args.s ∷ []) (λ k. Behind 0 0) w _ c.args.memory.now c.copy_text.new.memory c.in-Ok.field-0 (Pointer c.args.d)
    (c.in-Ok.ensures.gives (λ k. Behind 0 0) w) (behind_none c.args.d)

pub returns-in-Err : goal.returns-in-Err
returns-in-Err c w =
    with_err (Pointer c.args.d ∷ Pointer c.args.s ∷ []) (λ k. Behind 0 0) w _ c.args.memory.now c.copy_text.new.memory c.in-Err.stop
    (c.in-Err.ensures.gives (λ k. Behind 0 0) w)
