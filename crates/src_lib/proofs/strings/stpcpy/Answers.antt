use Rattle.std.proofs.Common.{[], ◌∷◌}
use Rattle.library_meaning.specs.Rows.{Forgot}
use Rattle.object_meaning.specs.declared.values.Value.TheVariants.{Pointer}
use Rattle.src_lib.proofs.Rows.{with_ok, with_err}
use Rattle.src_lib.proofs.strings.stpcpy.Goals as goal

pub returns-in-Ok : goal.returns-in-Ok
returns-in-Ok c w =
    with_ok (Pointer c.args.d ∷ Pointer c.args.s ∷ []) (λ k. Forgot 0 k) w _ c.args.memory.now c.copy_text.new.memory c.in-Ok.len c.forgot_behind.result
    (c.in-Ok.ensures.gives (λ k. Forgot 0 k) w) c.forgot_behind.ensures

pub returns-in-Err : goal.returns-in-Err
returns-in-Err c w =
    with_err (Pointer c.args.d ∷ Pointer c.args.s ∷ []) (λ k. Forgot 0 k) w _ c.args.memory.now c.copy_text.new.memory c.in-Err.stop
    (c.in-Err.ensures.gives (λ k. Forgot 0 k) w)
