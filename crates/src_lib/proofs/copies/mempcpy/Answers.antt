use Rattle.std.proofs.Common.{List, [], ◌∷◌, Ok, Err, sym, subst}
use Rattle.library_meaning.specs.Rows.{Forgot, answer}
use Rattle.object_meaning.specs.Objects.{Object}
use Rattle.object_meaning.specs.declared.values.Value.TheVariants.{Int, Pointer}
use Rattle.src_values.specs.Numbers.{Changes}
use Rattle.src_lib.specs.Does.{Does}
use Rattle.src_lib.specs.Stores.{copied_apart}
use Rattle.src_lib.specs.declared.ends.Stop.TheVariants as stops
use Rattle.src_lib.proofs.Rows.{copied_row, does_stopped, within_does}
use Rattle.src_lib.proofs.copies.mempcpy.Goals as goal

pub returns-in-Err : goal.returns-in-Err
returns-in-Err c w =
    let args = Pointer c.args.d ∷ Pointer c.args.s ∷ Int c.args.n ∷ [] in
    let objs = c.args.memory.now in
    let new = c.copy_apart.new.memory in
    within_does args w c.args.size c.args.n _ objs new (Err (stops.Undefined c.in-Err.kind)) c.if-n-size.false
    (subst (λ r. Does args w r objs new (Err (stops.Undefined c.in-Err.kind)))
    (sym (copied_row objs c.args.d c.args.s c.args.n (λ (l : List Object). Ok (answer l w (Forgot 0 c.args.n)))))
    (does_stopped args w _ objs new (copied_apart objs c.args.d c.args.s c.args.n) c.in-Err.kind
    (subst (λ x. Changes (copied_apart objs c.args.d c.args.s c.args.n) objs new x) c.in-Err.is c.copy_apart.ensures.changes)))
