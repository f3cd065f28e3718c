use Rattle.std.proofs.Common.{List, [], ◌∷◌, Ok, sym, subst}
use Rattle.library_meaning.specs.Rows.{Behind, answer}
use Rattle.object_meaning.specs.Objects.{Object}
use Rattle.object_meaning.specs.declared.values.Value.TheVariants.{Int, Pointer}
use Rattle.src_lib.specs.Does.{Does}
use Rattle.src_lib.specs.Stores.{copied_apart}
use Rattle.src_lib.proofs.Rows.{behind_none, copied_row, does_gave, within_does}
use Rattle.src_lib.proofs.copies.memcpy.Goals as goal

pub returns : goal.returns
returns c w =
    let args = Pointer c.args.d ∷ Pointer c.args.s ∷ Int c.args.n ∷ [] in
    let objs = c.args.memory.now in
    let new = c.copy_apart.new.memory in
    within_does args w c.args.size c.args.n _ objs new c.gives.result c.if-n-size.false
    (subst (λ r. Does args w r objs new c.gives.result)
    (sym (copied_row objs c.args.d c.args.s c.args.n (λ (l : List Object). Ok (answer l w (Behind 0 0)))))
    (does_gave args w (Behind 0 0) (Pointer c.args.d) objs new (copied_apart objs c.args.d c.args.s c.args.n) c.copy_apart.result
    c.gives.result c.copy_apart.ensures.changes (behind_none c.args.d) c.gives.ensures))
