use Rattle.std.proofs.Common.{[], ◌∷◌, refl, subst}
use Rattle.library_meaning.specs.Rows.{Count}
use Rattle.object_meaning.specs.declared.values.Value.TheVariants.{Int, Pointer}
use Rattle.src_values.specs.Numbers.{Changes}
use Rattle.src_lib.proofs.Rows.{changed_by, filled_row}
use Rattle.src_lib.proofs.copies.bzero.Goals as goal

pub returns : goal.returns
returns c w =
    let objs = c.args.memory.now in
    changed_by (Pointer c.args.d ∷ Int c.args.n ∷ []) w c.args.size c.args.n (Count 0) (Int 0) objs
    c.fill.new.memory _ c.fill.result c.gives.result c.if-n-size.false
    (subst (λ r. Changes r objs c.fill.new.memory c.fill.result) (filled_row objs c.args.d 0 c.args.n) c.fill.ensures)
    refl c.gives.ensures
