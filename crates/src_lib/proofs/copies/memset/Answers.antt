use Rattle.std.proofs.Common.{◌%◌, [], ◌∷◌, subst}
use Rattle.library_meaning.specs.Rows.{Behind}
use Rattle.object_meaning.specs.declared.values.Value.TheVariants.{Int, Pointer}
use Rattle.src_values.specs.Numbers.{Changes}
use Rattle.src_lib.proofs.Rows.{behind_none, changed_by, filled_row}
use Rattle.src_lib.proofs.copies.memset.Goals as goal

pub returns : goal.returns
returns c w =
    let objs = c.args.memory.now in
    changed_by (Pointer c.args.d ∷ Int c.args.c ∷ Int c.args.n ∷ []) w c.args.size c.args.n (Behind 0 0) (Pointer c.args.d) objs
    c.fill.new.memory _ c.fill.result c.gives.result c.if-n-size.false
    (subst (λ r. Changes r objs c.fill.new.memory c.fill.result) (filled_row objs c.args.d (c.args.c % 256) c.args.n) c.fill.ensures)
    (behind_none c.args.d) c.gives.ensures
