use Rattle.std.proofs.Common.{[], ◌∷◌}
use Rattle.library_meaning.specs.Rows.{Behind}
use Rattle.object_meaning.specs.Memory.{copy}
use Rattle.object_meaning.specs.declared.values.Value.TheVariants.{Int, Pointer}
use Rattle.src_lib.proofs.Rows.{behind_none, changed_by}
use Rattle.src_lib.proofs.copies.memmove.Goals as goal

pub returns : goal.returns
returns c w =
    changed_by (Pointer c.args.d ∷ Pointer c.args.s ∷ Int c.args.n ∷ []) w c.args.size c.args.n (Behind 0 0) (Pointer c.args.d)
    c.args.memory.now c.copy.new.self (copy c.args.memory.now c.args.d c.args.s c.args.n) c.copy.result c.gives.result c.if-n-size.false
    c.copy.ensures (behind_none c.args.d) c.gives.ensures
