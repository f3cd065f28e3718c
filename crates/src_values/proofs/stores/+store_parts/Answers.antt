use Rattle.std.proofs.Common.{◌<◌, ◌-◌, ◌+◌, sym, ap, ◌∙◌, arith}
use Rattle.library_meaning.specs.Memory.{put}
use Rattle.object_meaning.specs.Cells.{parts_of}
use Rattle.object_meaning.specs.Objects.{Object, with_cells}
use Rattle.src_values.proofs.Putting.{parts_next}
use Rattle.src_values.proofs.stores.+store_parts.Goals as goal

pub returns : goal.returns
returns t c =
    let some : 0 < c.args.count = omega (arith, c.if-count-eq0.false) in
    c.store_parts.ensures
    ∙ ap (λ (x : Object). with_cells x (put (c.args.at + 1) (parts_of c.args.of (c.args.k + 1) (c.args.count - 1)) x.cells)) c.put.ensures
    ∙ sym (parts_next c.args.at c.args.count c.args.k c.args.of c.args.object.now some c.requires.within)
