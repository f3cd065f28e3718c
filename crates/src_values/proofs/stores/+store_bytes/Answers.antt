use Rattle.std.proofs.Common.{◌<◌, ◌-◌, ◌+◌, ◌/◌, map, sym, ap, ◌∙◌, arith}
use Rattle.library_meaning.specs.Memory.{put}
use Rattle.object_meaning.specs.Cells.{bytes_of}
use Rattle.object_meaning.specs.Objects.{Object, with_cells}
use Rattle.object_meaning.specs.declared.values.Cell.TheVariants.{Byte}
use Rattle.src_values.proofs.Putting.{bytes_next}
use Rattle.src_values.proofs.stores.+store_bytes.Goals as goal

pub returns : goal.returns
returns t c =
    let some : 0 < c.args.count = omega (arith, c.if-count-eq0.false) in
    c.store_bytes.ensures
    ∙ ap (λ (x : Object). with_cells x (put (c.args.at + 1) (map Byte (bytes_of (c.args.count - 1) (c.args.number / 256))) x.cells))
    c.put.ensures
    ∙ sym (bytes_next c.args.at c.args.count c.args.number c.args.object.now some c.requires)
