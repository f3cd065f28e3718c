use Rattle.std.proofs.Common.{◌≡◌, ◌+◌, length, map, subst, ap, ◌∙◌}
use Rattle.std.proofs.lemmas.List.{length-map}
use Rattle.std.specs.Prelude.{nat_abs}
use Rattle.library_meaning.specs.Memory.{put}
use Rattle.object_meaning.specs.Objects.{with_cells}
use Rattle.object_meaning.specs.declared.values.Cell.TheVariants.{Byte}
use Rattle.src_values.proofs.Rooms.{offset_is, put_done, bytes_are}
use Rattle.src_values.proofs.memory.Memory.put_bytes.Goals as goal

pub invariant_of-self : goal.invariant_of-self
invariant_of-self c =
    let start = c.unsigned_abs.ensures.value ∙ ap nat_abs (offset_is c.args.self.now c.args.to c.in-At.place c.args.offset
    (length c.args.bytes.now) c.in-At.is c.requires) in
    let cells = map Byte c.args.bytes.now in
    let changed = subst (λ n. c.put_bytes.new.object
    ≡ with_cells c.at_mut-object.result.now (put (n + c.args.offset) cells c.at_mut-object.result.now.cells))
    start c.put_bytes.ensures in
    (put_done c.self.inside.objects c.args.self.now c.args.to c.in-At.place c.args.offset (length c.args.bytes.now) cells
    c.at_mut-object.result.now c.put_bytes.new.object c.self.invariant c.self.view_is c.in-At.is c.requires
    (length-map c.args.bytes.now Byte) (bytes_are c.args.self.now c.args.bytes.now c.type_inv.bytes) c.at_mut-object.ensures.value
    changed).is_memory
