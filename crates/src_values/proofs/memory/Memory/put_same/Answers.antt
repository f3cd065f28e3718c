use Rattle.std.proofs.Common.{◌≡◌, ◌+◌, replicate, subst, ap, ◌∙◌, arith}
use Rattle.std.proofs.lemmas.List.{length-replicate}
use Rattle.std.specs.Prelude.{nat_abs}
use Rattle.library_meaning.specs.Memory.{put}
use Rattle.object_meaning.specs.Objects.{with_cells}
use Rattle.object_meaning.specs.declared.values.Cell.TheVariants.{Byte}
use Rattle.src_values.proofs.Rooms.{offset_is, put_done, same_are}
use Rattle.src_values.proofs.memory.Memory.put_same.Goals as goal

pub invariant_of-self : goal.invariant_of-self
invariant_of-self c =
    let start = c.unsigned_abs.ensures.value ∙ ap nat_abs (offset_is c.args.self.now c.args.to c.in-At.place c.args.offset
    c.args.count c.in-At.is c.requires) in
    let fits = c.ranges.byte.fits in
    let cells = replicate c.args.count (Byte c.args.byte) in
    let changed = subst (λ n. c.put_same.new.object
    ≡ with_cells c.at_mut-object.result.now (put (n + c.args.offset) cells c.at_mut-object.result.now.cells))
    start c.put_same.ensures in
    (put_done c.self.inside.objects c.args.self.now c.args.to c.in-At.place c.args.offset c.args.count cells c.at_mut-object.result.now
    c.put_same.new.object c.self.invariant c.self.view_is c.in-At.is c.requires (length-replicate c.args.count (Byte c.args.byte))
    (same_are c.args.self.now c.args.count c.args.byte (omega (arith, fits))) c.at_mut-object.ensures.value changed).is_memory
