use Rattle.std.proofs.Common.{◌≡◌, ◌+◌, ◌≤◌, length, replicate, sym, subst, ap, ◌∙◌}
use Rattle.std.specs.Prelude.{pos, nat_abs}
use Rattle.library_meaning.specs.Memory.{put}
use Rattle.object_meaning.specs.Memory.{IsMemory}
use Rattle.object_meaning.specs.Objects.{put_cells, with_cells}
use Rattle.object_meaning.specs.Touches.{reads, cells_at}
use Rattle.object_meaning.specs.declared.values.Cell.TheVariants.{Byte}
use Rattle.object_meaning.proofs.Stores.{cells_are}
use Rattle.src_values.proofs.Rooms.{offset_is, put_twice, second_room}
use Rattle.src_values.proofs.memory.Memory.put_text.Goals as goal

pub put_same-requires : goal.put_same-requires
put_same-requires c =
    let start = c.unsigned_abs.ensures.value ∙ ap nat_abs (offset_is c.args.self.now c.args.to c.in-At.place c.args.offset
    (c.args.count + c.args.zeros) c.in-At.is c.requires.target) in
    let cells = cells_at c.args.self.now (reads c.args.from c.args.count) in
    let seen = ap (λ xs. cells_at xs (reads c.args.from c.args.count)) c.self.view_is in
    let first : c.copy_behind-copied.new.objects
    ≡ put_cells c.self.inside.objects c.in-At.place.object (pos (nat_abs c.in-At.place.offset + c.args.offset)) cells =
    c.copy_behind-copied.ensures.copied
    ∙ ap (λ n. put_cells c.self.inside.objects c.in-At.place.object (pos (n + c.args.offset))
    (cells_at c.self.inside.objects (reads c.args.from c.args.count))) start
    ∙ ap (put_cells c.self.inside.objects c.in-At.place.object (pos (nat_abs c.in-At.place.offset + c.args.offset))) seen in
    subst (λ n. n + c.args.offset + c.copy_behind-copied.result + c.args.zeros ≤ length c.at_mut-object.result.now.cells)
    (sym start)
    (second_room c.self.inside.objects c.args.self.now c.copy_behind-copied.new.objects c.args.to c.in-At.place c.args.offset c.args.count
    c.args.zeros c.copy_behind-copied.result cells c.at_mut-object.result.now c.self.invariant c.self.view_is c.in-At.is
    c.requires.target (c.copy_behind-copied.ensures.long ∙ ap length seen) c.copy_behind-copied.ensures.few first
    c.at_mut-object.ensures.value)

pub invariant_of-self : goal.invariant_of-self
invariant_of-self c =
    let start = c.unsigned_abs.ensures.value ∙ ap nat_abs (offset_is c.args.self.now c.args.to c.in-At.place c.args.offset
    (c.args.count + c.args.zeros) c.in-At.is c.requires.target) in
    let cells = cells_at c.args.self.now (reads c.args.from c.args.count) in
    let seen = ap (λ xs. cells_at xs (reads c.args.from c.args.count)) c.self.view_is in
    let first : c.copy_behind-copied.new.objects
    ≡ put_cells c.self.inside.objects c.in-At.place.object (pos (nat_abs c.in-At.place.offset + c.args.offset)) cells =
    c.copy_behind-copied.ensures.copied
    ∙ ap (λ n. put_cells c.self.inside.objects c.in-At.place.object (pos (n + c.args.offset))
    (cells_at c.self.inside.objects (reads c.args.from c.args.count))) start
    ∙ ap (put_cells c.self.inside.objects c.in-At.place.object (pos (nat_abs c.in-At.place.offset + c.args.offset))) seen in
    let changed = subst (λ n. c.put_same.new.object ≡ with_cells c.at_mut-object.result.now
    (put (n + c.args.offset + c.copy_behind-copied.result) (replicate c.args.zeros (Byte 0)) c.at_mut-object.result.now.cells))
    start c.put_same.ensures in
    (put_twice c.self.inside.objects c.args.self.now c.copy_behind-copied.new.objects c.args.to c.in-At.place c.args.offset c.args.count
    c.args.zeros c.copy_behind-copied.result cells c.at_mut-object.result.now c.put_same.new.object c.self.invariant c.self.view_is
    c.in-At.is c.requires.target (c.copy_behind-copied.ensures.long ∙ ap length seen) c.copy_behind-copied.ensures.few
    (cells_are c.args.self.now c.args.from 0 c.args.count (subst IsMemory c.self.view_is c.self.invariant) c.requires.source.live
    c.requires.source.within) first c.at_mut-object.ensures.value changed).is_memory

pub returns : goal.returns
returns c =
    let start = c.unsigned_abs.ensures.value ∙ ap nat_abs (offset_is c.args.self.now c.args.to c.in-At.place c.args.offset
    (c.args.count + c.args.zeros) c.in-At.is c.requires.target) in
    let cells = cells_at c.args.self.now (reads c.args.from c.args.count) in
    let seen = ap (λ xs. cells_at xs (reads c.args.from c.args.count)) c.self.view_is in
    let first : c.copy_behind-copied.new.objects
    ≡ put_cells c.self.inside.objects c.in-At.place.object (pos (nat_abs c.in-At.place.offset + c.args.offset)) cells =
    c.copy_behind-copied.ensures.copied
    ∙ ap (λ n. put_cells c.self.inside.objects c.in-At.place.object (pos (n + c.args.offset))
    (cells_at c.self.inside.objects (reads c.args.from c.args.count))) start
    ∙ ap (put_cells c.self.inside.objects c.in-At.place.object (pos (nat_abs c.in-At.place.offset + c.args.offset))) seen in
    let changed = subst (λ n. c.put_same.new.object ≡ with_cells c.at_mut-object.result.now
    (put (n + c.args.offset + c.copy_behind-copied.result) (replicate c.args.zeros (Byte 0)) c.at_mut-object.result.now.cells))
    start c.put_same.ensures in
    (put_twice c.self.inside.objects c.args.self.now c.copy_behind-copied.new.objects c.args.to c.in-At.place c.args.offset c.args.count
    c.args.zeros c.copy_behind-copied.result cells c.at_mut-object.result.now c.put_same.new.object c.self.invariant c.self.view_is
    c.in-At.is c.requires.target (c.copy_behind-copied.ensures.long ∙ ap length seen) c.copy_behind-copied.ensures.few
    (cells_are c.args.self.now c.args.from 0 c.args.count (subst IsMemory c.self.view_is c.self.invariant) c.requires.source.live
    c.requires.source.within) first c.at_mut-object.ensures.value changed).is
