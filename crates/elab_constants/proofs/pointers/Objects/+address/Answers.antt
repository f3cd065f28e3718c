use Rattle.std.proofs.Common.{sym, ap, ◌∙◌}
use Rattle.c_layout.specs.Types.{is_pointer}
use Rattle.elab_constants.proofs.Variants.{pointer-Cast, pointer-Add, pointer-Add-turned, pointer-Sub, pointer-Cond, place-Index, place-Index-turned, place-Member}
use Rattle.elab_constants.proofs.pointers.Objects.+address.Goals as goal

-- src/addresses.rt: the arms of `pointer_of`
pub pointer_of-returns-in-Cast : goal.pointer_of-returns-in-Cast
pointer_of-returns-in-Cast t c =
    rw (c.converted.ensures, c.get.ensures) (sym (pointer-Cast c.args.self.now.tags.now c.args.self.now.objects.now c.args.expr.now c.in-Cast.of c.in-Cast.added c.in-Cast.is))

pub pointer_of-returns-in-Add : goal.pointer_of-returns-in-Add
pointer_of-returns-in-Add t c =
    let s = c.in-Binary in
    let first = ap (λ e. is_pointer e.ctype) (sym c.get-in-Binary.ensures) ∙ sym c.is_pointer.ensures ∙ c.if-is_pointer.true in
    rw (c.by_pointer-in-Add.ensures, c.plus.ensures, c.get-in-Add.ensures, c.get-in-Add-2.ensures)
    (sym (pointer-Add c.args.self.now.tags.now c.args.self.now.objects.now c.args.expr.now s.op s.a s.b c.in-Add.is s.is first))

pub pointer_of-returns-in-Add-2 : goal.pointer_of-returns-in-Add-2
pointer_of-returns-in-Add-2 t c =
    let s = c.in-Binary in
    let second = ap (λ e. is_pointer e.ctype) (sym c.get-in-Binary.ensures) ∙ sym c.is_pointer.ensures ∙ c.if-is_pointer.false in
    rw (c.by_pointer-in-Add-2.ensures, c.plus-in-Add-2.ensures, c.get-in-Add-2-2.ensures, c.get-in-Add-2-3.ensures)
    (sym (pointer-Add-turned c.args.self.now.tags.now c.args.self.now.objects.now c.args.expr.now s.op s.a s.b c.in-Add-2.is s.is second))

pub pointer_of-returns-in-Sub : goal.pointer_of-returns-in-Sub
pointer_of-returns-in-Sub t c =
    let s = c.in-Binary in
    rw (c.by_pointer-in-Sub.ensures, c.plus-in-Sub.ensures, c.get-in-Sub.ensures, c.get-in-Sub-2.ensures)
    (sym (pointer-Sub c.args.self.now.tags.now c.args.self.now.objects.now c.args.expr.now s.op s.a s.b c.in-Sub.is s.is))

pub pointer_of-returns-in-Cond : goal.pointer_of-returns-in-Cond
pointer_of-returns-in-Cond t c =
    rw (
      c.by_pointer-in-Cond.ensures,
      c.chosen.ensures,
      c.evaluated.ensures,
      c.pointer_of.ensures,
      c.pointer_of-in-Cond.ensures,
      c.get-in-Cond.ensures,
      c.get-in-Cond-2.ensures,
      c.get-in-Cond-3.ensures,
    )
    (sym (pointer-Cond c.args.self.now.tags.now c.args.self.now.objects.now c.args.expr.now c.in-Cond.test c.in-Cond.yes c.in-Cond.no c.in-Cond.is))

-- and of `place_of`
pub place_of-returns-then-is_pointer : goal.place_of-returns-then-is_pointer
place_of-returns-then-is_pointer t c =
    let first = ap (λ e. is_pointer e.ctype) (sym c.get.ensures) ∙ sym c.is_pointer.ensures ∙ c.if-is_pointer.true in
    rw (c.plus.ensures, c.get-then-is_pointer.ensures, c.get-then-is_pointer-2.ensures)
    (sym (place-Index c.args.self.now.tags.now c.args.self.now.objects.now c.args.expr.now c.in-Index.base c.in-Index.index c.in-Index.is first))

pub place_of-returns-else-is_pointer : goal.place_of-returns-else-is_pointer
place_of-returns-else-is_pointer t c =
    let second = ap (λ e. is_pointer e.ctype) (sym c.get.ensures) ∙ sym c.is_pointer.ensures ∙ c.if-is_pointer.false in
    rw (c.plus-else-is_pointer.ensures, c.get-else-is_pointer.ensures, c.get-else-is_pointer-2.ensures)
    (sym (place-Index-turned c.args.self.now.tags.now c.args.self.now.objects.now c.args.expr.now c.in-Index.base c.in-Index.index c.in-Index.is second))

pub place_of-returns-else-arrow : goal.place_of-returns-else-arrow
place_of-returns-else-arrow t c =
    let m = c.in-Member in
    rw (c.member.ensures, c.place_of.ensures, c.is_trailing_member-trails.ensures, c.get-base.ensures)
    (sym (place-Member c.args.self.now.tags.now c.args.self.now.objects.now c.args.expr.now m.base m.arrow m.member c.if-arrow.false m.is))
