use Rattle.std.proofs.Common.{◌<◌, ◌-◌, ◌+◌, ◌||◌, take, drop, sym, ap, ◌∙◌, arith}
use Rattle.std.specs.List.{list_any}
use Rattle.object_meaning.specs.Cells.{is_uninit}
use Rattle.src_values.proofs.NextCells.{any_next}
use Rattle.src_values.proofs.parts.+any_uninit.Goals as goal

pub returns-then-is_uninit : goal.returns-then-is_uninit
returns-then-is_uninit t c =
    let some : 0 < c.args.count = omega (arith, c.if-count-eq0.false) in
    let size = c.size-size.ensures.cells in
    let within = c.requires in
    ap (λ b. b || list_any is_uninit (take (c.args.count - 1) (drop (c.args.at + 1) c.args.object.now.cells))) (sym c.if-is_uninit.true
    ∙ c.is_uninit.ensures)
    ∙ sym (any_next c.args.object.now.cells c.args.at c.args.count c.cell.result some
    (omega (arith, some, within)) c.cell.ensures is_uninit)

pub returns : goal.returns
returns t c =
    let some : 0 < c.args.count = omega (arith, c.if-count-eq0.false) in
    let size = c.size-size.ensures.cells in
    let within = c.requires in
    c.any_uninit.ensures ∙ ap (λ b. b || list_any is_uninit (take (c.args.count - 1) (drop (c.args.at + 1) c.args.object.now.cells)))
    (sym c.if-is_uninit.false ∙ c.is_uninit.ensures)
    ∙ sym (any_next c.args.object.now.cells c.args.at c.args.count c.cell.result some
    (omega (arith, some, within)) c.cell.ensures is_uninit)
