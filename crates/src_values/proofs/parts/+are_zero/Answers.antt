use Rattle.std.proofs.Common.{◌<◌, ◌-◌, ◌+◌, ◌&&◌, take, drop, sym, ap, ◌∙◌, arith}
use Rattle.std.specs.List.{list_all}
use Rattle.object_meaning.specs.Cells.{is_zero}
use Rattle.src_values.proofs.NextCells.{all_next}
use Rattle.src_values.proofs.parts.+are_zero.Goals as goal

pub returns-then-not-is_zero : goal.returns-then-not-is_zero
returns-then-not-is_zero t c =
    let some : 0 < c.args.count = omega (arith, c.if-count-eq0.false) in
    let size = c.size-size.ensures.cells in
    let within = c.requires in
    ap (λ b. b && list_all is_zero (take (c.args.count - 1) (drop (c.args.at + 1) c.args.object.now.cells))) (sym c.if-not-is_zero.true
    ∙ c.is_zero.ensures)
    ∙ sym (all_next c.args.object.now.cells c.args.at c.args.count c.cell.result some (omega (arith, some, within)) c.cell.ensures is_zero)

pub returns : goal.returns
returns t c =
    let some : 0 < c.args.count = omega (arith, c.if-count-eq0.false) in
    let size = c.size-size.ensures.cells in
    let within = c.requires in
    c.are_zero.ensures ∙ ap (λ b. b && list_all is_zero (take (c.args.count - 1) (drop (c.args.at + 1) c.args.object.now.cells)))
    (sym c.if-not-is_zero.false ∙ c.is_zero.ensures)
    ∙ sym (all_next c.args.object.now.cells c.args.at c.args.count c.cell.result some (omega (arith, some, within)) c.cell.ensures is_zero)
