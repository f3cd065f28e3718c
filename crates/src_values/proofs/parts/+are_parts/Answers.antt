use Rattle.std.proofs.Common.{◌<◌, ◌-◌, ◌+◌, ◌&&◌, take, drop, sym, ap, ◌∙◌, arith}
use Rattle.object_meaning.specs.Cells.{are_parts}
use Rattle.src_values.proofs.NextCells.{parts_next}
use Rattle.src_values.proofs.parts.+are_parts.Goals as goal

pub returns-then-not-is_part : goal.returns-then-not-is_part
returns-then-not-is_part t c =
    let some : 0 < c.args.count = omega (arith, c.if-count-eq0.false) in
    let size = c.size-size.ensures.cells in
    let within = c.requires.within in
    ap (λ b. b && are_parts c.args.of (c.args.k + 1) (take (c.args.count - 1) (drop (c.args.at + 1) c.args.object.now.cells)))
    (sym c.if-not-is_part.true ∙ c.is_part.ensures)
    ∙ sym (parts_next c.args.object.now.cells c.args.at c.args.count c.cell.result some
    (omega (arith, some, within)) c.cell.ensures c.args.of c.args.k)

pub returns : goal.returns
returns t c =
    let some : 0 < c.args.count = omega (arith, c.if-count-eq0.false) in
    let size = c.size-size.ensures.cells in
    let within = c.requires.within in
    c.are_parts.ensures ∙ ap (λ b. b && are_parts c.args.of (c.args.k + 1)
    (take (c.args.count - 1) (drop (c.args.at + 1) c.args.object.now.cells))) (sym c.if-not-is_part.false ∙ c.is_part.ensures)
    ∙ sym (parts_next c.args.object.now.cells c.args.at c.args.count c.cell.result some
    (omega (arith, some, within)) c.cell.ensures c.args.of c.args.k)
