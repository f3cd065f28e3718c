use Rattle.std.proofs.Common.{replicate, ap, ◌∙◌}
use Rattle.src_values.specs.View.{nowhere, cell_of, marked}
use Rattle.src_values.proofs.Marked.{marked-replicate, first_cell}
use Rattle.src_values.proofs.cells.Cells.new.Goals as goal

pub returns : goal.returns
returns c =
    ap (λ ms. marked ms c.in_ok-pointers.pointers.items) c.in_ok-marks.ensures
    ∙ ap (λ ps. marked (replicate c.args.count c.first_mark.result) ps) c.in_ok-pointers.ensures.items
    ∙ marked-replicate c.args.count c.first_mark.result
    ∙ ap (λ x. replicate c.args.count x) (ap (λ m. cell_of m nowhere) c.first_mark.ensures ∙ first_cell c.args.zeroed)
