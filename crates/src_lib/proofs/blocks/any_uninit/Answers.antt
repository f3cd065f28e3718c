use Rattle.std.proofs.Common.{◌+◌, ◌||◌, take, drop, sym, ap, ◌∙◌}
use Rattle.std.specs.List.{list_any}
use Rattle.object_meaning.specs.Cells.{is_uninit}
use Rattle.src_lib.proofs.Ordering.{next_cell}
use Rattle.src_lib.proofs.blocks.any_uninit.Goals as goal

pub returns-then-is_uninit : goal.returns-then-is_uninit
returns-then-is_uninit c =
    let cells = c.args.object.now.cells in
    let rest = drop (c.loop-k.k + 1) (take c.args.count (drop c.args.start cells)) in
    sym (sym c.loop-k.invariant
    ∙ ap (list_any is_uninit) (next_cell cells c.args.start c.args.count c.loop-k.k c.cell.result c.requires c.loop-k-test.true c.cell.ensures)
    ∙ ap (λ b. b || list_any is_uninit rest) (sym c.is_uninit.ensures ∙ c.if-is_uninit.true))
