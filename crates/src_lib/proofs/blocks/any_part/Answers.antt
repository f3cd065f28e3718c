use Rattle.std.proofs.Common.{◌+◌, ◌||◌, take, drop, sym, ap, ◌∙◌}
use Rattle.std.specs.List.{list_any}
use Rattle.src_lib.specs.Blocks.{is_part}
use Rattle.src_lib.proofs.Ordering.{next_cell}
use Rattle.src_lib.proofs.blocks.any_part.Goals as goal

pub returns-then-is_part : goal.returns-then-is_part
returns-then-is_part c =
    let cells = c.args.object.now.cells in
    let rest = drop (c.loop-k.k + 1) (take c.args.count (drop c.args.start cells)) in
    sym (sym c.loop-k.invariant
    ∙ ap (list_any is_part) (next_cell cells c.args.start c.args.count c.loop-k.k c.cell.result c.requires c.loop-k-test.true c.cell.ensures)
    ∙ ap (λ b. b || list_any is_part rest) (sym c.is_part.ensures ∙ c.if-is_part.true))
