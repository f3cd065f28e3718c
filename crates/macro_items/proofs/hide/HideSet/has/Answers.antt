use Rattle.std.proofs.Common.{◌∙◌}
use Rattle.macro_items.proofs.Searching.{found}
use Rattle.macro_items.proofs.hide.HideSet.has.Goals as goal

pub returns : goal.returns
returns c = rw (← c.names.ensures.names)
    (c.is_ok.ensures.value
    ∙ found c.args.name.now c.names.result.now c.names.ensures.ascends c.binary_search.result c.binary_search.ensures.bound
    c.binary_search.ensures.position)
