use Rattle.macro_items.proofs.Searching.{are_same}
use Rattle.macro_items.proofs.hide.HideSet.is_same.Goals as goal

pub returns : goal.returns
returns c = rw (← c.names.ensures.names, ← c.names-2.ensures.names) (are_same _ _ c.eq.result c.eq.ensures)
