use Rattle.macro_replacement.proofs.Arguments.{turned}
use Rattle.macro_replacement.proofs.replacement.append_replaced.Goals as goal

pub returns : goal.returns
returns c = let r = rw (c.reverse.ensures.items, turned) at c.append_left.ensures in r
