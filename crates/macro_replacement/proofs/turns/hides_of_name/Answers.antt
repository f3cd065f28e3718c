use Rattle.macro_replacement.proofs.turns.hides_of_name.Goals as goal

pub returns : goal.returns
returns c = let r = rw c.in_ok-copied.ensures at c.of.ensures in r
