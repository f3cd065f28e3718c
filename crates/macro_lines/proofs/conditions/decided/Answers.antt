use Rattle.macro_lines.proofs.conditions.decided.Goals as goal

pub returns : goal.returns
returns c = let d = rw (c.deref.ensures.value, c.in_ok-kinds.ensures) at c.condition.ensures.decides in d
