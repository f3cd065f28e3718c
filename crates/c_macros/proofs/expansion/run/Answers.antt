use Rattle.c_macros.proofs.expansion.run.Goals as goal

pub returns-in-Ok : goal.returns-in-Ok
returns-in-Ok c = let r = rw (c.in-Ok.is, c.in_ok-st.ensures) at c.take_parts-end.ensures in r

pub returns-in-Err : goal.returns-in-Err
returns-in-Err c = let r = rw (c.in-Err.is, c.in_ok-st.ensures) at c.take_parts-end.ensures in r
