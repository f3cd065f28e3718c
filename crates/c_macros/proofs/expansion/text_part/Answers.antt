use Rattle.std.proofs.Common.{sym}
use Rattle.c_macros.specs.States.{state_view}
use Rattle.c_macros.proofs.Carried.{taken_text, skipped_text}
use Rattle.c_macros.proofs.expansion.text_part.Goals as goal

pub returns-then-takes : goal.returns-then-takes
returns-then-takes c =
    taken_text c.args.rest.now c.args.n (state_view c.args.st.now) c.args.count c.args.done.now.items c.take_text.new.done.items c.requires
    (sym (rw c.deref.ensures.value at c.if-takes.ensures))
    c.take_text.result (rw c.first.ensures at c.take_text.ensures)

pub returns-else-takes : goal.returns-else-takes
returns-else-takes c =
    skipped_text c.args.rest.now c.args.n (state_view c.args.st.now) c.args.count c.args.done.now.items c.args.done.now.items c.requires
    (sym (rw c.deref.ensures.value at c.if-takes.ensures))
