use Rattle.std.proofs.Common.{refl}
use Rattle.macro_meaning.specs.declared.GroupState.TheVariants.{Waits}
use Rattle.macro_meaning.specs.Moves.{group}
use Rattle.c_macros.specs.States.{state_view}
use Rattle.c_macros.proofs.DirectiveAnswers.{chain}
use Rattle.c_macros.proofs.directives.taken_if.Goals as goal

pub returns : goal.returns
returns c =
    let d = rw c.by_condition.ensures at c.open-given.ensures in
    chain (c.in_ok-holds.ensures (state_view c.args.st.now) (group c.args.place Waits) (state_view c.args.st.now).groups refl) c.give.result
    (state_view c.open-given.new.st)
    c.args.done.now.items c.give.new.done.items (c.give.ensures (state_view c.args.st.now) (state_view c.open-given.new.st) _ d)
