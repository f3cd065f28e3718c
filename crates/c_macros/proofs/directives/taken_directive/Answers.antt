use Rattle.c_macros.specs.States.{state_view}
use Rattle.c_macros.proofs.DirectiveAnswers.{refuses_at, unknown}
use Rattle.c_macros.proofs.directives.taken_directive.Goals as goal

pub returns-in_default : goal.returns-in_default
returns-in_default c =
    rw c.refused.ensures (refuses_at (state_view c.args.st.now) c.args.count _ _ _
    (state_view c.args.st.now) c.args.done.now.items c.args.done.now.items
    (unknown (state_view c.args.st.now) c.args.hash.now c.args.line.now c.args.word c.in_default.not-If c.in_default.not-Ifdef
    c.in_default.not-Ifndef c.in_default.not-Include
    c.in_default.not-Define c.in_default.not-Undef))
