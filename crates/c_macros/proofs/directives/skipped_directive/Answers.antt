use Rattle.std.proofs.Common.{[], sym}
use Rattle.std.proofs.lemmas.List.{append-nil}
use Rattle.macro_meaning.specs.Expansion.{at_once}
use Rattle.c_macros.specs.States.{state_view}
use Rattle.c_macros.proofs.DirectiveAnswers.{skips}
use Rattle.c_macros.proofs.directives.skipped_directive.Goals as goal

pub returns-in_default : goal.returns-in_default
returns-in_default c =
    let m = skips (state_view c.args.st.now) c.args.hash.now [] c.args.word c.in_default.not-If c.in_default.not-Ifdef
    c.in_default.not-Ifndef in
    ([], sym (append-nil c.args.done.now.items), rw m at_once)
