use Rattle.c_macros.specs.States.{state_view}
use Rattle.c_macros.proofs.Carried.{line_does}
use Rattle.c_macros.proofs.expansion.line_part.Goals as goal

pub returns : goal.returns
returns c =
    line_does c.args.rest.now c.args.n
    (state_view c.args.st.now) c.args.count c.args.done.now.items c.directive.new.done.items c.requires c.index-rest-0.result
    c.index-rest-0.is
    c.directive.result (state_view c.directive.new.st) (rw (c.first-line.ensures, c.after.ensures) at c.directive.ensures)
