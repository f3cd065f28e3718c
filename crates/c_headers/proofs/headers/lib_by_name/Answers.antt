use Rattle.std.proofs.Common.{sym, ◌∙◌}
use Rattle.c_headers.proofs.Table.{declared}
use Rattle.c_headers.proofs.headers.lib_by_name.Goals as goal

pub returns-in-Some : goal.returns-in-Some
returns-in-Some c =
    declared c.in-Some.header c.args.name.now c.args.header c.function.result (sym c.numbered.ensures ∙ c.in-Some.is) c.function.ensures
