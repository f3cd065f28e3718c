use Rattle.std.proofs.lemmas.Result.{err_from_is_err_and}
use Rattle.macro_items.specs.Views.{table, views}
use Rattle.macro_lines.proofs.Holding.{no_line, failed, decided_as, undecided}
use Rattle.macro_lines.proofs.conditions.holds.Goals as goal

pub returns-in_default : goal.returns-in_default
returns-in_default c =
    rw c.refused.ensures (no_line (table c.args.macros.now) c.args.count c.args.place c.args.line.now
    (rw c.in_default.is at c.in_ok-items.ensures))

pub returns-in_err-items-2 : goal.returns-in_err-items-2
returns-in_err-items-2 c =
    let p = err_from_is_err_and c.from_residual-in_err-items-2.result c.from_residual-in_err-items-2.ensures.1 in
    rw (p.1, p.2) (failed (table c.args.macros.now) c.args.count c.args.place c.args.line.now (views c.in-Some.items.items)
    (rw c.in-Some.is at c.in_ok-items.ensures) c.in_err-items-2.field-0.0 c.in_err-items-2.ensures.is)

pub returns-in-Some-2 : goal.returns-in-Some-2
returns-in-Some-2 c =
    let d = rw (c.in-Some-2.is, c.deref.ensures.value) at c.in_ok-holds.ensures in
    decided_as (table c.args.macros.now) c.args.count c.args.place c.args.line.now (views c.in-Some.items.items)
    (rw c.in-Some.is at c.in_ok-items.ensures)
    (views c.in_ok-items-2.items.items) c.in_ok-items-2.count c.in-Some-2.holds c.in_ok-items-2.ensures.is d

pub returns : goal.returns
returns c =
    let d = rw (c.in-None.is, c.deref.ensures.value) at c.in_ok-holds.ensures in
    rw c.refused-in-None.ensures
    (undecided (table c.args.macros.now) c.args.count c.args.place c.args.line.now (views c.in-Some.items.items)
    (rw c.in-Some.is at c.in_ok-items.ensures)
    (views c.in_ok-items-2.items.items) c.in_ok-items-2.count c.in_ok-items-2.ensures.is d)
