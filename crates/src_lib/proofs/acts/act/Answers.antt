use Rattle.std.proofs.Common.{sym, ◌∙◌}
use Rattle.std.proofs.lemmas.Bool.{not-false, not-true}
use Rattle.src_lib.proofs.Exceeding.{past_size, past_stops, within_size}
use Rattle.src_lib.proofs.acts.act.Goals as goal

pub returns-then-not-check : goal.returns-then-not-check
returns-then-not-check c w =
    within_size c.args.f c.args.args.now c.args.memory.now c.run_row.new.memory w c.requires.typed c.requires.given c.args.check.exceeds
    c.args.check.size c.run_row.result c.requires.silent (not-true _ c.if-not-check.true) c.requires.size (c.run_row.ensures w)

pub returns-in-Ok : goal.returns-in-Ok
returns-in-Ok c w =
    past_size c.args.f c.args.args.now c.args.memory.now c.run_row-in-Ok.new.memory w c.requires.typed c.requires.given
    c.args.check.exceeds c.in-Ok.field-0 c.run_row-in-Ok.result c.requires.silent (not-false _ c.if-not-check.false) (sym c.look.ensures ∙ c.in-Ok.is)
    (c.run_row-in-Ok.ensures w)

pub returns-in-Err : goal.returns-in-Err
returns-in-Err c w =
    past_stops c.args.f c.args.args.now c.args.memory.now c.args.memory.now w c.requires.typed c.requires.given c.args.check.exceeds
    c.in-Err.kind c.requires.silent (not-false _ c.if-not-check.false) (sym c.look.ensures ∙ c.in-Err.is)
