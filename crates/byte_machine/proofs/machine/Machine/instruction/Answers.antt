-- A runnable machine stands at an instruction that fits its function.
use Rattle.std.proofs.Common.{refl, sym, ◌∙◌, ap}
use Rattle.std.proofs.lemmas.Option.{slice_get_read}
use Rattle.byte_machine.proofs.Steps.{at_code, stands_fits}
use Rattle.byte_machine.proofs.machine.Machine.instruction.Goals as goal

pub returns-clause-fits : goal.returns-clause-fits
returns-clause-fits c =
    let m = c.self.inside in
    rw (← c.self.view_is) (stands_fits m c.index.result.now c.self.invariant
    (slice_get_read m.code.items _ m.windows.running.at c.index.result.now refl (at_code m c.self.invariant) (rw (← c.at.ensures) c.index.ensures)))
