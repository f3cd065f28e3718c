-- A byte was taken, or the end is told, or the source failed.
use Rattle.std.proofs.Common.{◌≤◌, Bool, Option, [], ap, sym, refl, subst, arith}
use Rattle.run_meaning.specs.Objects.{stream, streams}
use Rattle.c_library.specs.declared.functions.LibFn.{LibFn}
use Rattle.c_library.specs.declared.functions.LibFn.TheVariants as calls
use Rattle.library_meaning.specs.Table as table
use Rattle.byte_machine.specs.Machines.{asked_by_numbered}
use Rattle.byte_machine.proofs.Slots.{getchar_acts, result_named}
use Rattle.byte_machine.proofs.Taken.{took, failed_to_take, char_failed}
use Rattle.byte_machine.proofs.machine.Machine.getchar.Goals as goal

pub give-requires-clause-register : goal.give-requires-clause-register
give-requires-clause-register g c = result_named c.args.self.now calls.Getchar c.args.checked c.args.to c.requires.call

pub returns-in-Ok-clause-performed : goal.returns-in-Ok-clause-performed
returns-in-Ok-clause-performed g c = λ out err.
    let old = c.args.self.now in
    let x = streams (stream (g.I.Source.left c.args.input.now) (g.I.Source.count c.args.input.now)) out err in
    let y = streams (stream (g.I.Source.left c.getchar_c.new.input) (g.I.Source.count c.getchar_c.new.input)) out err in
    took old c.give.new.self c.give.result c.args.to c.in-Ok.byte [] old.core.memory table.getchar x y c.requires.running
    (getchar_acts old c.args.checked c.args.to c.requires.call) (c.in-Ok.ensures.row old.core.memory) c.in-Ok.ensures.grew (refl, refl)
    c.give.ensures.step c.give.ensures.state

pub returns-in-Err-clause-performed : goal.returns-in-Err-clause-performed
returns-in-Err-clause-performed g c = λ out err.
    let old = c.args.self.now in
    let x = streams (stream (g.I.Source.left c.args.input.now) (g.I.Source.count c.args.input.now)) out err in
    let y = streams (stream (g.I.Source.left c.getchar_c.new.input) (g.I.Source.count c.getchar_c.new.input)) out err in
    let asks = subst (λ (o : Option (LibFn × Bool)). 1 ≤ asked_by_numbered o old.core) (sym c.requires.call.is) (omega arith) in
    failed_to_take old c.stop.new.self c.stop.result c.args.to [] table.getchar x y c.requires.running
    (getchar_acts old c.args.checked c.args.to c.requires.call)
    (char_failed old.core.memory c.in-Err.field-0 x.input y.input (c.in-Err.ensures.row old.core.memory)) c.in-Err.ensures.grew (refl, refl) asks
    c.stop.ensures.step (ap (λ l. l.stop) c.stop.ensures.stopped)
