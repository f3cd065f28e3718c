-- What was written is what the row shows.
use Rattle.std.proofs.Common.{ℕ, List, ◌∷◌, length}
use Rattle.run_meaning.specs.Objects.{stream, streams}
use Rattle.std.specs.Prelude.{slice_range}
use Rattle.library_meaning.specs.Prints as prints
use Rattle.byte_machine.specs.State.{slot_value}
use Rattle.library_meaning.specs.Rows.{Row}
use Rattle.byte_machine.specs.Machines.{Loaded}
use Rattle.byte_machine.specs.View.{loaded_of}
use Rattle.byte_machine.proofs.Printed.{printf_acts, print_shows}
use Rattle.byte_machine.proofs.Slots.{all_slots}
use Rattle.byte_machine.proofs.Written.{wrote_by, on_out}
use Rattle.byte_machine.proofs.machine.Machine.printf.Goals as goal

pub wrote-requires-clause-written : goal.wrote-requires-clause-written
wrote-requires-clause-written g c =
    let old = c.args.self.now in
    let x = stream (g.O.Sink.written c.args.out.now) (g.O.Sink.count c.args.out.now) in
    let y = stream (g.O.Sink.written c.print_slots-done.new.sink) (g.O.Sink.count c.print_slots-done.new.sink) in
    let r = c.print_slots-done.result in
    let args : Loaded → List ℕ = λ l. slot_value l.core 0 ∷ slice_range l.core.slots 1 c.args.count in
    let row : Loaded → Row = λ l. prints.printf (length (slice_range l.core.slots 1 c.args.count)) in
    let acts = printf_acts old c.args.checked c.args.count c.args.to c.requires.call (all_slots c.self.inside old c.self.view_is c.self.told) in
    let wrote = wrote_by args row r x y (loaded_of c.self.inside) old c.deref.result.now c.deref.ensures.value c.self.view_is c.print_slots-done.ensures.printf in
    (streams x x x, (streams x y x, on_out old c.args.to (args old) (row old) r x x x y acts (print_shows 1 (length (slice_range old.core.slots 1 c.args.count)) 0) wrote c.print_slots-done.ensures.grew))

pub returns-clause-performed : goal.returns-clause-performed
returns-clause-performed g c = λ input err.
    let old = c.args.self.now in
    let x = stream (g.O.Sink.written c.args.out.now) (g.O.Sink.count c.args.out.now) in
    let y = stream (g.O.Sink.written c.print_slots-done.new.sink) (g.O.Sink.count c.print_slots-done.new.sink) in
    let r = c.print_slots-done.result in
    let args : Loaded → List ℕ = λ l. slot_value l.core 0 ∷ slice_range l.core.slots 1 c.args.count in
    let row : Loaded → Row = λ l. prints.printf (length (slice_range l.core.slots 1 c.args.count)) in
    let acts = printf_acts old c.args.checked c.args.count c.args.to c.requires.call (all_slots c.self.inside old c.self.view_is c.self.told) in
    let wrote = wrote_by args row r x y (loaded_of c.self.inside) old c.deref.result.now c.deref.ensures.value c.self.view_is c.print_slots-done.ensures.printf in
    c.wrote.ensures.performed (streams input x err) (streams input y err) (on_out old c.args.to (args old) (row old) r input err x y acts (print_shows 1 (length (slice_range old.core.slots 1 c.args.count)) 0) wrote c.print_slots-done.ensures.grew)
