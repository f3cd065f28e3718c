-- On one of the two descriptors it writes what its row shows, and on another nothing.
use Rattle.std.proofs.Common.{ℕ, List, ◌∷◌, length, refl, sym, ◌∙◌}
use Rattle.std.specs.Prelude.{slice_range}
use Rattle.run_meaning.specs.Objects.{stream, streams}
use Rattle.bm_isa.specs.declared.instructions.Instr.TheVariants as instr
use Rattle.library_meaning.specs.Rows.{Row}
use Rattle.library_meaning.specs.Prints as prints
use Rattle.library_meaning.specs.Table.{int_of, no_limit}
use Rattle.byte_machine.specs.State.{slot_value, giving}
use Rattle.byte_machine.specs.Machines.{Loaded}
use Rattle.byte_machine.specs.View.{loaded_of}
use Rattle.byte_machine.proofs.Printed.{dprintf_acts, dprintf_elsewhere, print_shows}
use Rattle.byte_machine.proofs.Slots.{all_slots, descriptor_read, neither}
use Rattle.byte_machine.proofs.Steps.{went_on}
use Rattle.byte_machine.proofs.Written.{wrote_by, on_out, on_err}
use Rattle.byte_machine.proofs.machine.Machine.dprintf.Goals as goal

pub wrote-requires-clause-written : goal.wrote-requires-clause-written
wrote-requires-clause-written g c =
    let old = c.args.self.now in
    let x = stream (g.O.Sink.written c.args.out.now) (g.O.Sink.count c.args.out.now) in
    let y = stream (g.O.Sink.written c.print_slots-on_out.new.sink) (g.O.Sink.count c.print_slots-on_out.new.sink) in
    let r = c.print_slots-on_out.result in
    let args : Loaded → List ℕ = λ l. slot_value l.core 0 ∷ slot_value l.core 1 ∷ slice_range l.core.slots 2 c.args.count in
    let row : Loaded → Row = λ l. prints.print_on 1 (length (slice_range l.core.slots 2 c.args.count)) 1 in
    let here = sym (descriptor_read c.self.inside old c.int_of-descriptor.result c.self.view_is c.int_of-descriptor.ensures) ∙ c.if-descriptor-eq1.true in
    let acts = dprintf_acts old c.args.checked c.args.count c.args.to 1 c.requires.call (all_slots c.self.inside old c.self.view_is c.self.told) here refl in
    let wrote = wrote_by args row r x y (loaded_of c.self.inside) old c.deref.result.now c.deref.ensures.value c.self.view_is (c.print_slots-on_out.ensures.dprintf (slot_value (loaded_of c.self.inside).core 0) 1) in
    (streams x x x, (streams x y x, on_out old c.args.to (args old) (row old) r x x x y acts (print_shows 1 (length (slice_range old.core.slots 2 c.args.count)) 1) wrote c.print_slots-on_out.ensures.grew))

pub returns-then-descriptor-eq1-clause-performed : goal.returns-then-descriptor-eq1-clause-performed
returns-then-descriptor-eq1-clause-performed g c = λ input.
    let old = c.args.self.now in
    let x = stream (g.O.Sink.written c.args.out.now) (g.O.Sink.count c.args.out.now) in
    let y = stream (g.O.Sink.written c.print_slots-on_out.new.sink) (g.O.Sink.count c.print_slots-on_out.new.sink) in
    let r = c.print_slots-on_out.result in
    let args : Loaded → List ℕ = λ l. slot_value l.core 0 ∷ slot_value l.core 1 ∷ slice_range l.core.slots 2 c.args.count in
    let row : Loaded → Row = λ l. prints.print_on 1 (length (slice_range l.core.slots 2 c.args.count)) 1 in
    let here = sym (descriptor_read c.self.inside old c.int_of-descriptor.result c.self.view_is c.int_of-descriptor.ensures) ∙ c.if-descriptor-eq1.true in
    let acts = dprintf_acts old c.args.checked c.args.count c.args.to 1 c.requires.call (all_slots c.self.inside old c.self.view_is c.self.told) here refl in
    let wrote = wrote_by args row r x y (loaded_of c.self.inside) old c.deref.result.now c.deref.ensures.value c.self.view_is (c.print_slots-on_out.ensures.dprintf (slot_value (loaded_of c.self.inside).core 0) 1) in
    let z = stream (g.E.Sink.written c.args.err.now) (g.E.Sink.count c.args.err.now) in
    c.wrote.ensures.performed (streams input x z) (streams input y z) (on_out old c.args.to (args old) (row old) r input z x y acts (print_shows 1 (length (slice_range old.core.slots 2 c.args.count)) 1) wrote c.print_slots-on_out.ensures.grew)

pub wrote-requires-then-descriptor-eq2-clause-written : goal.wrote-requires-then-descriptor-eq2-clause-written
wrote-requires-then-descriptor-eq2-clause-written g c =
    let old = c.args.self.now in
    let x = stream (g.E.Sink.written c.args.err.now) (g.E.Sink.count c.args.err.now) in
    let y = stream (g.E.Sink.written c.print_slots-on_err.new.sink) (g.E.Sink.count c.print_slots-on_err.new.sink) in
    let r = c.print_slots-on_err.result in
    let args : Loaded → List ℕ = λ l. slot_value l.core 0 ∷ slot_value l.core 1 ∷ slice_range l.core.slots 2 c.args.count in
    let row : Loaded → Row = λ l. prints.print_on 2 (length (slice_range l.core.slots 2 c.args.count)) 1 in
    let here = sym (descriptor_read c.self.inside old c.int_of-descriptor.result c.self.view_is c.int_of-descriptor.ensures) ∙ c.if-descriptor-eq2.true in
    let acts = dprintf_acts old c.args.checked c.args.count c.args.to 2 c.requires.call (all_slots c.self.inside old c.self.view_is c.self.told) here refl in
    let wrote = wrote_by args row r x y (loaded_of c.self.inside) old c.deref-then-descriptor-eq2.result.now c.deref-then-descriptor-eq2.ensures.value c.self.view_is (c.print_slots-on_err.ensures.dprintf (slot_value (loaded_of c.self.inside).core 0) 2) in
    (streams x x x, (streams x x y, on_err old c.args.to (args old) (row old) r x x x y acts (print_shows 2 (length (slice_range old.core.slots 2 c.args.count)) 1) wrote c.print_slots-on_err.ensures.grew))

pub returns-then-descriptor-eq2-clause-performed : goal.returns-then-descriptor-eq2-clause-performed
returns-then-descriptor-eq2-clause-performed g c = λ input.
    let old = c.args.self.now in
    let x = stream (g.E.Sink.written c.args.err.now) (g.E.Sink.count c.args.err.now) in
    let y = stream (g.E.Sink.written c.print_slots-on_err.new.sink) (g.E.Sink.count c.print_slots-on_err.new.sink) in
    let r = c.print_slots-on_err.result in
    let args : Loaded → List ℕ = λ l. slot_value l.core 0 ∷ slot_value l.core 1 ∷ slice_range l.core.slots 2 c.args.count in
    let row : Loaded → Row = λ l. prints.print_on 2 (length (slice_range l.core.slots 2 c.args.count)) 1 in
    let here = sym (descriptor_read c.self.inside old c.int_of-descriptor.result c.self.view_is c.int_of-descriptor.ensures) ∙ c.if-descriptor-eq2.true in
    let acts = dprintf_acts old c.args.checked c.args.count c.args.to 2 c.requires.call (all_slots c.self.inside old c.self.view_is c.self.told) here refl in
    let wrote = wrote_by args row r x y (loaded_of c.self.inside) old c.deref-then-descriptor-eq2.result.now c.deref-then-descriptor-eq2.ensures.value c.self.view_is (c.print_slots-on_err.ensures.dprintf (slot_value (loaded_of c.self.inside).core 0) 2) in
    let z = stream (g.O.Sink.written c.args.out.now) (g.O.Sink.count c.args.out.now) in
    c.wrote-then-descriptor-eq2.ensures.performed (streams input z x) (streams input z y) (on_err old c.args.to (args old) (row old) r input z x y acts (print_shows 2 (length (slice_range old.core.slots 2 c.args.count)) 1) wrote c.print_slots-on_err.ensures.grew)

pub give-requires-clause-register : goal.give-requires-clause-register
give-requires-clause-register g c = record { i = instr.Host c.args.to c.requires.call.number c.args.count; k = 0; stands = c.requires.call.stands; named = refl }

pub returns-clause-performed : goal.returns-clause-performed
returns-clause-performed g c = λ input.
    let old = c.args.self.now in
    let read = descriptor_read c.self.inside old c.int_of-descriptor.result c.self.view_is c.int_of-descriptor.ensures in
    went_on old c.give.new.self c.give.result (instr.Host c.args.to c.requires.call.number c.args.count) (giving c.args.to no_limit old.core)
    _ c.requires.running c.requires.call.stands c.give.ensures.step c.give.ensures.state refl
    (λ i. dprintf_elsewhere old c.args.checked c.args.count c.args.to c.requires.call i (all_slots c.self.inside old c.self.view_is c.self.told)
    (neither c.int_of-descriptor.result (int_of (slot_value old.core 0)) read c.if-descriptor-eq1.false c.if-descriptor-eq2.false))
