-- On one of the two descriptors it writes what its row shows, and on another nothing.
use Rattle.std.proofs.Common.{ℕ, List, ◌∷◌, [], refl, sym, ◌∙◌}
use Rattle.run_meaning.specs.Objects.{stream, streams}
use Rattle.bm_isa.specs.declared.instructions.Instr.TheVariants as instr
use Rattle.c_library.specs.declared.functions.LibFn.TheVariants as calls
use Rattle.library_meaning.specs.Rows.{Row}
use Rattle.library_meaning.specs.Table as table
use Rattle.library_meaning.specs.Table.{int_of, no_limit}
use Rattle.byte_machine.specs.State.{slot_value, giving}
use Rattle.byte_machine.specs.Machines.{Loaded}
use Rattle.byte_machine.specs.View.{loaded_of}
use Rattle.byte_machine.proofs.Slots.{all_slots, descriptor_read, neither, result_named, write_acts, write_elsewhere}
use Rattle.byte_machine.proofs.Steps.{went_on}
use Rattle.byte_machine.proofs.Written.{wrote_by, on_out, on_err}
use Rattle.byte_machine.proofs.machine.Machine.write.Goals as goal

pub wrote-requires-clause-written : goal.wrote-requires-clause-written
wrote-requires-clause-written g c =
    let old = c.args.self.now in
    let x = stream (g.O.Sink.written c.args.out.now) (g.O.Sink.count c.args.out.now) in
    let y = stream (g.O.Sink.written c.write_c-on_out.new.sink) (g.O.Sink.count c.write_c-on_out.new.sink) in
    let r = c.write_c-on_out.result in
    let args : Loaded → List ℕ = λ l. 1 ∷ slot_value l.core 1 ∷ slot_value l.core 2 ∷ [] in
    let row : Loaded → Row = λ l. table.write_on 1 in
    let here = sym (descriptor_read c.self.inside old c.int_of-descriptor.result c.self.view_is c.int_of-descriptor.ensures) ∙ c.if-descriptor-eq1.true in
    let acts = write_acts old c.args.checked c.args.to 1 c.requires.call (all_slots c.self.inside old c.self.view_is c.self.told) here refl in
    let wrote = wrote_by args row r x y (loaded_of c.self.inside) old c.deref.result.now c.deref.ensures.value c.self.view_is (c.write_c-on_out.ensures.row 1) in
    (streams x x x, (streams x y x, on_out old c.args.to (args old) (row old) r x x x y acts (λ n bs. (refl, tt)) wrote c.write_c-on_out.ensures.grew))

pub returns-then-descriptor-eq1-clause-performed : goal.returns-then-descriptor-eq1-clause-performed
returns-then-descriptor-eq1-clause-performed g c = λ input.
    let old = c.args.self.now in
    let x = stream (g.O.Sink.written c.args.out.now) (g.O.Sink.count c.args.out.now) in
    let y = stream (g.O.Sink.written c.write_c-on_out.new.sink) (g.O.Sink.count c.write_c-on_out.new.sink) in
    let r = c.write_c-on_out.result in
    let args : Loaded → List ℕ = λ l. 1 ∷ slot_value l.core 1 ∷ slot_value l.core 2 ∷ [] in
    let row : Loaded → Row = λ l. table.write_on 1 in
    let here = sym (descriptor_read c.self.inside old c.int_of-descriptor.result c.self.view_is c.int_of-descriptor.ensures) ∙ c.if-descriptor-eq1.true in
    let acts = write_acts old c.args.checked c.args.to 1 c.requires.call (all_slots c.self.inside old c.self.view_is c.self.told) here refl in
    let wrote = wrote_by args row r x y (loaded_of c.self.inside) old c.deref.result.now c.deref.ensures.value c.self.view_is (c.write_c-on_out.ensures.row 1) in
    let z = stream (g.E.Sink.written c.args.err.now) (g.E.Sink.count c.args.err.now) in
    c.wrote.ensures.performed (streams input x z) (streams input y z) (on_out old c.args.to (args old) (row old) r input z x y acts (λ n bs. (refl, tt)) wrote c.write_c-on_out.ensures.grew)

pub wrote-requires-then-descriptor-eq2-clause-written : goal.wrote-requires-then-descriptor-eq2-clause-written
wrote-requires-then-descriptor-eq2-clause-written g c =
    let old = c.args.self.now in
    let x = stream (g.E.Sink.written c.args.err.now) (g.E.Sink.count c.args.err.now) in
    let y = stream (g.E.Sink.written c.write_c-on_err.new.sink) (g.E.Sink.count c.write_c-on_err.new.sink) in
    let r = c.write_c-on_err.result in
    let args : Loaded → List ℕ = λ l. 2 ∷ slot_value l.core 1 ∷ slot_value l.core 2 ∷ [] in
    let row : Loaded → Row = λ l. table.write_on 2 in
    let here = sym (descriptor_read c.self.inside old c.int_of-descriptor.result c.self.view_is c.int_of-descriptor.ensures) ∙ c.if-descriptor-eq2.true in
    let acts = write_acts old c.args.checked c.args.to 2 c.requires.call (all_slots c.self.inside old c.self.view_is c.self.told) here refl in
    let wrote = wrote_by args row r x y (loaded_of c.self.inside) old c.deref-then-descriptor-eq2.result.now c.deref-then-descriptor-eq2.ensures.value c.self.view_is (c.write_c-on_err.ensures.row 2) in
    (streams x x x, (streams x x y, on_err old c.args.to (args old) (row old) r x x x y acts (λ n bs. (refl, tt)) wrote c.write_c-on_err.ensures.grew))

pub returns-then-descriptor-eq2-clause-performed : goal.returns-then-descriptor-eq2-clause-performed
returns-then-descriptor-eq2-clause-performed g c = λ input.
    let old = c.args.self.now in
    let x = stream (g.E.Sink.written c.args.err.now) (g.E.Sink.count c.args.err.now) in
    let y = stream (g.E.Sink.written c.write_c-on_err.new.sink) (g.E.Sink.count c.write_c-on_err.new.sink) in
    let r = c.write_c-on_err.result in
    let args : Loaded → List ℕ = λ l. 2 ∷ slot_value l.core 1 ∷ slot_value l.core 2 ∷ [] in
    let row : Loaded → Row = λ l. table.write_on 2 in
    let here = sym (descriptor_read c.self.inside old c.int_of-descriptor.result c.self.view_is c.int_of-descriptor.ensures) ∙ c.if-descriptor-eq2.true in
    let acts = write_acts old c.args.checked c.args.to 2 c.requires.call (all_slots c.self.inside old c.self.view_is c.self.told) here refl in
    let wrote = wrote_by args row r x y (loaded_of c.self.inside) old c.deref-then-descriptor-eq2.result.now c.deref-then-descriptor-eq2.ensures.value c.self.view_is (c.write_c-on_err.ensures.row 2) in
    let z = stream (g.O.Sink.written c.args.out.now) (g.O.Sink.count c.args.out.now) in
    c.wrote-then-descriptor-eq2.ensures.performed (streams input z x) (streams input z y) (on_err old c.args.to (args old) (row old) r input z x y acts (λ n bs. (refl, tt)) wrote c.write_c-on_err.ensures.grew)

pub give-requires-clause-register : goal.give-requires-clause-register
give-requires-clause-register g c = result_named c.args.self.now calls.Write c.args.checked c.args.to c.requires.call

pub returns-clause-performed : goal.returns-clause-performed
returns-clause-performed g c = λ input.
    let old = c.args.self.now in
    let read = descriptor_read c.self.inside old c.int_of-descriptor.result c.self.view_is c.int_of-descriptor.ensures in
    went_on old c.give.new.self c.give.result (instr.Host c.args.to c.requires.call.number c.requires.call.count) (giving c.args.to no_limit old.core)
    _ c.requires.running c.requires.call.stands c.give.ensures.step c.give.ensures.state refl
    (λ i. write_elsewhere old c.args.checked c.args.to c.requires.call i (all_slots c.self.inside old c.self.view_is c.self.told)
    (neither c.int_of-descriptor.result (int_of (slot_value old.core 0)) read c.if-descriptor-eq1.false c.if-descriptor-eq2.false))
