-- What was written is what the row shows.
use Rattle.std.proofs.Common.{ℕ, List, ◌∷◌, [], refl, subst}
use Rattle.run_meaning.specs.Objects.{stream, streams}
use Rattle.byte_machine.specs.State.{slot_value, note}
use Rattle.library_meaning.specs.Rows.{Row}
use Rattle.byte_machine.specs.Machines.{Loaded}
use Rattle.byte_machine.proofs.Slots.{all_slots, note_acts}
use Rattle.byte_machine.proofs.Written.{WritesBy, on_err}
use Rattle.byte_machine.proofs.machine.Machine.note.Goals as goal

pub wrote-requires-clause-written : goal.wrote-requires-clause-written
wrote-requires-clause-written g c =
    let old = c.args.self.now in
    let x = stream (g.E.Sink.written c.args.err.now) (g.E.Sink.count c.args.err.now) in
    let y = stream (g.E.Sink.written c.put_size-done.new.err) (g.E.Sink.count c.put_size-done.new.err) in
    let r = c.put_size-done.result in
    let args : Loaded → List ℕ = λ l. slot_value l.core 0 ∷ slot_value l.core 1 ∷ slot_value l.core 2 ∷ slot_value l.core 3 ∷ [] in
    let row : Loaded → Row = λ l. note in
    let acts = note_acts old c.args.checked c.args.to c.requires.call (all_slots c.self.inside old c.self.view_is c.self.told) in
    let wrote = subst (WritesBy args row r x y) c.self.view_is (c.put_size-done.ensures.row c.self.inside.memory.items) in
    (streams x x x, (streams x x y, on_err old c.args.to (args old) (row old) r x x x y acts (λ line column mode value. (refl, tt)) wrote c.put_size-done.ensures.grew))

pub returns-clause-performed : goal.returns-clause-performed
returns-clause-performed g c = λ input out.
    let old = c.args.self.now in
    let x = stream (g.E.Sink.written c.args.err.now) (g.E.Sink.count c.args.err.now) in
    let y = stream (g.E.Sink.written c.put_size-done.new.err) (g.E.Sink.count c.put_size-done.new.err) in
    let r = c.put_size-done.result in
    let args : Loaded → List ℕ = λ l. slot_value l.core 0 ∷ slot_value l.core 1 ∷ slot_value l.core 2 ∷ slot_value l.core 3 ∷ [] in
    let row : Loaded → Row = λ l. note in
    let acts = note_acts old c.args.checked c.args.to c.requires.call (all_slots c.self.inside old c.self.view_is c.self.told) in
    let wrote = subst (WritesBy args row r x y) c.self.view_is (c.put_size-done.ensures.row c.self.inside.memory.items) in
    c.wrote.ensures.performed (streams input out x) (streams input out y) (on_err old c.args.to (args old) (row old) r input out x y acts (λ line column mode value. (refl, tt)) wrote c.put_size-done.ensures.grew)
