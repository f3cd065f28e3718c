-- Bytes were taken, or the source failed, or its row stops.
use Rattle.std.proofs.Common.{◌≡◌, ◌≤◌, Bool, Option, Err, ◌∷◌, [], refl, sym, ◌∙◌, ap, subst}
use Rattle.bm_isa.specs.declared.instructions.Instr.TheVariants as instr
use Rattle.c_library.specs.declared.functions.LibFn.{LibFn}
use Rattle.run_meaning.specs.Objects.{stream, streams}
use Rattle.library_meaning.specs.Rows.{run}
use Rattle.library_meaning.specs.Table as table
use Rattle.library_meaning.specs.Table.{int_of}
use Rattle.library_meaning.specs.OnBytes.{on_bytes}
use Rattle.library_meaning.specs.OnStreams.{TakesAs}
use Rattle.library_meaning.specs.declared.stops.HostStop.{HostStop}
use Rattle.byte_machine.specs.State.{slot_value, answered, giving}
use Rattle.byte_machine.specs.Opening.{begun}
use Rattle.byte_machine.specs.Machines.{Loaded, asked_by_numbered, read_asks}
use Rattle.byte_machine.specs.Performing.{IsGoing, Halts}
use Rattle.byte_machine.proofs.Slots.{all_slots, descriptor_read, read_acts}
use Rattle.byte_machine.proofs.Steps.{is_zero}
use Rattle.byte_machine.proofs.Taken.{took, took_stops, failed_to_take, asks_some}
use Rattle.byte_machine.proofs.machine.Machine.read.Goals as goal

pub halt-requires : goal.halt-requires
halt-requires g c =
    let old = c.args.self.now in
    let size = c.size_of-size.result in
    let args = 0 ∷ slot_value old.core 1 ∷ slot_value old.core 2 ∷ [] in
    let here = is_zero c.int_of.result (int_of (slot_value old.core 0))
    (descriptor_read c.self.inside old c.int_of.result c.self.view_is c.int_of.ensures) c.if-int_of-ne0.false in
    let acts = read_acts old c.args.checked c.args.to size c.requires.call (all_slots c.self.inside old c.self.view_is c.self.told)
    c.size_of-size.ensures here in
    let stops = took_stops args (λ m. run (on_bytes args) (table.read size) m) (old.core.memory, c.take_bytes.new.self.core.memory) c.in-Err.stop _ _
    c.in_default.not-InputFault c.in-Err.ensures.took in
    let same : c.take_bytes.new.self ≡ old =
    c.in-Err.ensures.state ∙ ap (λ m. record old { core = record old.core { memory = m } }) stops.1 in
    let halts : Halts old c.in-Err.stop = record {
      i = instr.Host c.args.to acts.number acts.count;
      stands = acts.stands;
      does = λ input. acts.does input ∙ ap (λ r. answered c.args.to args r (begun old.core input)) (stops.0 (begun old.core input).world);
    } in
    record {
      running = subst IsGoing (sym same) c.requires.running;
      halts = subst (λ (l : Loaded). Halts l c.in-Err.stop) (sym same) halts;
    }

pub returns-in-Ok-clause-performed : goal.returns-in-Ok-clause-performed
returns-in-Ok-clause-performed g c = λ out.
    let old = c.args.self.now in
    let size = c.size_of-size.result in
    let args = 0 ∷ slot_value old.core 1 ∷ slot_value old.core 2 ∷ [] in
    let err = stream (g.E.Sink.written c.args.err.now) (g.E.Sink.count c.args.err.now) in
    let x = streams (stream (g.I.Source.left c.args.input.now) (g.I.Source.count c.args.input.now)) out err in
    let y = streams (stream (g.I.Source.left c.take_bytes.new.input) (g.I.Source.count c.take_bytes.new.input)) out err in
    let here = is_zero c.int_of.result (int_of (slot_value old.core 0))
    (descriptor_read c.self.inside old c.int_of.result c.self.view_is c.int_of.ensures) c.if-int_of-ne0.false in
    let acts = read_acts old c.args.checked c.args.to size c.requires.call (all_slots c.self.inside old c.self.view_is c.self.told)
    c.size_of-size.ensures here in
    took old c.give.new.self c.give.result c.args.to c.in-Ok.count args c.take_bytes.new.self.core.memory (table.read size) x y c.requires.running acts
    c.in-Ok.ensures.took c.in-Ok.ensures.grew (refl, refl) c.give.ensures.step
    (c.give.ensures.state ∙ ap (λ (l : Loaded). record l { core = giving c.args.to c.in-Ok.count l.core }) c.in-Ok.ensures.state)

pub returns-in-InputFault-clause-performed : goal.returns-in-InputFault-clause-performed
returns-in-InputFault-clause-performed g c = λ out.
    let old = c.args.self.now in
    let size = c.size_of-size.result in
    let args = 0 ∷ slot_value old.core 1 ∷ slot_value old.core 2 ∷ [] in
    let err = stream (g.E.Sink.written c.args.err.now) (g.E.Sink.count c.args.err.now) in
    let x = streams (stream (g.I.Source.left c.args.input.now) (g.I.Source.count c.args.input.now)) out err in
    let y = streams (stream (g.I.Source.left c.take_bytes.new.input) (g.I.Source.count c.take_bytes.new.input)) out err in
    let here = is_zero c.int_of.result (int_of (slot_value old.core 0))
    (descriptor_read c.self.inside old c.int_of.result c.self.view_is c.int_of.ensures) c.if-int_of-ne0.false in
    let acts = read_acts old c.args.checked c.args.to size c.requires.call (all_slots c.self.inside old c.self.view_is c.self.told)
    c.size_of-size.ensures here in
    let failed = subst (λ (e : HostStop). TakesAs args (λ m. run (on_bytes args) (table.read size) m)
    (old.core.memory, c.take_bytes.new.self.core.memory) (Err e) x.input y.input) c.in-InputFault.is c.in-Err.ensures.took in
    let some = asks_some (slot_value old.core 0) (slot_value old.core 1) (slot_value old.core 2) size old.core.memory x.input y.input here failed in
    let asks = subst (λ (o : Option (LibFn × Bool)). 1 ≤ asked_by_numbered o old.core) (sym c.requires.call.is)
    (subst (λ n. 1 ≤ read_asks (slot_value old.core 0) (slot_value old.core 1) (slot_value old.core 2) n) c.size_of-size.ensures some) in
    failed_to_take old c.stop.new.self c.stop.result c.args.to args (table.read size) x y c.requires.running acts failed c.in-Err.ensures.grew (refl, refl)
    asks c.stop.ensures.step (ap (λ (l : Loaded). l.stop) c.stop.ensures.stopped)
