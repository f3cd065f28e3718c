-- A call that has stored bytes goes on or stops as its instruction says.
use Rattle.std.proofs.Common.{◌≡◌, ℕ, Result, refl, sym, ◌∙◌, ap, subst}
use Rattle.run_meaning.specs.Objects.{stream, streams}
use Rattle.bm_isa.specs.declared.instructions.Instr.TheVariants as instr
use Rattle.library_meaning.specs.declared.stops.HostStop.{HostStop}
use Rattle.byte_machine.specs.State.{giving}
use Rattle.byte_machine.specs.Machines.{Loaded}
use Rattle.byte_machine.specs.Performing.{IsGoing, Halts, HasStored, Performs}
use Rattle.byte_machine.proofs.Moved.{stored_stands, stored_same}
use Rattle.byte_machine.proofs.Steps.{went_on}
use Rattle.byte_machine.proofs.machine.Machine.stored.Goals as goal

pub give-requires : goal.give-requires
give-requires g c =
    let h = c.requires.1 in
    let stands = stored_stands c.requires.0 c.args.self.now c.args.to c.args.done h in
    record {
      on = (instr.Host c.args.to h.number h.count, stands, refl);
      register = record { i = instr.Host c.args.to h.number h.count; k = 0; stands = stands; named = refl };
    }

pub halt-requires : goal.halt-requires
halt-requires g c =
    let before = c.requires.0 in
    let stop = c.in-Err.stop in
    let h = subst (λ (r : Result ℕ HostStop). HasStored before c.args.to r c.args.self.now) c.in-Err.is c.requires.1 in
    let same = stored_same before c.args.self.now c.args.to stop h in
    let halts : Halts before stop = record { i = instr.Host c.args.to h.number h.count; stands = h.stands; does = h.does } in
    record {
      running = subst IsGoing (sym same) h.going;
      halts = subst (λ (l : Loaded). Halts l stop) (sym same) halts;
    }

pub returns-in-Ok-clause-performed : goal.returns-in-Ok-clause-performed
returns-in-Ok-clause-performed g c = λ before input out stored.
    let number = c.in-Ok.number in
    let h = subst (λ (r : Result ℕ HostStop). HasStored before c.args.to r c.args.self.now) c.in-Ok.is stored in
    let memory = c.args.self.now.core.memory in
    let done : c.give.new.self ≡ record before { core = giving c.args.to number (record before.core { memory = memory }) } =
    c.give.ensures.state ∙ ap (λ (l : Loaded). record l { core = giving c.args.to number l.core }) h.state in
    went_on before c.give.new.self c.give.result (instr.Host c.args.to h.number h.count)
    (giving c.args.to number (record before.core { memory = memory })) _ h.going h.stands c.give.ensures.step done refl h.does

pub returns-in-Err-clause-performed : goal.returns-in-Err-clause-performed
returns-in-Err-clause-performed g c = λ before input out stored.
    let h = subst (λ (r : Result ℕ HostStop). HasStored before c.args.to r c.args.self.now) c.in-Err.is stored in
    subst (λ (l : Loaded). Performs l c.halt.new.self c.halt.result
    (streams input out (stream (g.E.Sink.written c.args.err.now) (g.E.Sink.count c.args.err.now)))
    (streams input out (stream (g.E.Sink.written c.halt.new.err) (g.E.Sink.count c.halt.new.err))))
    (stored_same before c.args.self.now c.args.to c.in-Err.stop h) (c.halt.ensures.performed input out)
