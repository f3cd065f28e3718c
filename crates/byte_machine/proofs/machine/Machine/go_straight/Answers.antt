-- The running call went on within the machine.
use Rattle.std.proofs.Common.{length, sym, ◌∙◌, ap}
use Rattle.std.proofs.lemmas.List.{with_items_is}
use Rattle.byte_machine.specs.State.{after, State}
use Rattle.byte_machine.specs.View.{core_of, program_in}
use Rattle.byte_machine.proofs.Staying.{goes_along, lent_core, is_running}
use Rattle.byte_machine.proofs.machine.Machine.go_straight.Goals as goal

pub returns-clause-stays : goal.returns-clause-stays
returns-clause-stays c = λ world.
    let m = c.self.inside in
    let went = c.go_straight in
    let program = program_in m in
    let kept = c.deref_mut.result.now in
    let leads = rw (c.deref.ensures.value, c.deref-2.ensures.value) at went.ensures.stays in
    let items = with_items_is m.memory went.new.memory (went.auto.memory ∙ ap length c.deref_mut.ensures.value ∙ sym m.memory.ok.0) in
    rw (← c.self.view_is)
    (goes_along (λ (s : State). after program went.result s) (core_of m) _ world went.new.self.running.at went.new.self.running.registers
    kept went.new.memory went.new.slots (is_running m c.args.self.now c.self.view_is c.requires) c.deref_mut.ensures.value
    (lent_core m went.new.self _ _ went.new.memory went.new.slots items went.ensures.rest) leads)
