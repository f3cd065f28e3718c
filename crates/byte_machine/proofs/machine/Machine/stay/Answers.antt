-- By what the instruction led to.
use Rattle.std.proofs.Common.{◌≡◌, ◌+◌, length, List, ℕ, sym, ◌∙◌, ap, slice_get}
use Rattle.std.proofs.lemmas.List.{with_items_is}
use Rattle.byte_machine.specs.Calls.{Stack}
use Rattle.byte_machine.specs.State.{Core, going_on, going_to}
use Rattle.byte_machine.specs.declared.machine.Stop.TheVariants as stops
use Rattle.byte_machine.specs.Performing.{stopped_with}
use Rattle.byte_machine.specs.View.{loaded_of, core_of, program_in}
use Rattle.byte_machine.proofs.Steps.{bounds_in, stands_in}
use Rattle.byte_machine.proofs.Staying.{fits_in, lent_core, went_along, ended_along, within}
use Rattle.byte_machine.proofs.machine.Machine.stay.Goals as goal

pub perform-requires-clause-fits : goal.perform-requires-clause-fits
perform-requires-clause-fits c =
    let m = c.self.inside in
    (bounds_in m, fits_in m c.args.self.now c.args.i c.self.view_is c.self.invariant c.requires.instruction)

pub goes_on-requires : goal.goes_on-requires
goes_on-requires c =
    let m = c.self.inside in
    let fit = fits_in m c.args.self.now c.args.i c.self.view_is c.self.invariant c.requires.instruction in (
      c.args.i,
      ap (λ (s : Stack). slice_get m.code.items s.running.at) c.perform.ensures.rest
          ∙ stands_in m c.args.self.now c.args.i c.self.view_is c.requires.instruction,
      c.in-Behind.ensures.stays (bounds_in m) fit,
    )

pub goes_to-requires : goal.goes_to-requires
goes_to-requires c =
    let m = c.self.inside in
    let fit = fits_in m c.args.self.now c.args.i c.self.view_is c.self.invariant c.requires.instruction in
    let lands = within (bounds_in m).first (bounds_in m).end c.in-To.target (c.in-To.ensures.stays (bounds_in m) fit) in
    rw (ap (λ (s : Stack). s.running.function) c.perform.ensures.rest) lands

pub returns-in-Behind-clause-performed : goal.returns-in-Behind-clause-performed
returns-in-Behind-clause-performed c = λ all.
    let m = c.self.inside in
    let did = c.perform in
    let items = with_items_is m.memory did.new.memory (did.auto.memory ∙ ap length c.deref_mut.ensures.value ∙ sym m.memory.ok.0) in
    let core = lent_core m did.new.self _ _ did.new.memory did.new.slots items did.ensures.rest in
    went_along m c.args.self.now c.goes_on.new.self c.goes_on.result c.args.i _ (m.windows.running.at + 1) did.new.self.running.registers
    c.deref_mut.result.now did.new.memory did.new.slots all c.self.view_is c.requires.running c.requires.instruction c.deref_mut.ensures.value
    (ap (λ (k : Core). going_on k) core) (λ a. c.in-Behind.ensures.leads (program_in m) a m.windows.running.at)
    c.goes_on.ensures.step c.goes_on.ensures.state

pub returns-in-To-clause-performed : goal.returns-in-To-clause-performed
returns-in-To-clause-performed c = λ all.
    let m = c.self.inside in
    let did = c.perform in
    let items = with_items_is m.memory did.new.memory (did.auto.memory ∙ ap length c.deref_mut.ensures.value ∙ sym m.memory.ok.0) in
    let core = lent_core m did.new.self _ _ did.new.memory did.new.slots items did.ensures.rest in
    went_along m c.args.self.now c.goes_to.new.self c.goes_to.result c.args.i _ c.in-To.target did.new.self.running.registers
    c.deref_mut.result.now did.new.memory did.new.slots all c.self.view_is c.requires.running c.requires.instruction c.deref_mut.ensures.value
    (ap (λ (k : Core). going_to c.in-To.target k) core) (λ a. c.in-To.ensures.leads (program_in m) a m.windows.running.at)
    c.goes_to.ensures.step c.goes_to.ensures.state

pub returns-in-Ends-clause-performed : goal.returns-in-Ends-clause-performed
returns-in-Ends-clause-performed c = λ all.
    let m = c.self.inside in
    let did = c.perform in
    let leads = c.in-Ends.ensures.leads in
    let kept = c.deref_mut.ensures.value in
    let items = with_items_is m.memory did.new.memory (did.auto.memory ∙ ap length kept ∙ sym m.memory.ok.0) in
    let windows : did.new.self ≡ m.windows =
    did.ensures.rest ∙ ap (λ (r : List ℕ). record m.windows { running = record m.windows.running { registers = r } }) leads.0 in
    let core = lent_core m did.new.self m.windows.running _ m.memory.items did.new.slots (items ∙ leads.1 ∙ kept) windows
    ∙ ap (λ (s : List ℕ). record (core_of m) { slots = s }) leads.2 in
    ended_along m c.args.self.now c.stop.new.self c.stop.result c.args.i c.in-Ends.end c.deref_mut.result.now all c.self.view_is
    c.requires.running c.requires.instruction kept (λ a. leads.3 (program_in m) a m.windows.running.at) c.stop.ensures.step
    (c.stop.ensures.stopped ∙ ap (λ (k : Core). stopped_with (stops.Ended c.in-Ends.end) (record (loaded_of m) { core = k })) core)
