-- A machine whose running call went on, whatever calls wait around it.
use Rattle.std.proofs.Common.{◌≡◌, ℕ, ◌<◌, ◌≤◌, List, [], length, ◌&&◌, nat_lt, nat_le, true, None, Option, refl, sym, ◌∙◌, ap, subst, Some}
use Rattle.std.proofs.lemmas.Bool.{le-leb, lt-ltb}
use Rattle.fc_base.specs.declared.levels.End.{End}
use Rattle.run_meaning.specs.Objects.{Streams}
use Rattle.run_meaning.specs.Worlds.{World, Input}
use Rattle.bm_isa.specs.declared.instructions.Instr.{Instr}
use Rattle.bm_image.specs.Images.{fits}
use Rattle.byte_machine.specs.declared.machine.Machine.TheInside.{Inside}
use Rattle.byte_machine.specs.declared.machine.Stop.TheVariants as stops
use Rattle.byte_machine.specs.declared.machine.Step.{Step}
use Rattle.byte_machine.specs.declared.machine.Step.TheVariants as steps
use Rattle.byte_machine.specs.State.{Window, Core, State, perform, ending, with_core}
use Rattle.byte_machine.specs.Calls.{Stack}
use Rattle.byte_machine.specs.Opening.{begun}
use Rattle.byte_machine.specs.Machines.{Loaded}
use Rattle.byte_machine.specs.Performing.{IsGoing, StandsAt, stopped_with, Performs}
use Rattle.byte_machine.specs.Straight.{Around, running_at}
use Rattle.byte_machine.specs.View.{loaded_of, core_of, program_in, IsRunnable}
use Rattle.byte_machine.proofs.Steps.{bounds_in, stands_in, stands_fits, went_on, ended_there}

-- what stands around the running call of a machine
abbrev pub around : Core → World → Around
around core world = record { function = core.running.function; callers = core.callers; heap = core.heap; world = world }

-- what leads a call along, whatever stands around it, leads the machine along
pub goes_along : (f : State → State) (old new : Core) (world : World) (at : ℕ) (registers kept memory slots : List ℕ) → old.stopped ≡ None
    → kept ≡ old.memory
    → new ≡ record old { memory = memory; running = record old.running { at = at; registers = registers }; slots = slots }
    → ((a : Around) → f (running_at a old.running.base old.running.at old.running.registers kept old.slots)
    ≡ running_at a old.running.base at registers memory slots)
    → f (record { core = old; world = world }) ≡ record { core = new; world = world }
goes_along f old new world at registers kept memory slots running was is leads =
    let a = around old world in
    let after : Option End → Core = λ (s : Option End). record old {
      memory = memory;
      running = record old.running { at = at; registers = registers };
      slots = slots;
      stopped = s;
    } in
    ap (λ (s : Option End). f (record { core = record old { stopped = s }; world = world })) running
    ∙ ap (λ (m : List ℕ). f (running_at a old.running.base old.running.at old.running.registers m old.slots)) (sym was)
    ∙ leads a
    ∙ sym (ap (λ (core : Core). record { core = core; world = world }) (is ∙ ap after running))

-- what ends the run there ends the machine's
ends_along : (f : State → State) (old : Core) (world : World) (kept : List ℕ) (end : End) → old.stopped ≡ None → kept ≡ old.memory
    → ((a : Around) → f (running_at a old.running.base old.running.at old.running.registers kept old.slots)
    ≡ with_core (ending end (running_at a old.running.base old.running.at old.running.registers kept old.slots).core)
    (running_at a old.running.base old.running.at old.running.registers kept old.slots))
    → f (record { core = old; world = world }) ≡ record { core = ending end old; world = world }
ends_along f old world kept end running was leads =
    let a = around old world in
    ap (λ (s : Option End). f (record { core = record old { stopped = s }; world = world })) running
    ∙ ap (λ (m : List ℕ). f (running_at a old.running.base old.running.at old.running.registers m old.slots)) (sym was)
    ∙ leads a
    ∙ ap (λ (m : List ℕ). record { core = record old { memory = m; stopped = Some end }; world = world }) was

-- the core of a machine after its memory, its running call and its slots were lent
pub lent_core : (m : Inside) (w : Stack) (running : Window) (items memory slots : List ℕ) → items ≡ memory
    → w ≡ record m.windows { running = running }
    → record (core_of m) { memory = items; running = w.running; callers = w.callers; slots = slots }
    ≡ record (core_of m) { memory = memory; running = running; slots = slots }
lent_core m w running items memory slots same is =
    ap (λ (x : List ℕ). record (core_of m) { memory = x; running = w.running; callers = w.callers; slots = slots }) same
    ∙ ap (λ (x : Stack). record (core_of m) { memory = memory; running = x.running; callers = x.callers; slots = slots }) is

-- a machine that has not stopped, in its fields
pub is_running : (m : Inside) (l : Loaded) → loaded_of m ≡ l → IsGoing l → (core_of m).stopped ≡ None
is_running m l view going = ap (λ (x : Loaded). x.core.stopped) view ∙ going.0

is_going : (m : Inside) (l : Loaded) → loaded_of m ≡ l → IsGoing l → IsGoing (loaded_of m)
is_going m l view going = (is_running m l view going, ap (λ (x : Loaded). x.stop) view ∙ going.1)

-- the instruction that a machine stands at fits, by the number of its call's registers
pub fits_in : (m : Inside) (l : Loaded) (i : Instr) → loaded_of m ≡ l → IsRunnable m → StandsAt l i
    → fits (record (bounds_in m) { registers = length m.windows.running.registers }) i ≡ true
fits_in m l i view is stands = rw (is.running.registers) (stands_fits m i is (stands_in m l i view stands))

-- an instruction that stays in its call was carried out, and the machine goes on
pub went_along : (m : Inside) (l new : Loaded) (step : Step) (i : Instr) (core' : Core) (at : ℕ) (registers kept memory slots : List ℕ) (all : Streams)
    → loaded_of m ≡ l → IsGoing l → StandsAt l i → kept ≡ m.memory.items
    → core' ≡ record (core_of m) { memory = memory; running = record m.windows.running { at = at; registers = registers }; slots = slots }
    → ((a : Around) → perform (program_in m) i (running_at a m.windows.running.base m.windows.running.at m.windows.running.registers kept m.slots)
    ≡ running_at a m.windows.running.base at registers memory slots)
    → step ≡ steps.Going → new ≡ record { program = program_in m; core = core'; stop = m.stopped }
    → Performs l new step all all
went_along m l new step i core' at registers kept memory slots all view going stands was is leads on now =
    let does : (input : Input) → perform (program_in m) i (begun (core_of m) input) ≡ begun core' input = λ input.
    goes_along (perform (program_in m) i) (core_of m) core' (record { input = input; shown = [] }) at registers kept memory slots
    (is_running m l view going) was is leads in
    subst (λ (x : Loaded). Performs x new step all all) view
    (went_on (loaded_of m) new step i core' all (is_going m l view going) (stands_in m l i view stands) on now
    (ap (λ (core : Core). core.stopped) is) does)

-- or the run ended there
pub ended_along : (m : Inside) (l new : Loaded) (step : Step) (i : Instr) (end : End) (kept : List ℕ) (all : Streams)
    → loaded_of m ≡ l → IsGoing l → StandsAt l i → kept ≡ m.memory.items
    → ((a : Around) → perform (program_in m) i (running_at a m.windows.running.base m.windows.running.at m.windows.running.registers kept m.slots)
    ≡ with_core (ending end (running_at a m.windows.running.base m.windows.running.at m.windows.running.registers kept m.slots).core)
    (running_at a m.windows.running.base m.windows.running.at m.windows.running.registers kept m.slots))
    → step ≡ steps.Stopped (stops.Ended end) → new ≡ stopped_with (stops.Ended end) (loaded_of m)
    → Performs l new step all all
ended_along m l new step i end kept all view going stands was leads stops now =
    let does : (input : Input) → perform (program_in m) i (begun (core_of m) input) ≡ begun (ending end (core_of m)) input = λ input.
    ends_along (perform (program_in m) i) (core_of m) (record { input = input; shown = [] }) kept end
    (is_running m l view going) was leads in
    subst (λ (x : Loaded). Performs x new step all all) view
    (ended_there (loaded_of m) new step i end all (is_going m l view going) (stands_in m l i view stands) stops now does)

-- a place within bounds
pub within : (first end target : ℕ) → (first ≤ target) × (target < end) → (nat_le first target && nat_lt target end) ≡ true
within first end target is = rw (le-leb first target is.0, lt-ltb target end is.1) refl
