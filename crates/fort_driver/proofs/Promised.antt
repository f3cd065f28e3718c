-- The promise, by the command and by whether a machine was made ready for it.
use Rattle.std.proofs.Common.{◌≡◌, ℕ, Some, Ok, Err}
use Rattle.run_meaning.specs.Objects.{StoreState, Streams, outside}
use Rattle.byte_machine.specs.Machines.{Loaded}
use Rattle.fort_words.specs.declared.Outcome.{Outcome}
use Rattle.fort_words.specs.Commands.{Command, Exec, Run, steps_of}
use Rattle.fort_driver.specs.Fort.{OfMachine, HasNotRun, Promise}
use Rattle.fort_driver.specs.Preparing.{Readies, Runs}
use Rattle.fort_driver.proofs.Answering.{never_both, ready_promise, not_ready_promise}
use Rattle.fort_driver.proofs.Executing.{never_opening, loaded_promise, not_loaded_promise}

-- a machine was made ready and ran
pub ran_promise : (outcome : Outcome) (command : Command) (old new : StoreState) (x y : Streams) (machine : Loaded) (bound : ℕ)
    → bound ≡ steps_of command → Readies command (Ok machine) old new → Runs outcome bound machine x y
    → Promise (Some command) outcome (outside old x) (outside new y)
ran_promise outcome (Exec options image args) old new x y machine bound is_bound readies runs =
    loaded_promise outcome (Exec options image args) old new x y machine bound is_bound readies.ready runs.ran runs.failed readies.store
    (λ failed. absurd (cc))
ran_promise outcome (Run options file image args) old new x y machine bound is_bound readies runs =
    ready_promise outcome (Run options file image args) old new x y machine bound is_bound readies.ready runs.ran runs.failed readies.counts
    (λ failed. absurd (cc))
ran_promise outcome _ old new x y machine bound is_bound readies runs = absurd readies

-- none was
pub not_ran_promise : (outcome : Outcome) (command : Command) (old new : StoreState) (x : Streams) → Readies command (Err outcome) old new
    → Promise (Some command) outcome (outside old x) (outside new x)
not_ran_promise outcome (Exec options image args) old new x readies =
    not_loaded_promise outcome (Exec options image args) old new x readies.not_ready readies.store (λ failed. cc)
not_ran_promise outcome (Run options file image args) old new x readies =
    not_ready_promise outcome (Run options file image args) old new x readies.not_ready readies.counts (λ failed. cc)
not_ran_promise outcome _ old new x readies = absurd readies

-- the outcome of a run is none of a command that has not run
pub has_run : (outcome : Outcome) (command : Command) → OfMachine outcome → HasNotRun (Some command) outcome → ⊥
has_run outcome (Exec options image args) of other = never_opening outcome of other
has_run outcome (Run options file image args) of other = never_both outcome of other
has_run outcome _ of other = other
