-- The one answer of `run`, by the bytes under FILE.
use Rattle.std.proofs.Common.{◌≡◌, ℕ, ◌≤◌, ◌<◌, List, length, false, Option, Some, Result, Ok, Err, refl, sym, ◌∙◌, ap, subst, inl, inr}
use Rattle.std.proofs.Common.{arith}
use Rattle.fc_base.specs.Outside.{Files}
use Rattle.fc_base.specs.declared.levels.End.{End}
use Rattle.fc_base.specs.declared.levels.Level.TheVariants.{Three}
use Rattle.fc_base.specs.declared.refusals.Refusal.{Refusal}
use Rattle.run_meaning.specs.Objects.{StoreState, Streams, Offers, Failed, NoneFailed, outside}
use Rattle.run_meaning.specs.Runs.{Ended}
use Rattle.run_meaning.specs.Worlds.{Input}
use Rattle.run_meaning.specs.declared.streams.Stream.{Stream}
use Rattle.run_meaning.specs.declared.streams.Stream.TheVariants.{Input as OfInput, Out as OfOut, Err as OfErr}
use Rattle.fort_forms.specs.declared.Form.{Form}
use Rattle.fort_forms.specs.Forms.{IsForm}
use Rattle.c_front.proofs.Serving.{form_is, one}
use Rattle.byte_machine.specs.State.{Core, Program}
use Rattle.byte_machine.specs.Opening.{program_of, first_core}
use Rattle.byte_machine.specs.Machines.{Loaded}
use Rattle.fort_words.specs.declared.Outcome.{Outcome}
use Rattle.fort_words.specs.declared.Outcome.TheVariants as outcomes
use Rattle.fort_words.specs.Commands.{Command, level_of, sizes_of, steps_of, args_of, fetched_of, longest_of}
use Rattle.fort_driver.specs.Compiled.{form_image}
use Rattle.fort_driver.specs.Forms.{form_meaning}
use Rattle.fort_driver.specs.Fort.{Holds, CompilesFor, ComesTo, OfMachine, OfCompiling, OfQuietRun, NotCompiled, KeepsCounts, StoodStill}
use Rattle.fort_driver.specs.Fort.{EndsWithin, RunAnswers, RunPromise, fault_outcome}
use Rattle.fort_driver.specs.Agreeing.{source_runs, end_bound, weight_of}
use Rattle.fort_driver.specs.Preparing.{IsReady}
use Rattle.fort_driver.proofs.Agreement.{ended_by, shown_then, form_shows}

-- what is told is what was fetched
pub same_source : (files : Option Files) (f : Files) (file source fetched : List ℕ) → files ≡ Some f → f file ≡ Some source
    → Holds files file fetched → fetched ≡ source
same_source files f file source fetched told here holds =
    let there : Holds (Some f) file fetched = subst (λ x. Holds x file fetched) told holds in
    cc (there, here)

-- the outcomes of one source
one_refusal : (command : Command) (source : List ℕ) (a b : Refusal) → CompilesFor command source (Err a)
    → CompilesFor command source (Err b) → a ≡ b
one_refusal command source a b first second =
    let same : ◌≡◌ {A = Result Form Refusal} (Err a) (Err b) = one (level_of command) source first second in cc

one_form : (command : Command) (source : List ℕ) (a b : Form) → CompilesFor command source (Ok a) → CompilesFor command source (Ok b)
    → a ≡ b
one_form command source a b first second =
    let same : ◌≡◌ {A = Result Form Refusal} (Ok a) (Ok b) = one (level_of command) source first second in cc

not_both : (command : Command) (source : List ℕ) (form : Form) (refusal : Refusal) → CompilesFor command source (Ok form)
    → CompilesFor command source (Err refusal) → ⊥
not_both command source form refusal read broken =
    let same : ◌≡◌ {A = Result Form Refusal} (Ok form) (Err refusal) = one (level_of command) source read broken in absurd (cc)

-- ---- before a run

pub not_compiled_answers : (outcome : Outcome) (command : Command) (source : List ℕ) (old new : StoreState) (x y : Streams) (f : Files)
    → NotCompiled command outcome old new → old.files ≡ Some f → f (fetched_of command) ≡ Some source
    → StoodStill (old.fetch_faults (fetched_of command)) (new.fetch_faults (fetched_of command))
    → RunAnswers command outcome (outside old x) (outside new y) source
not_compiled_answers outcomes.StoreFault command source old new x y f (inl failed) told here still = absurd (still failed.fetch)
not_compiled_answers outcomes.StoreFault command source old new x y f (inr failed) told here still =
    let form = failed.of_source.0 in
    let fetched = failed.of_source.1.1 in
    let same = same_source old.files f (fetched_of command) source failed.of_source.1.0 told here fetched.held in
    let short : length source ≤ longest_of command = subst (λ s. length s ≤ longest_of command) same fetched.short in
    let read = subst (λ s. CompilesFor command s (Ok form)) same failed.of_source.1.2 in
    record {
      too_long = λ long. absurd (omega arith);
      refused = λ refusal _ broken. absurd (not_both command source form refusal read broken);
      accepted = λ _ _ _ all. absurd (all.keep failed.keep);
      ended = λ _ _ _ _ _ all. absurd (all.keep failed.keep);
    }
not_compiled_answers outcomes.TooLong command source old new x y f left told here still =
    let same = same_source old.files f (fetched_of command) source left.0.0 told here left.0.1 in
    let over : longest_of command < length source = subst (λ s. longest_of command < length s) same left.0.2 in
    record {
      too_long = λ _. inl refl;
      refused = λ refusal short _. absurd (omega arith);
      accepted = λ form short _ all. absurd (omega arith);
      ended = λ form n end short _ all. absurd (omega arith);
    }
not_compiled_answers (outcomes.Refused refusal) command source old new x y f left told here still =
    let fetched = left.0.1 in
    let same = same_source old.files f (fetched_of command) source left.0.0 told here fetched.held in
    let short : length source ≤ longest_of command = subst (λ s. length s ≤ longest_of command) same fetched.short in
    let read = subst (λ s. CompilesFor command s (Err refusal)) same left.0.2 in
    record {
      too_long = λ long. absurd (omega arith);
      refused = λ other _ broken. inl (ap outcomes.Refused (one_refusal command source refusal other read broken));
      accepted = λ form _ compiles all. absurd (not_both command source form refusal compiles read);
      ended = λ form n end _ compiles all. absurd (not_both command source form refusal compiles read);
    }
not_compiled_answers outcomes.NoMemory command source old new x y f left told here still = record {
  too_long = λ _. inr refl;
  refused = λ _ _ _. inr refl;
  accepted = λ _ _ _ _. tt;
  ended = λ _ _ _ _ _ _ _ _. inr refl;
}
not_compiled_answers _ command source old new x y f left told here still = absurd left

-- ---- of a run

-- an outcome of a run is one
pub of_machine : (outcome : Outcome) (bound : ℕ) (program : Program) (core : Core) (x y : Streams)
    → ComesTo outcome bound program core x y → OfMachine outcome
of_machine (outcomes.Ran end) bound program core x y runs = tt
of_machine outcomes.OutOfSteps bound program core x y runs = tt
of_machine outcomes.InputFault bound program core x y runs = tt
of_machine outcomes.OutFault bound program core x y runs = tt
of_machine outcomes.ErrFault bound program core x y runs = tt
of_machine _ bound program core x y runs = absurd runs

-- a stream's fault comes only where its count rose
abbrev pub FailsBy : Outcome → Streams → Streams → Type 0
FailsBy outcome x y = (which : Stream) → outcome ≡ fault_outcome which → Failed which x y

pub quiet : (outcome : Outcome) (x y : Streams) → OfMachine outcome → FailsBy outcome x y → NoneFailed x y → OfQuietRun outcome
quiet (outcomes.Ran end) x y of fails none = tt
quiet outcomes.OutOfSteps x y of fails none = tt
quiet outcomes.InputFault x y of fails none = absurd (none OfInput (fails OfInput refl))
quiet outcomes.OutFault x y of fails none = absurd (none OfOut (fails OfOut refl))
quiet outcomes.ErrFault x y of fails none = absurd (none OfErr (fails OfErr refl))
quiet _ x y of fails none = absurd of

-- a command at level 3 without sizes, for whose source the form ends so
ends_so : (command : Command) (form : Form) (n : ℕ) (end : End) (x : Streams) → level_of command ≡ Three → sizes_of command ≡ false
    → EndsWithin command form n end x
    → (input : Input) → Offers x input → (form_shows form).1 ≡ Ended end
ends_so command form n end x level sizes is input offered =
    subst (λ t. (source_runs (form_meaning form) Three t (args_of command) input n).1 ≡ Ended end) sizes
    (subst (λ l. (source_runs (form_meaning form) l (sizes_of command) (args_of command) input n).1 ≡ Ended end) level (is input offered))

-- a bound that leaves room for a source's end leaves room for the form's
room : (form : Form) (n bound : ℕ) → end_bound (weight_of (form_meaning form)) n ≤ bound → 11 ≤ bound
room form n bound enough = omega arith

-- the form's run comes to its end where no stream fails
run_ends : (outcome : Outcome) (args : List (List ℕ)) (bound : ℕ) (form : Form) (end : End) (x y : Streams) → IsForm form
    → ((input : Input) → Offers x input → (form_shows form).1 ≡ Ended end) → 11 ≤ bound
    → ComesTo outcome bound (program_of (form_image form)) (first_core (form_image form) args) x y → FailsBy outcome x y → NoneFailed x y
    → outcome ≡ outcomes.Ran end
run_ends (outcomes.Ran other) args bound form end x y ok is enough runs fails none =
    let advances = runs.4 in
    let stopped = ap (λ k. k.stopped) advances.state ∙ runs.3 in
    let reached = shown_then form ok args advances.input runs.0 other stopped in
    let same : Ended other ≡ Ended end = sym reached.0 ∙ is advances.input advances.offered in
    ap outcomes.Ran (cc same)
run_ends outcomes.OutOfSteps args bound form end x y ok is enough runs fails none =
    let advances = runs.2 in
    let running = ap (λ k. k.stopped) advances.state ∙ runs.1 in
    let over = ended_by form ok args advances.input end (is advances.input advances.offered) bound enough in
    absurd (cc (running, over))
run_ends outcomes.InputFault args bound form end x y ok is enough runs fails none = absurd (none OfInput (fails OfInput refl))
run_ends outcomes.OutFault args bound form end x y ok is enough runs fails none = absurd (none OfOut (fails OfOut refl))
run_ends outcomes.ErrFault args bound form end x y ok is enough runs fails none = absurd (none OfErr (fails OfErr refl))
run_ends _ args bound form end x y ok is enough runs fails none = absurd runs

-- the outcomes of a run
ready_answers : (outcome : Outcome) (command : Command) (source : List ℕ) (old new : StoreState) (x y : Streams) (f : Files)
    (machine : Loaded)
    → IsReady command old new machine → ComesTo outcome (steps_of command) machine.program machine.core x y → FailsBy outcome x y
    → old.files ≡ Some f → f (fetched_of command) ≡ Some source → RunAnswers command outcome (outside old x) (outside new y) source
ready_answers outcome command source old new x y f machine ready runs fails told here =
    let form = ready.image_kept.compiled in
    let compiled = ready.image_kept.of_source in
    let same = same_source old.files f (fetched_of command) source compiled.0 told here compiled.1.held in
    let short : length source ≤ longest_of command = subst (λ s. length s ≤ longest_of command) same compiled.1.short in
    let read = subst (λ s. CompilesFor command s (Ok form)) same compiled.2 in
    let args = args_of command in
    let program = ready.opened.program ∙ ap program_of ready.made in
    let core = ready.opened.core ∙ ap (λ image. first_core image args) ready.made in
    let form_run = subst (λ k. ComesTo outcome (steps_of command) (program_of (form_image form)) k x y) core
    (subst (λ p. ComesTo outcome (steps_of command) p machine.core x y) program runs) in
    record {
      too_long = λ long. absurd (omega arith);
      refused = λ refusal _ broken. absurd (not_both command source form refusal read broken);
      accepted =
          λ _ _ _ all. quiet outcome x y (of_machine outcome (steps_of command) machine.program machine.core x y runs) fails all.streams;
      ended = λ other n end _ compiles all is enough.
          let one = one_form command source other form compiles read in
          let mine : EndsWithin command form n end x = subst (λ o. EndsWithin command o n end x) one is in
          inl
          (run_ends outcome args (steps_of command) form end x y (form_is read)
          (ends_so command form n end x ready.level ready.sizes mine)
          (room other n (steps_of command) enough) form_run fails all.streams);
    }

-- ---- the promise

-- neither kind of outcome is one of the other kind
pub never_both : (outcome : Outcome) → OfMachine outcome → OfCompiling outcome → ⊥
never_both (outcomes.Ran end) of other = other
never_both outcomes.OutOfSteps of other = other
never_both outcomes.InputFault of other = other
never_both outcomes.OutFault of other = other
never_both outcomes.ErrFault of other = other
never_both _ of other = of

of_compiling : (outcome : Outcome) (command : Command) (old new : StoreState) → NotCompiled command outcome old new → OfCompiling outcome
of_compiling outcomes.StoreFault command old new left = tt
of_compiling outcomes.TooLong command old new left = tt
of_compiling (outcomes.Refused refusal) command old new left = tt
of_compiling outcomes.NoMemory command old new left = tt
of_compiling _ command old new left = absurd left

no_fault : (outcome : Outcome) → OfCompiling outcome → (which : Stream) → outcome ≡ fault_outcome which → ⊥
no_fault outcome of OfInput is = subst OfCompiling is of
no_fault outcome of OfOut is = subst OfCompiling is of
no_fault outcome of OfErr is = subst OfCompiling is of

counts_as : {P Q : Type 0} (command : Command) (old new : StoreState) → (P → Q) → KeepsCounts command old new P
    → KeepsCounts command old new Q
counts_as command old new through counts = record {
  fetch_of = counts.fetch_of;
  keep_of = counts.keep_of;
  no_failure = λ none. counts.no_failure (λ failed. none (through failed));
}

pub ready_promise : {P : Type 0} (outcome : Outcome) (command : Command) (old new : StoreState) (x y : Streams) (machine : Loaded)
    (bound : ℕ)
    → bound ≡ steps_of command
    → IsReady command old new machine → ComesTo outcome bound machine.program machine.core x y → FailsBy outcome x y
    → KeepsCounts command old new P → (P → ⊥) → RunPromise command outcome (outside old x) (outside new y)
ready_promise outcome command old new x y machine bound is_bound ready ran fails counts none =
    let runs = subst (λ n. ComesTo outcome n machine.program machine.core x y) is_bound ran in
    let of = of_machine outcome (steps_of command) machine.program machine.core x y runs in
    let on_image = subst (λ k. ComesTo outcome (steps_of command) (program_of ready.image) k x y) ready.opened.core
    (subst (λ p. ComesTo outcome (steps_of command) p machine.core x y) ready.opened.program runs) in
    record {
      comes = inl of;
      ran = λ _. (ready.image, ready.image_kept, on_image);
      not_run = λ other. absurd (never_both outcome of other);
      counts = counts_as command old new (λ p. absurd (none p)) counts;
      failed = fails;
      answers = λ source f told here still. ready_answers outcome command source old new x y f machine ready runs fails told here;
    }

pub not_ready_promise : {P : Type 0} (outcome : Outcome) (command : Command) (old new : StoreState) (x : Streams)
    → NotCompiled command outcome old new
    → KeepsCounts command old new P → (P → outcome ≡ outcomes.StoreFault) → RunPromise command outcome (outside old x) (outside new x)
not_ready_promise outcome command old new x left counts through =
    let of = of_compiling outcome command old new left in
    record {
      comes = inr of;
      ran = λ other. absurd (never_both outcome other of);
      not_run = λ _. left;
      counts = counts_as command old new through counts;
      failed = λ which is. absurd (no_fault outcome of which is);
      answers = λ source f told here still. not_compiled_answers outcome command source old new x x f left told here still;
    }
