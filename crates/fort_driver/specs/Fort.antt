-- What the top call promises, by the command and the outcome. This project's own.
use Rattle.std.specs.Prelude.{◌≡◌, ◌≢◌, ℕ, ◌≤◌, ◌<◌, List, length, Option, None, Some, Result, Ok, Err, ⊤, ◌⊎◌}
use Rattle.fc_base.specs.Outside.{Files, IfTold, Puts, KeepsOthers, Rose}
use Rattle.run_meaning.specs.Objects.{StoreState, Streams, Outside, Offers, Failed, NoneFailed}
use Rattle.run_meaning.specs.Runs.{Standing, Ended, Undefined, Going}
use Rattle.run_meaning.specs.Worlds.{Input}
use Rattle.run_meaning.specs.declared.streams.Stream.{Stream}
use Rattle.run_meaning.specs.declared.streams.Stream.TheVariants.{Input as OfInput, Out as OfOut, Err as OfErr}
use Rattle.fc_base.specs.declared.levels.End.{End}
use Rattle.fc_base.specs.declared.refusals.Refusal.{Refusal}
use Rattle.c_front.specs.Served.{Compiled, Compiles}
use Rattle.bm_image.specs.declared.faults.ImageFault.{ImageFault}
use Rattle.bm_image.specs.Images.{PlainImage}
use Rattle.bm_image.specs.Spelling.{SpellsImage}
use Rattle.bm_image.specs.Parts.{Judges, image_parts}
use Rattle.byte_machine.specs.Opening.{first_core, program_of, machine_runs}
use Rattle.byte_machine.specs.Machines.{Advances, FailsAfter}
use Rattle.byte_machine.specs.State.{Core, Program}
use Rattle.fort_words.specs.declared.Outcome.{Outcome}
use Rattle.fort_words.specs.declared.Outcome.TheVariants as outcomes
use Rattle.fort_words.specs.Commands.{Command, Build, Exec, Run, Sites, Mean, Gen, image_of, level_of, sizes_of, steps_of, args_of}
use Rattle.fort_words.specs.Commands.{fetched_of, longest_of}
use Rattle.fort_driver.specs.Agreeing.{Meaning, Agrees, Bracketed, source_runs, end_bound, weight_of}
use Rattle.fort_driver.specs.Forms.{meaning_of}

-- ---- the source of a command

-- what a source comes to for a command, and what one means to it that is compiled
abbrev pub CompilesFor : Command → List ℕ → Result Compiled Refusal → Type 0
CompilesFor command = Compiles (level_of command)

abbrev pub meaning_for : Command → Compiled → Meaning
meaning_for command = meaning_of (level_of command)

-- these bytes stand under the name, where the store tells them
abbrev pub Holds : Option Files → List ℕ → List ℕ → Type 0
Holds files name bytes = IfTold files (λ f. f name ≡ Some bytes)

-- these bytes were fetched: under FILE, or under IMAGE by `exec`
pub record IsFetched (command : Command) (old : StoreState) (source : List ℕ) : Type 0 where
  pub held : Holds old.files (fetched_of command) source
  pub short : length source ≤ longest_of command

-- they are compiled, from this, or refused so: by the first rule that they break, where they break it
abbrev pub IsCompiled : Command → StoreState → Compiled → Type 0
IsCompiled command old compiled = (source : List ℕ) × IsFetched command old source × CompilesFor command source (Ok compiled)

abbrev pub IsRefused : Command → StoreState → Refusal → Type 0
IsRefused command old refusal = (source : List ℕ) × IsFetched command old source × CompilesFor command source (Err refusal)

-- they spell this image
abbrev pub IsStored : Command → StoreState → PlainImage → Type 0
IsStored command old image = (bytes : List ℕ) × IsFetched command old bytes × SpellsImage bytes image

-- they spell none, and this is what is wrong with the first of their parts that is refused
pub record IsNoImage (command : Command) (old : StoreState) (fault : ImageFault) : Type 0 where
  pub bytes : List ℕ
  pub fetched : IsFetched command old bytes
  pub first : Judges bytes (image_parts bytes) (Some fault)
  pub none : (image : PlainImage) → SpellsImage bytes image → ⊥

-- they are too many
abbrev pub IsTooLong : Command → StoreState → Type 0
IsTooLong command old = (source : List ℕ) × Holds old.files (fetched_of command) source × (longest_of command < length source)

-- ---- what is kept, and what ran

-- the store is the old one with an image under IMAGE, spelled in bytes, which agrees with what the source means that was
-- fetched under FILE; and the sizes that this source asks bound the true ones
pub record KeepsImage (command : Command) (old new : StoreState) (image : PlainImage) : Type 0 where
  pub compiled : Compiled
  pub of_source : IsCompiled command old compiled
  pub bytes : List ℕ
  pub kept : Puts (image_of command) bytes old.files new.files
  pub spelled : SpellsImage bytes image
  pub agrees : Agrees image (meaning_for command compiled) (level_of command) (sizes_of command)
  pub bracketed : Bracketed (meaning_for command compiled)

-- some image was kept
abbrev pub KeepsSome : Command → StoreState → StoreState → Type 0
KeepsSome command old new = (image : PlainImage) × KeepsImage command old new image

-- a stream failed in the instruction after m, for some m below the bound
abbrev pub FailsWithin : Stream → (bound : ℕ) → Program → Core → Streams → Streams → Type 0
FailsWithin which bound program core old new = (m : ℕ) × (m < bound) × FailsAfter which m program core old new

-- what an outcome says of a machine that began so: it ended within the bound on instructions, or runs at the bound, or a
-- stream failed in an instruction that reaches it. No other outcome comes from a run
abbrev pub ComesTo : Outcome → (bound : ℕ) → Program → Core → Streams → Streams → Type 0
ComesTo (outcomes.Ran end) bound program core old new =
    (m : ℕ) × (core' : Core) × (m ≤ bound) × (core'.stopped ≡ Some end) × Advances m program core core' old new
ComesTo outcomes.OutOfSteps bound program core old new = (core' : Core) × (core'.stopped ≡ None) × Advances bound program core core' old new
ComesTo outcomes.InputFault bound program core old new = FailsWithin OfInput bound program core old new
ComesTo outcomes.OutFault bound program core old new = FailsWithin OfOut bound program core old new
ComesTo outcomes.ErrFault bound program core old new = FailsWithin OfErr bound program core old new
ComesTo _ bound program core old new = ⊥

-- what it says of the machine on this image, with the command's bound and arguments
abbrev pub Ran : Command → Outcome → PlainImage → Streams → Streams → Type 0
Ran command outcome image old new = ComesTo outcome (steps_of command) (program_of image) (first_core image (args_of command)) old new

-- ---- which outcomes come

-- the outcome at a fault of a stream
abbrev pub fault_outcome : Stream → Outcome
fault_outcome OfInput = outcomes.InputFault
fault_outcome OfOut = outcomes.OutFault
fault_outcome OfErr = outcomes.ErrFault

-- the outcomes of a machine that has begun
abbrev pub OfMachine : Outcome → Type 0
OfMachine (outcomes.Ran end) = ⊤
OfMachine outcomes.OutOfSteps = ⊤
OfMachine outcomes.InputFault = ⊤
OfMachine outcomes.OutFault = ⊤
OfMachine outcomes.ErrFault = ⊤
OfMachine _ = ⊥

-- the outcomes of a source that wasn't compiled, or not kept
abbrev pub OfCompiling : Outcome → Type 0
OfCompiling outcomes.StoreFault = ⊤
OfCompiling outcomes.TooLong = ⊤
OfCompiling (outcomes.Refused refusal) = ⊤
OfCompiling outcomes.NoMemory = ⊤
OfCompiling _ = ⊥

-- the outcomes of an image that wasn't opened
abbrev pub OfOpening : Outcome → Type 0
OfOpening outcomes.StoreFault = ⊤
OfOpening outcomes.TooLong = ⊤
OfOpening (outcomes.ImageRefused fault) = ⊤
OfOpening outcomes.NoMemory = ⊤
OfOpening _ = ⊥

-- the outcomes with which a command, or words that are none, touched no stream
abbrev pub HasNotRun : Option Command → Outcome → Type 0
HasNotRun None outcome = outcome ≡ outcomes.Usage
HasNotRun (Some (Exec options image args)) outcome = OfOpening outcome
HasNotRun (Some (Run options file image args)) outcome = OfCompiling outcome
HasNotRun (Some _) outcome = ⊥

-- ---- what the others leave

-- the store failed: by a fetch, which changes nothing but that count, or by a keep of IMAGE for a source that is
-- compiled, which changes that count, and after which the bytes under IMAGE alone are unknown
pub record FetchFailed (command : Command) (old new : StoreState) : Type 0 where
  pub files : new.files ≡ old.files
  pub fetch : Rose (old.fetch_faults (fetched_of command)) (new.fetch_faults (fetched_of command))
  pub keep : new.keep_faults (image_of command) ≡ old.keep_faults (image_of command)

pub record KeepFailed (command : Command) (old new : StoreState) : Type 0 where
  pub files : KeepsOthers (image_of command) old.files new.files
  pub keep : Rose (old.keep_faults (image_of command)) (new.keep_faults (image_of command))
  pub fetch : new.fetch_faults (fetched_of command) ≡ old.fetch_faults (fetched_of command)
  pub of_source : (compiled : Compiled) × IsCompiled command old compiled

abbrev pub StoreFailed : Command → StoreState → StoreState → Type 0
StoreFailed command old new = FetchFailed command old new ⊎ KeepFailed command old new

-- no count of the store but those of the fetch and of a keep of IMAGE changes, and where the store didn't fail none
pub record KeepsCounts (command : Command) (old new : StoreState) (store_failed : Type 0) : Type 0 where
  pub fetch_of : (name : List ℕ) → name ≢ fetched_of command → new.fetch_faults name ≡ old.fetch_faults name
  pub keep_of : (name : List ℕ) → name ≢ image_of command → new.keep_faults name ≡ old.keep_faults name
  pub no_failure : (store_failed → ⊥) → (name : List ℕ)
      → (new.fetch_faults name ≡ old.fetch_faults name) × (new.keep_faults name ≡ old.keep_faults name)

-- why a command kept no image, or ran none, and what is left then
abbrev pub NotCompiled : Command → Outcome → StoreState → StoreState → Type 0
NotCompiled command outcomes.StoreFault old new = StoreFailed command old new
NotCompiled command outcomes.TooLong old new = IsTooLong command old × (new.files ≡ old.files)
NotCompiled command (outcomes.Refused refusal) old new = IsRefused command old refusal × (new.files ≡ old.files)
NotCompiled command outcomes.NoMemory old new = (new.files ≡ old.files) ⊎ KeepsSome command old new
NotCompiled command _ old new = ⊥

-- no byte of the store changes, and no count of it but that of the fetch, which stays too where the store didn't fail
pub record OnlyFetches (command : Command) (old new : StoreState) (store_failed : Type 0) : Type 0 where
  pub files : new.files ≡ old.files
  pub fetch_of : (name : List ℕ) → name ≢ fetched_of command → new.fetch_faults name ≡ old.fetch_faults name
  pub no_failure : (store_failed → ⊥) → new.fetch_faults (fetched_of command) ≡ old.fetch_faults (fetched_of command)
  pub keep_of : (name : List ℕ) → new.keep_faults name ≡ old.keep_faults name

-- why an image wasn't opened
abbrev pub NotOpened : Command → Outcome → StoreState → StoreState → Type 0
NotOpened command outcomes.StoreFault old new = Rose (old.fetch_faults (fetched_of command)) (new.fetch_faults (fetched_of command))
NotOpened command outcomes.TooLong old new = IsTooLong command old
NotOpened command (outcomes.ImageRefused fault) old new = IsNoImage command old fault
NotOpened command outcomes.NoMemory old new = ⊤
NotOpened command _ old new = ⊥

-- ---- the one answer

-- a count that didn't rise
abbrev pub StoodStill : ℕ → ℕ → Type 0
StoodStill old new = Rose old new → ⊥

-- what is answered by the bytes that the command fetches, where the store tells them and doesn't fail to fetch them
abbrev pub WhereTold : Command → Outside → Outside → (List ℕ → Type 0) → Type 0
WhereTold command old new answers =
    (bytes : List ℕ) (files : Files) → old.store.files ≡ Some files → files (fetched_of command) ≡ Some bytes
    → StoodStill (old.store.fetch_faults (fetched_of command)) (new.store.fetch_faults (fetched_of command)) → answers bytes

-- the one answer, or want of memory
abbrev pub IsAnswer : Outcome → Outcome → Type 0
IsAnswer outcome answer = (outcome ≡ answer) ⊎ (outcome ≡ outcomes.NoMemory)

-- the outcomes of a run in which no object failed, or want of memory
abbrev pub OfQuietRun : Outcome → Type 0
OfQuietRun (outcomes.Ran end) = ⊤
OfQuietRun outcomes.OutOfSteps = ⊤
OfQuietRun outcomes.NoMemory = ⊤
OfQuietRun _ = ⊥

-- no object failed but in the fetch: the count of a keep of IMAGE and those of the streams stood still
pub record NoOtherFailed (command : Command) (old new : Outside) : Type 0 where
  pub keep : StoodStill (old.store.keep_faults (image_of command)) (new.store.keep_faults (image_of command))
  pub streams : NoneFailed old.streams new.streams

-- whatever the streams offer, the source ends so within n steps
abbrev pub EndsWithin : Command → Compiled → ℕ → End → Streams → Type 0
EndsWithin command compiled n end old =
    (input : Input) → Offers old input
    → (source_runs (meaning_for command compiled) (level_of command) (sizes_of command) (args_of command) input n).1
    ≡ Ended end

-- the answer of `run` by the bytes under FILE. Where nothing else fails either, a compiled source runs to an end or to the
-- bound on instructions, and to its end where the bound leaves room for that
pub record RunAnswers (command : Command) (outcome : Outcome) (old new : Outside) (source : List ℕ) : Type 0 where
  pub too_long : longest_of command < length source → IsAnswer outcome outcomes.TooLong
  pub refused : (refusal : Refusal) → length source ≤ longest_of command → CompilesFor command source (Err refusal)
      → IsAnswer outcome (outcomes.Refused refusal)
  pub accepted : (compiled : Compiled) → length source ≤ longest_of command → CompilesFor command source (Ok compiled)
      → NoOtherFailed command old new → OfQuietRun outcome
  pub ended : (compiled : Compiled) (n : ℕ) (end : End) → length source ≤ longest_of command → CompilesFor command source (Ok compiled)
      → NoOtherFailed command old new → EndsWithin command compiled n end old.streams
      → end_bound (weight_of (meaning_for command compiled)) n ≤ steps_of command → IsAnswer outcome (outcomes.Ran end)

-- whatever the streams offer, the machine on the image stands so after as many instructions as the command allows
abbrev pub StandsAtBound : Command → PlainImage → Standing → Streams → Type 0
StandsAtBound command image standing old =
    (input : Input) → Offers old input → (machine_runs image (args_of command) input (steps_of command)).1 ≡ standing

-- what a run comes to that stands so at its bound
abbrev pub outcome_at : Standing → Outcome
outcome_at (Ended end) = outcomes.Ran end
outcome_at (Undefined kind place) = outcomes.Undefined kind place
outcome_at Going = outcomes.OutOfSteps

-- the outcome is the refusal of an image, or want of memory
abbrev pub IsImageRefusal : Outcome → Type 0
IsImageRefusal outcome = (fault : ImageFault) × IsAnswer outcome (outcomes.ImageRefused fault)

-- the answer of `exec` by the bytes under IMAGE. Where no stream fails, an image runs to its end or to the bound on instructions
pub record ExecAnswers (command : Command) (outcome : Outcome) (old new : Outside) (bytes : List ℕ) : Type 0 where
  pub too_long : longest_of command < length bytes → IsAnswer outcome outcomes.TooLong
  pub refused : (fault : ImageFault) → length bytes ≤ longest_of command → Judges bytes (image_parts bytes) (Some fault)
      → IsAnswer outcome (outcomes.ImageRefused fault)
  pub none : length bytes ≤ longest_of command → ((image : PlainImage) → SpellsImage bytes image → ⊥) → IsImageRefusal outcome
  pub runs : (image : PlainImage) → length bytes ≤ longest_of command → SpellsImage bytes image
      → NoneFailed old.streams new.streams → OfQuietRun outcome
  pub stands : (image : PlainImage) (standing : Standing) → length bytes ≤ longest_of command → SpellsImage bytes image
      → NoneFailed old.streams new.streams → StandsAtBound command image standing old.streams → IsAnswer outcome (outcome_at standing)

-- ---- the promise

-- what `exec` promises: which outcomes come; what ran, which is the machine on the image that the bytes under IMAGE spell;
-- else why none did; that the store keeps its bytes; that a stream's fault comes only where its count rose; and, where the
-- store tells the bytes under IMAGE and doesn't fail to fetch them, the one answer
pub record ExecPromise (command : Command) (outcome : Outcome) (old new : Outside) : Type 0 where
  pub comes : OfMachine outcome ⊎ OfOpening outcome
  pub ran : OfMachine outcome → (image : PlainImage) × IsStored command old.store image × Ran command outcome image old.streams new.streams
  pub not_run : OfOpening outcome → NotOpened command outcome old.store new.store
  pub store : OnlyFetches command old.store new.store (outcome ≡ outcomes.StoreFault)
  pub failed : (which : Stream) → outcome ≡ fault_outcome which → Failed which old.streams new.streams
  pub answers : WhereTold command old new (ExecAnswers command outcome old new)

-- what `run` promises: which outcomes come; what was kept and what ran; else why not, and what is left; which counts
-- change; that a stream's fault comes only where its count rose; and, where the store tells the bytes under FILE and doesn't
-- fail to fetch them, the one answer
pub record RunPromise (command : Command) (outcome : Outcome) (old new : Outside) : Type 0 where
  pub comes : OfMachine outcome ⊎ OfCompiling outcome
  pub ran : OfMachine outcome
      → (image : PlainImage) × KeepsImage command old.store new.store image × Ran command outcome image old.streams new.streams
  pub not_run : OfCompiling outcome → NotCompiled command outcome old.store new.store
  pub counts : KeepsCounts command old.store new.store (outcome ≡ outcomes.StoreFault)
  pub failed : (which : Stream) → outcome ≡ fault_outcome which → Failed which old.streams new.streams
  pub answers : WhereTold command old new (RunAnswers command outcome old new)

-- what is promised of a command that is served, and of words that are none: the outcome is Usage, and nothing was touched.
-- The commands that aren't built are never served
abbrev pub Promise : Option Command → Outcome → Outside → Outside → Type 0
Promise None outcome old new = (outcome ≡ outcomes.Usage) × (new ≡ old)
Promise (Some (Build options file image)) outcome old new = ⊥
Promise (Some (Exec options image args)) outcome old new = ExecPromise (Exec options image args) outcome old new
Promise (Some (Run options file image args)) outcome old new = RunPromise (Run options file image args) outcome old new
Promise (Some (Sites file)) outcome old new = ⊥
Promise (Some (Mean options file args)) outcome old new = ⊥
Promise (Some (Gen run number)) outcome old new = ⊥
