-- The one answer of `exec`, by the bytes under IMAGE.
use Rattle.std.proofs.Common.{◌≡◌, ℕ, ◌≤◌, ◌<◌, List, length, Some, IsSomeAnd, refl, sym, ◌∙◌, ap, subst, inl, inr, arith}
use Rattle.fc_base.specs.Outside.{Files, IfTold, Rose}
use Rattle.fc_base.specs.declared.faults.FetchFault.{FetchFault}
use Rattle.fc_base.specs.declared.faults.FetchFault.TheVariants as fetch
use Rattle.run_meaning.specs.Objects.{StoreState, Streams, NoneFailed, outside}
use Rattle.run_meaning.specs.Runs.{Standing}
use Rattle.run_meaning.specs.declared.streams.Stream.{Stream}
use Rattle.run_meaning.specs.declared.streams.Stream.TheVariants.{Input as OfInput, Out as OfOut, Err as OfErr}
use Rattle.bm_image.specs.declared.faults.ImageFault.{ImageFault}
use Rattle.bm_image.specs.declared.faults.ImageKind.TheVariants as kinds
use Rattle.bm_image.specs.declared.faults.ReadFault.{ReadFault}
use Rattle.bm_image.specs.declared.faults.ReadFault.TheVariants as read
use Rattle.bm_image.specs.Images.{PlainImage}
use Rattle.bm_image.specs.Spelling.{SpellsImage}
use Rattle.bm_image.specs.Parts.{Part, Accepts, Refuses, short, wrong, Judges, refused, next, image_parts}
use Rattle.bm_image.proofs.Accepted.{one_image, none_spelled}
use Rattle.byte_machine.specs.State.{standing_of}
use Rattle.byte_machine.specs.Opening.{program_of, first_core, begun}
use Rattle.byte_machine.specs.Machines.{Loaded}
use Rattle.fort_words.specs.declared.Outcome.{Outcome}
use Rattle.fort_words.specs.declared.Outcome.TheVariants as outcomes
use Rattle.fort_words.specs.Commands.{Command, steps_of, args_of, fetched_of, longest_of}
use Rattle.fort_words.specs.Outcomes.{after_fetch, after_read}
use Rattle.fort_driver.specs.Fort.{IsFetched, ComesTo, OfMachine, OfOpening, NotOpened, OnlyFetches, StoodStill, StandsAtBound}
use Rattle.fort_driver.specs.Fort.{ExecAnswers, ExecPromise, outcome_at, fault_outcome}
use Rattle.fort_driver.specs.Preparing.{IsLoaded}
use Rattle.fort_driver.proofs.Agreement.{stays}
use Rattle.fort_driver.proofs.Answering.{same_source, of_machine, quiet, FailsBy}
use Rattle.fort_driver.proofs.Kept.{long_source}

-- ---- bytes that spell no image are refused in one way

not_both : {bytes : List ℕ} {part : Part} {fault : ImageFault} → Accepts bytes part → Refuses bytes part fault → ⊥
not_both accepts (short less) = let whole = accepts.whole in absurd (omega (arith, whole, less))
not_both accepts (wrong whole not_right) = not_right accepts.right

refused_once : {bytes : List ℕ} {part : Part} {a b : ImageFault} → Refuses bytes part a → Refuses bytes part b → a ≡ b
refused_once (short less) (short other) = refl
refused_once (short less) (wrong whole not_right) = absurd (omega (arith, whole, less))
refused_once (wrong whole not_right) (short less) = absurd (omega (arith, whole, less))
refused_once (wrong whole not_right) (wrong other none) = refl

judged_once : {bytes : List ℕ} {parts : List Part} {a b : ImageFault} → Judges bytes parts (Some a) → Judges bytes parts (Some b) → a ≡ b
judged_once (refused r) (refused s) = refused_once r s
judged_once (refused r) (next accepts judged) = absurd (not_both accepts r)
judged_once (next accepts judged) (refused r) = absurd (not_both accepts r)
judged_once (next accepts judged) (next other rest) = judged_once judged rest

-- ---- before a run

-- a fetch that gave no bytes, and bytes that gave no image
pub fetch_refused : (fault : FetchFault) (command : Command) (old new : StoreState)
    → (fault ≡ fetch.TooLong → IfTold old.files (λ f. IsSomeAnd (f (fetched_of command)) (λ bytes. longest_of command < length bytes)))
    → (fault ≡ fetch.Failed → Rose (old.fetch_faults (fetched_of command)) (new.fetch_faults (fetched_of command)))
    → NotOpened command (after_fetch fault) old new
fetch_refused fetch.Failed command old new long rose = rose refl
fetch_refused fetch.TooLong command old new long rose = long_source (longest_of command) old.files (fetched_of command) (long refl)
fetch_refused fetch.NoMemory command old new long rose = tt

pub read_refused : (fault : ReadFault) (command : Command) (old new : StoreState) (bytes read_bytes : List ℕ)
    → IsFetched command old bytes → read_bytes ≡ bytes
    → ((found : ImageFault) → fault ≡ read.Refused found → Judges read_bytes (image_parts read_bytes) (Some found))
    → ((found : ImageFault) → fault ≡ read.Refused found → (image : PlainImage) → SpellsImage read_bytes image → ⊥)
    → NotOpened command (after_read fault) old new
read_refused (read.Refused fault) command old new bytes read_bytes fetched same first none = record {
  bytes = bytes;
  fetched = fetched;
  first = subst (λ b. Judges b (image_parts b) (Some fault)) same (first fault refl);
  none = subst (λ b. (image : PlainImage) → SpellsImage b image → ⊥) same (none fault refl);
}
read_refused read.NoMemory command old new bytes read_bytes fetched same first none = tt

-- some fault
any_fault : ImageFault
any_fault = record { kind = kinds.Short; offset = 0 }

not_opened_answers : (outcome : Outcome) (command : Command) (bytes : List ℕ) (old new : StoreState) (x y : Streams) (f : Files)
    → NotOpened command outcome old new → old.files ≡ Some f → f (fetched_of command) ≡ Some bytes
    → StoodStill (old.fetch_faults (fetched_of command)) (new.fetch_faults (fetched_of command))
    → ExecAnswers command outcome (outside old x) (outside new y) bytes
not_opened_answers outcomes.StoreFault command bytes old new x y f failed told here still = absurd (still failed)
not_opened_answers outcomes.TooLong command bytes old new x y f long told here still =
    let same = same_source old.files f (fetched_of command) bytes long.0 told here long.1 in
    let over : longest_of command < length bytes = subst (λ b. longest_of command < length b) same long.2 in
    record {
      too_long = λ _. inl refl;
      refused = λ fault short _. absurd (omega arith);
      none = λ short _. absurd (omega arith);
      runs = λ image short _ _. absurd (omega arith);
      stands = λ image standing short _ _ _. absurd (omega arith);
    }
not_opened_answers (outcomes.ImageRefused fault) command bytes old new x y f left told here still =
    let same = same_source old.files f (fetched_of command) bytes left.bytes told here left.fetched.held in
    let short : length bytes ≤ longest_of command = subst (λ b. length b ≤ longest_of command) same left.fetched.short in
    let first = subst (λ b. Judges b (image_parts b) (Some fault)) same left.first in
    let none = subst (λ b. (image : PlainImage) → SpellsImage b image → ⊥) same left.none in
    record {
      too_long = λ long. absurd (omega arith);
      refused = λ other _ judged. inl (ap outcomes.ImageRefused (judged_once first judged));
      none = λ _ _. (fault, inl refl);
      runs = λ image _ spelled _. absurd (none image spelled);
      stands = λ image standing _ spelled _ _. absurd (none image spelled);
    }
not_opened_answers outcomes.NoMemory command bytes old new x y f left told here still = record {
  too_long = λ _. inr refl;
  refused = λ _ _ _. inr refl;
  none = λ _ _. (any_fault, inr refl);
  runs = λ _ _ _ _. tt;
  stands = λ _ _ _ _ _ _. inr refl;
}
not_opened_answers _ command bytes old new x y f left told here still = absurd left

-- ---- of a run

-- a run in which no stream failed comes to what its machine stands as at the bound
comes_to_standing : (outcome : Outcome) (command : Command) (image : PlainImage) (standing : Standing) (x y : Streams)
    → ComesTo outcome (steps_of command) (program_of image) (first_core image (args_of command)) x y → FailsBy outcome x y → NoneFailed x y
    → StandsAtBound command image standing x → outcome ≡ outcome_at standing
comes_to_standing (outcomes.Ran end) command image standing x y runs fails none is =
    let advances = runs.4 in
    let begin = begun (first_core image (args_of command)) advances.input in
    let stopped = ap (λ k. k.stopped) advances.state ∙ runs.3 in
    let at_bound = ap (λ s. s.core.stopped) (stays (program_of image) runs.0 (steps_of command) begin stopped runs.2) ∙ stopped in
    ap outcome_at (sym (ap standing_of at_bound) ∙ is advances.input advances.offered)
comes_to_standing outcomes.OutOfSteps command image standing x y runs fails none is =
    let advances = runs.2 in
    let running = ap (λ k. k.stopped) advances.state ∙ runs.1 in
    ap outcome_at (sym (ap standing_of running) ∙ is advances.input advances.offered)
comes_to_standing outcomes.InputFault command image standing x y runs fails none is = absurd (quiet outcomes.InputFault x y tt fails none)
comes_to_standing outcomes.OutFault command image standing x y runs fails none is = absurd (quiet outcomes.OutFault x y tt fails none)
comes_to_standing outcomes.ErrFault command image standing x y runs fails none is = absurd (quiet outcomes.ErrFault x y tt fails none)
comes_to_standing _ command image standing x y runs fails none is = absurd runs

loaded_answers : (outcome : Outcome) (command : Command) (bytes : List ℕ) (old new : StoreState) (x y : Streams) (f : Files)
    (machine : Loaded)
    → (loaded : IsLoaded command old machine)
    → ComesTo outcome (steps_of command) (program_of loaded.image) (first_core loaded.image (args_of command)) x y → FailsBy outcome x y
    → old.files ≡ Some f → f (fetched_of command) ≡ Some bytes → ExecAnswers command outcome (outside old x) (outside new y) bytes
loaded_answers outcome command bytes old new x y f machine loaded runs fails told here =
    let image = loaded.image in
    let stored = loaded.stored in
    let same = same_source old.files f (fetched_of command) bytes stored.0 told here stored.1.held in
    let short : length bytes ≤ longest_of command = subst (λ b. length b ≤ longest_of command) same stored.1.short in
    let spelled = subst (λ b. SpellsImage b image) same stored.2 in
    record {
      too_long = λ long. absurd (omega arith);
      refused = λ fault _ judged. absurd (none_spelled bytes fault judged image spelled);
      none = λ _ none. absurd (none image spelled);
      runs =
          λ _ _ _ all. quiet outcome x y
          (of_machine outcome (steps_of command) (program_of image) (first_core image (args_of command)) x y runs) fails all;
      stands = λ other standing _ spells all is.
          let one = one_image bytes other image spells spelled in
          inl
          (comes_to_standing outcome command image standing x y runs fails all
          (subst (λ i. StandsAtBound command i standing x) one is));
    }

-- ---- the promise

-- neither kind of outcome is one of the other kind
pub never_opening : (outcome : Outcome) → OfMachine outcome → OfOpening outcome → ⊥
never_opening (outcomes.Ran end) of other = other
never_opening outcomes.OutOfSteps of other = other
never_opening outcomes.InputFault of other = other
never_opening outcomes.OutFault of other = other
never_opening outcomes.ErrFault of other = other
never_opening _ of other = of

of_opening : (outcome : Outcome) (command : Command) (old new : StoreState) → NotOpened command outcome old new → OfOpening outcome
of_opening outcomes.StoreFault command old new left = tt
of_opening outcomes.TooLong command old new left = tt
of_opening (outcomes.ImageRefused fault) command old new left = tt
of_opening outcomes.NoMemory command old new left = tt
of_opening _ command old new left = absurd left

no_fault : (outcome : Outcome) → OfOpening outcome → (which : Stream) → outcome ≡ fault_outcome which → ⊥
no_fault outcome of OfInput is = subst OfOpening is of
no_fault outcome of OfOut is = subst OfOpening is of
no_fault outcome of OfErr is = subst OfOpening is of

fetches_as : {P Q : Type 0} (command : Command) (old new : StoreState) → (P → Q) → OnlyFetches command old new P
    → OnlyFetches command old new Q
fetches_as command old new through only = record {
  files = only.files;
  fetch_of = only.fetch_of;
  no_failure = λ none. only.no_failure (λ failed. none (through failed));
  keep_of = only.keep_of;
}

pub loaded_promise : {P : Type 0} (outcome : Outcome) (command : Command) (old new : StoreState) (x y : Streams) (machine : Loaded)
    (bound : ℕ)
    → bound ≡ steps_of command → IsLoaded command old machine → ComesTo outcome bound machine.program machine.core x y → FailsBy outcome x y
    → OnlyFetches command old new P → (P → ⊥) → ExecPromise command outcome (outside old x) (outside new y)
loaded_promise outcome command old new x y machine bound is_bound loaded ran fails only none =
    let runs = subst (λ n. ComesTo outcome n machine.program machine.core x y) is_bound ran in
    let on_image = subst (λ k. ComesTo outcome (steps_of command) (program_of loaded.image) k x y) loaded.opened.core
    (subst (λ p. ComesTo outcome (steps_of command) p machine.core x y) loaded.opened.program runs) in
    let of = of_machine outcome (steps_of command) machine.program machine.core x y runs in
    record {
      comes = inl of;
      ran = λ _. (loaded.image, loaded.stored, on_image);
      not_run = λ other. absurd (never_opening outcome of other);
      store = fetches_as command old new (λ p. absurd (none p)) only;
      failed = fails;
      answers = λ bytes f told here still. loaded_answers outcome command bytes old new x y f machine loaded on_image fails told here;
    }

pub not_loaded_promise : {P : Type 0} (outcome : Outcome) (command : Command) (old new : StoreState) (x : Streams)
    → NotOpened command outcome old new
    → OnlyFetches command old new P → (P → outcome ≡ outcomes.StoreFault) → ExecPromise command outcome (outside old x) (outside new x)
not_loaded_promise outcome command old new x left only through =
    let of = of_opening outcome command old new left in
    record {
      comes = inr of;
      ran = λ other. absurd (never_opening outcome other of);
      not_run = λ _. left;
      store = fetches_as command old new through only;
      failed = λ which is. absurd (no_fault outcome of which is);
      answers = λ bytes f told here still. not_opened_answers outcome command bytes old new x x f left told here still;
    }
