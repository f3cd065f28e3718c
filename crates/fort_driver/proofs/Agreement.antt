-- The image of a form is an image, and does what the form means.
use Rattle.std.proofs.Common.{◌≡◌, ℕ, zero, suc, ◌+◌, ◌%◌, ◌<◌, ◌≤◌, ◌^◌, List, [], ◌∷◌, length, Bool, true, false, ◌||◌, nat_lt, max}
use Rattle.std.proofs.Common.{cond, Option, None, Some, IsTrue, inl, inr, refl, sym, ◌∙◌, ap, subst, arith, replicate, lit≤, lit<}
use Rattle.std.proofs.Common.{zero-add, ◌-◌, Ok, Err, if◌then◌else◌}
use Rattle.std.specs.List.{list_all}
use Rattle.std.proofs.lemmas.List.{length-replicate}
use Rattle.std.proofs.lemmas.Bool.{lt-ltb, le-ltb, le-leb, ltb-false, cases_lt, and_from, and_parts, or_right}
use Rattle.bm_isa.specs.declared.instructions.Instr.{Instr}
use Rattle.bm_isa.specs.declared.instructions.Instr.TheVariants as instr
use Rattle.run_meaning.specs.Runs.{Shown, Standing, Ended, Going, Undefined}
use Rattle.run_meaning.specs.Events.{source_shown, Asked, Check}
use Rattle.fc_base.specs.declared.levels.End.{End}
use Rattle.fc_base.specs.declared.levels.End.TheVariants as ends
use Rattle.fc_base.specs.declared.levels.Level.TheVariants as levels
use Rattle.fc_base.specs.declared.levels.Mode.TheVariants as modes
use Rattle.bm_image.specs.Images.{IsImage, IsFunction, function_at, end_of, bounds_of, fits, ends_function, memset_chk, instruction_or}
use Rattle.bm_heap.specs.Heaps.{whole_heap}
use Rattle.byte_machine.specs.State.{Core, State, Program, stack_start, stack_frames, ending, overflowing, answered, next, after}
use Rattle.byte_machine.specs.State.{standing_of}
use Rattle.library_meaning.specs.Memory.{memory_size, are_valid, put}
use Rattle.library_meaning.specs.Rows.{Behind, answer}
use Rattle.library_meaning.specs.OnBytes.{valid_then}
use Rattle.library_meaning.specs.Scan.{and_then}
use Rattle.library_meaning.specs.declared.stops.HostStop.TheVariants as host
use Rattle.byte_machine.specs.Opening.{begun, first_core, first_end, first_memory, program_of, rounded}
use Rattle.byte_machine.proofs.Steps.{next_is}
use Rattle.fort_forms.specs.declared.Form.{Form}
use Rattle.fort_forms.specs.Forms.{IsForm}
use Rattle.run_meaning.specs.Worlds.{Input}
use Rattle.byte_machine.proofs.Runs.{stopped_stays_lem}
use Rattle.fort_driver.specs.Agreeing.{Agrees, Bracketed, Shaped, SourceFunction, written_frame}
use Rattle.fort_driver.specs.Forms.{form_events, form_end, form_meaning, form_weight}
use Rattle.fort_driver.specs.Compiled.{form_code, form_function, form_image}

-- a test of each instruction holds at each place
tested_at : (p : Instr → Bool) (code : List Instr) → list_all p code ≡ true → (i : ℕ) (d : Instr) → i < length code
    → p (instruction_or d code i) ≡ true
tested_at p [] all i d below = absurd (omega arith)
tested_at p (x ∷ code) all zero d below = (and_parts _ _ all).0
tested_at p (x ∷ code) all (suc i) d below = tested_at p code (and_parts _ _ all).1 i d (omega arith)

-- the frame's size
rounded_aligned : (n : ℕ) → rounded n % 16 ≡ 0
rounded_aligned n = omega arith

rounded_most : (n : ℕ) → n ≤ 4097 → rounded n ≤ 4112
rounded_most n most = omega arith

-- the machine at an instruction of the form's code
abbrev standing : List ℕ → (at : ℕ) → (registers slots : List ℕ) → Core
standing memory at registers slots = record {
  memory = memory;
  running = record { function = 0; at = at; base = stack_start; registers = registers };
  callers = [];
  slots = slots;
  heap = whole_heap;
  stopped = None;
}

-- the form's program, and the machine at its first instruction
abbrev pub form_program : Form → Program
form_program form = program_of (form_image form)

abbrev fresh : List ℕ → List ℕ → Core
fresh memory slots = standing memory 0 (0 ∷ 0 ∷ 0 ∷ 0 ∷ []) (0 ∷ 0 ∷ 0 ∷ 0 ∷ slots)

-- the call's arguments: the array's place, the byte, the count and the array's size
abbrev given : Form → List ℕ → List ℕ
given form rest = stack_start ∷ form.byte ∷ form.count ∷ form.size ∷ rest

-- memory with the array's bytes set
abbrev array_set : Form → List ℕ → List ℕ
array_set form memory = put stack_start (replicate form.count (form.byte % 256)) memory

-- eight instructions give the call its arguments
before_call : (form : Form) (memory slots : List ℕ) (input : Input)
    → after (form_program form) 8 (begun (fresh memory slots) input) ≡ begun (standing memory 8 (given form []) (given form slots)) input
unfolding after next
before_call form memory slots input = refl

-- the operands of the call's row, and what the row comes to by its two tests
abbrev operands : Form → List ℕ
operands form = stack_start ∷ form.byte ∷ form.count ∷ []

abbrev stored : Form → State → Bool → Bool → State
stored form s exceeds valid = answered 0 (operands form)
    (if exceeds then Err host.Overflow
    else and_then (valid_then valid (array_set form s.core.memory)) (λ memory. Ok (answer memory s.world (Behind 0 0)))) s

stored_by : (form : Form) (memory slots : List ℕ) (input : Input) (exceeds valid : Bool)
    → stored form (begun (standing memory 8 (given form []) (given form slots)) input) exceeds valid
    ≡ cond exceeds (overflowing (begun (standing memory 8 (given form []) (given form slots)) input))
    (cond valid (begun (standing (array_set form memory) 9 (given form []) (given form slots)) input)
    (begun (ending ends.BadAddress (standing memory 8 (given form []) (given form slots))) input))
stored_by form memory slots input true valid = refl
stored_by form memory slots input false true = refl
stored_by form memory slots input false false = refl

-- the call, by its two tests
at_call : (form : Form) (memory slots : List ℕ) (input : Input) (exceeds valid : Bool) → nat_lt form.size form.count ≡ exceeds
    → are_valid stack_start form.count ≡ valid
    → after (form_program form) 9 (begun (fresh memory slots) input)
    ≡ cond exceeds (overflowing (begun (standing memory 8 (given form []) (given form slots)) input))
    (cond valid (begun (standing (array_set form memory) 9 (given form []) (given form slots)) input)
    (begun (ending ends.BadAddress (standing memory 8 (given form []) (given form slots))) input))
unfolding after
at_call form memory slots input exceeds valid first second =
    let s = begun (standing memory 8 (given form []) (given form slots)) input in
    ap (next (form_program form)) (before_call form memory slots input)
    ∙ next_is (form_program form) s (instr.Host 0 memset_chk 4) refl refl
    ∙ ap (λ n. stored form s (nat_lt form.size form.count) (are_valid stack_start n)) (length-replicate form.count (form.byte % 256))
    ∙ ap (λ t. stored form s t (are_valid stack_start form.count)) first
    ∙ ap (λ t. stored form s exceeds t) second
    ∙ stored_by form memory slots input exceeds valid

-- two more return the result
returns : (form : Form) (memory slots : List ℕ) (input : Input)
    → next (form_program form) (next (form_program form) (begun (standing memory 9 (given form []) slots) input))
    ≡ begun
    (ending (ends.Exit (form.result % 256)) (standing memory 10 (form.result ∷ form.byte ∷ form.count ∷ form.size ∷ []) slots)) input
unfolding next
returns form memory slots input = refl

-- the array's bytes may be touched
may_be_set : (count : ℕ) → count ≤ 4096 → are_valid stack_start count ≡ true
may_be_set count few =
    let room : stack_start + count ≤ memory_size = omega arith in or_right _ _ (le-leb (stack_start + count) memory_size room)

-- the stack has room for main, so the run begins
let_in : (form : Form) → IsForm form → first_end (form_function form) ≡ None
let_in form ok =
    let most = rounded_most (form.size + 1) (omega arith) in
    ap (λ t. cond (t || false) (Some ends.StackFull) None) (le-ltb stack_frames (rounded (form.size + 1)) (omega arith))

opened : (form : Form) (args : List (List ℕ)) → IsForm form
    → first_core (form_image form) args ≡ fresh (first_memory (form_image form) args) (replicate 60 0)
opened form args ok = ap (λ o. record (fresh (first_memory (form_image form) args) (replicate 60 0)) { stopped = o }) (let_in form ok)

-- what a state shows, and how it stands
abbrev stands : State → Shown × Standing
stands s = (s.world.shown, standing_of s.core.stopped)

-- what the form shows at level 3 without size lines, and how it stands
abbrev pub form_shows : Form → Shown × Standing
form_shows form = source_shown levels.Three false (form_events form) (form_end form)

-- what a form shows, by whether the call exceeds
abbrev by_test : Form → Bool → Shown × Standing
by_test form exceeds =
    source_shown levels.Three false
    (Asked form.call modes.M0 form.size (Some form.size) true false ∷ Check form.call form.size exceeds ∷ [])
    (Ended (ends.Exit form.result))

-- within eleven instructions from this state on the machine has shown what the form shows, and stands so
abbrev pub MeetsFrom : Form → State → Type 0
MeetsFrom form s = (m : ℕ) × (m ≤ 11) × (stands (after (form_program form) m s) ≡ form_shows form)

fresh_meets : (form : Form) → IsForm form → (memory slots : List ℕ) (input : Input) → MeetsFrom form (begun (fresh memory slots) input)
unfolding after
fresh_meets form ok memory slots input = go (nat_lt form.size form.count) refl where
  go : (t : Bool) → nat_lt form.size form.count ≡ t → MeetsFrom form (begun (fresh memory slots) input)
  go true test = (
    9,
    lit≤ tt,
    ap stands (at_call form memory slots input true (are_valid stack_start form.count) test refl)
        ∙ ap (by_test form) (sym test),
  )
  go false test =
      let within : form.count ≤ form.size = ltb-false _ _ test in
      let low : form.result % 256 ≡ form.result = omega arith in
      let set = at_call form memory slots input false true test (may_be_set form.count (omega arith)) in (
        11,
        lit≤ tt,
        ap (λ s. stands (next (form_program form) (next (form_program form) s))) set
            ∙ (ap stands (returns form (array_set form memory) (given form slots) input)
            ∙ (ap (λ r. ([], Ended (ends.Exit r))) low ∙ ap (by_test form) (sym test))),
      )

-- the machine of the form's image as it is opened, and its run
abbrev pub form_begun : Form → List (List ℕ) → Input → State
form_begun form args input = begun (first_core (form_image form) args) input

pub meets : (form : Form) → IsForm form → (args : List (List ℕ)) (input : Input) → MeetsFrom form (form_begun form args input)
meets form ok args input =
    subst (λ core. MeetsFrom form (begun core input)) (sym (opened form args ok))
    (fresh_meets form ok (first_memory (form_image form) args) (replicate 60 0) input)

-- a form ends
form_ends : (form : Form) → (end : End) × ((form_shows form).1 ≡ Ended end)
form_ends form = go (nat_lt form.size form.count) where
  go : (t : Bool) → (end : End) × ((by_test form t).1 ≡ Ended end)
  go true = (ends.Overflow, refl)
  go false = (ends.Exit form.result, refl)

-- its frame passes no bound
frame_as_counted : (form : Form) → IsForm form → written_frame (rounded (form.size + 1)) ≡ rounded (form.size + 1)
frame_as_counted form ok =
    let most = rounded_most (form.size + 1) (omega arith) in
    ap (λ t. cond t 4194320 (rounded (form.size + 1))) (le-ltb 4194304 (rounded (form.size + 1)) (omega arith))

abbrev as_function : ℕ → SourceFunction
as_function frame = record { weight = form_weight; frame = frame }

shaped : (form : Form) → IsForm form → Shaped (form_image form) (form_meaning form)
shaped form ok = record {
  records = ap (λ frame. as_function frame ∷ []) (sym (frame_as_counted form ok));
  entry = refl;
  small = λ k below. let e : 0 ≡ k = omega arith in
      subst
      (λ k. end_of
      (form_function form ∷ []) 11
      k ≤ (function_at (form_function form ∷ []) k).first + (function_at (form_function form ∷ []) k).weight)
      e
      (lit≤ tt);
}

-- the image does what the form means
pub agrees : (form : Form) → IsForm form → Agrees (form_image form) (form_meaning form) levels.Three false
agrees form ok = record {
  shaped = shaped form ok;
  follows = λ args input given.
      let run = meets form ok args input in
      let at_end = (form_ends form).1 in
      record {
        ends = λ n list end is. (run.0, (let most = run.1 in omega arith), run.2 ∙ is);
        goes_on = λ n list is. let other : (form_shows form).1 ≡ Going = ap (λ r. r.1) is in absurd (cc);
        until = λ n list kind place is. let other : (form_shows form).1 ≡ Undefined kind place = ap (λ r. r.1) is in absurd (cc);
      };
}

-- the one size that it asks is the true one
pub bracketed : (form : Form) → Bracketed (form_meaning form)
bracketed form args input n _ = ((omega arith, λ known. refl), (tt, tt))

-- one function, of eleven instructions
pub image_ok : (form : Form) → IsForm form → IsImage (form_image form)
image_ok form ok = record {
  some_function = lit≤ tt;
  functions = lit≤ tt;
  some_code = lit≤ tt;
  size = lit≤ tt;
  bytes = lit≤ tt;
  are_bytes = λ k d below. absurd (omega arith);
  entry = lit< tt;
  entry_params = inl refl;
  code = record {
    starts = refl;
    rises = λ k below. absurd (omega arith);
    inside = λ k below. at_first k below (λ k. (function_at (form_function form ∷ []) k).first < 11) (lit< tt);
    bounds = λ k below. at_first k below (λ k. IsFunction (function_at (form_function form ∷ []) k)) bounded;
    fit = λ k i d below behind before.
        at_first k below
        (λ k. i < end_of (form_function form ∷ []) 11 k
        → IsTrue (fits (bounds_of (form_function form ∷ []) 11 k) (instruction_or d (form_code form) i)))
        (tested_at (fits (bounds_of (form_function form ∷ []) 11 0)) (form_code form) all_fit i d) before;
    last = λ k i d below behind at_end.
        at_first k below (λ k. i + 1 ≡ end_of (form_function form ∷ []) 11 k → IsTrue (ends_function (instruction_or d (form_code form) i)))
        (λ end. let here : 10 ≡ i = omega arith in subst (λ i. IsTrue (ends_function (instruction_or d (form_code form) i))) here refl)
        at_end;
  };
} where
  at_first : (k : ℕ) → k < 1 → (P : ℕ → Type 0) → P 0 → P k
  at_first k below P first = let e : 0 ≡ k = omega arith in subst P e first

  bounded : IsFunction (form_function form)
  bounded = record {
    params = lit≤ tt;
    given = lit≤ tt;
    some_register = lit≤ tt;
    regs = lit≤ tt;
    weight = lit≤ tt;
    frame = let most = rounded_most (form.size + 1) (omega arith) in omega arith;
    aligned = rounded_aligned (form.size + 1);
  }

  all_fit : list_all (fits (bounds_of (form_function form ∷ []) 11 0)) (form_code form) ≡ true
  all_fit =
      let frame : nat_lt 0 (max (rounded (form.size + 1)) 1) ≡ true = lt-ltb 0 (max (rounded (form.size + 1)) 1) (omega arith) in
      let byte : nat_lt form.byte (2 ^ 64) ≡ true = lt-ltb form.byte (2 ^ 64) (omega arith) in
      let count : nat_lt form.count (2 ^ 64) ≡ true = lt-ltb form.count (2 ^ 64) (omega arith) in
      let size : nat_lt form.size (2 ^ 64) ≡ true = lt-ltb form.size (2 ^ 64) (omega arith) in
      let result : nat_lt form.result (2 ^ 64) ≡ true = lt-ltb form.result (2 ^ 64) (omega arith) in
      and_from _ _ frame (and_from _ _ byte (and_from _ _ count (and_from _ _ size (and_from _ _ result refl))))

-- a machine that has ended stays as it is
next_stays : (p : Program) (s : State) (end : End) → s.core.stopped ≡ Some end → next p s ≡ s
unfolding after
next_stays p s end stopped = stopped_stays_lem p s end stopped 1

stays_for : (p : Program) (m n : ℕ) (s : State) (end : End) → (after p m s).core.stopped ≡ Some end → after p (n + m) s ≡ after p m s
unfolding after
stays_for p m zero s end stopped = rw zero-add refl
stays_for p m (suc n) s end stopped =
    let e : suc n + m ≡ suc (n + m) = omega arith in
    ap (λ k. after p k s) e ∙ (ap (next p) (stays_for p m n s end stopped) ∙ next_stays p (after p m s) end stopped)

-- so it stands at each later bound as where it ended
pub stays : (p : Program) (m k : ℕ) (s : State) {end : End} → (after p m s).core.stopped ≡ Some end → m ≤ k → after p k s ≡ after p m s
stays p m k s {end} stopped more =
    let e : k ≡ (k - m) + m = omega arith in
    ap (λ j. after p j s) e ∙ stays_for p m (k - m) s end stopped

-- how a machine stands that has ended
stopped_of : (o : Option End) (end : End) → standing_of o ≡ Ended end → o ≡ Some end
stopped_of None end is = absurd (cc)
stopped_of (Some e) end is = cc

-- where the form ends so, its machine has ended so within eleven instructions, and has shown then what the form shows
pub ends_within : (form : Form) → IsForm form → (args : List (List ℕ)) (input : Input) (end : End) → (form_shows form).1 ≡ Ended end
    → (m : ℕ) × (m ≤ 11) × ((after (form_program form) m (form_begun form args input)).core.stopped ≡ Some end)
    × ((after (form_program form) m (form_begun form args input)).world.shown ≡ (form_shows form).0)
ends_within form ok args input end is =
    let run = meets form ok args input in
    (run.0, run.1, stopped_of _ end (ap (λ r. r.1) run.2 ∙ is), ap (λ r. r.0) run.2)

-- so it has at each bound from eleven on
pub ended_by : (form : Form) → IsForm form → (args : List (List ℕ)) (input : Input) (end : End) → (form_shows form).1 ≡ Ended end
    → (k : ℕ) → 11 ≤ k
    → (after (form_program form) k (form_begun form args input)).core.stopped ≡ Some end
ended_by form ok args input end is k enough =
    let run = ends_within form ok args input end is in
    let most = run.1 in
    ap (λ s. s.core.stopped) (stays (form_program form) run.0 k (form_begun form args input) run.2 (omega arith)) ∙ run.2

-- wherever its machine has ended, the form ends so, and the machine has shown what the form shows
pub shown_then : (form : Form) → IsForm form → (args : List (List ℕ)) (input : Input) (m : ℕ) (end : End)
    → (after (form_program form) m (form_begun form args input)).core.stopped ≡ Some end
    → ((form_shows form).1 ≡ Ended end) × ((after (form_program form) m (form_begun form args input)).world.shown ≡ (form_shows form).0)
shown_then form ok args input m end stopped =
    let p = form_program form in
    let s = form_begun form args input in
    let at_end = form_ends form in
    let run = ends_within form ok args input at_end.0 at_end.1 in
    let same : after p m s ≡ after p run.0 s = elim (cases_lt m run.0) [
      | inl before ↦ sym (stays p m run.0 s stopped (omega arith))
      | inr behind ↦ stays p run.0 m s run.2 behind
    ] in
    let one : Some at_end.0 ≡ Some end = sym run.2 ∙ (ap (λ x. x.core.stopped) (sym same) ∙ stopped) in
    (at_end.1 ∙ ap standing_of one, ap (λ x. x.world.shown) same ∙ run.3)
