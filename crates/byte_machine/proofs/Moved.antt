-- A call that moves bytes in memory, by its row.
use Rattle.std.proofs.Common.{◌≡◌, ℕ, slice_index, suc, zero, ◌+◌, ◌≤◌, Bool, true, false, List, ◌∷◌, length, take, drop, Option, None, Some, Result, Ok, Err, refl, sym, ◌∙◌, ap, subst, arith}
use Rattle.std.proofs.lemmas.List.{drop_more}
use Rattle.std.proofs.lemmas.Option.{same_Some}
use Rattle.run_meaning.specs.Worlds.{World, Input}
use Rattle.c_library.specs.declared.functions.LibFn.{LibFn}
use Rattle.c_library.specs.declared.functions.LibFn.TheVariants as calls
use Rattle.c_library.specs.Library.{row_of}
use Rattle.bm_isa.specs.declared.instructions.Instr.TheVariants as instr
use Rattle.library_meaning.specs.Scan.{Found}
use Rattle.library_meaning.specs.Rows.{Row, Gives, Check, Nowhere, Answer, run}
use Rattle.library_meaning.specs.Table.{ended}
use Rattle.library_meaning.specs.OnBytes.{on_bytes, number_of, quiet, Does}
use Rattle.library_meaning.specs.declared.stops.HostStop.{HostStop}
use Rattle.byte_machine.specs.State.{Core, State, arguments, size_of, giving, with_core, answered, by_row, host_call, perform}
use Rattle.byte_machine.specs.Opening.{begun}
use Rattle.byte_machine.specs.Machines.{Loaded}
use Rattle.byte_machine.specs.Performing.{StandsAtCall, slots_from, operands, memory_row, Did, HasStored, ActsBy, IsGoing, StandsAt, after_call, is_plain, acts, uses_streams}
use Rattle.byte_machine.proofs.Steps.{call_is}
use Rattle.byte_machine.proofs.Worlds.{May, carried_to, run_carried, respects_any}

-- the first slots one by one
slots_taken : (n at : ℕ) (slots : List ℕ) → at + n ≤ length slots → take n (drop at slots) ≡ slots_from at n slots
slots_taken zero at slots long = refl
slots_taken (suc n) at slots long =
    ap (take (suc n)) (drop_more slots at 0 (omega (arith, long)))
    ∙ ap (λ rest. slice_index slots at ∷ rest) (slots_taken n (at + 1) slots (omega (arith, long)))

-- a function has few parameters
pub few_parameters : (f : LibFn) → length (row_of f).parameters ≤ 4
few_parameters calls.Exit = omega arith
few_parameters calls.Abort = omega arith
few_parameters calls.Malloc = omega arith
few_parameters calls.Calloc = omega arith
few_parameters calls.Realloc = omega arith
few_parameters calls.Free = omega arith
few_parameters calls.Memcpy = omega arith
few_parameters calls.Memmove = omega arith
few_parameters calls.Mempcpy = omega arith
few_parameters calls.Memset = omega arith
few_parameters calls.Bzero = omega arith
few_parameters calls.ExplicitBzero = omega arith
few_parameters calls.Memcmp = omega arith
few_parameters calls.Strcpy = omega arith
few_parameters calls.Stpcpy = omega arith
few_parameters calls.Strncpy = omega arith
few_parameters calls.Strcat = omega arith
few_parameters calls.Strncat = omega arith
few_parameters calls.Strlen = omega arith
few_parameters calls.Strcmp = omega arith
few_parameters calls.Strchr = omega arith
few_parameters calls.Printf = omega arith
few_parameters calls.Puts = omega arith
few_parameters calls.Putchar = omega arith
few_parameters calls.Dprintf = omega arith
few_parameters calls.Sprintf = omega arith
few_parameters calls.Snprintf = omega arith
few_parameters calls.Read = omega arith
few_parameters calls.Write = omega arith
few_parameters calls.Getchar = omega arith
few_parameters calls.Note = omega arith

pub operands_are : (f : LibFn) (core : Core) → length core.slots ≡ 64 → operands f core.slots ≡ arguments f core
operands_are f core long =
    let few = few_parameters f in
    sym (slots_taken (length (row_of f).parameters) 0 core.slots (omega (arith, few, long)))

-- each call moves bytes in memory, ends the run or acts on the heap, prints, or uses the streams
pub moves_streams : (f : LibFn) → is_plain f ≡ false → acts f ≡ false → (row_of f).variadic ≡ false → uses_streams f ≡ true
moves_streams calls.Exit plain acting variadic = absurd (cc acting)
moves_streams calls.Abort plain acting variadic = absurd (cc acting)
moves_streams calls.Malloc plain acting variadic = absurd (cc acting)
moves_streams calls.Calloc plain acting variadic = absurd (cc acting)
moves_streams calls.Realloc plain acting variadic = absurd (cc acting)
moves_streams calls.Free plain acting variadic = absurd (cc acting)
moves_streams calls.Memcpy plain acting variadic = absurd (cc plain)
moves_streams calls.Memmove plain acting variadic = absurd (cc plain)
moves_streams calls.Mempcpy plain acting variadic = absurd (cc plain)
moves_streams calls.Memset plain acting variadic = absurd (cc plain)
moves_streams calls.Bzero plain acting variadic = absurd (cc plain)
moves_streams calls.ExplicitBzero plain acting variadic = absurd (cc plain)
moves_streams calls.Memcmp plain acting variadic = absurd (cc plain)
moves_streams calls.Strcpy plain acting variadic = absurd (cc plain)
moves_streams calls.Stpcpy plain acting variadic = absurd (cc plain)
moves_streams calls.Strncpy plain acting variadic = absurd (cc plain)
moves_streams calls.Strcat plain acting variadic = absurd (cc plain)
moves_streams calls.Strncat plain acting variadic = absurd (cc plain)
moves_streams calls.Strlen plain acting variadic = absurd (cc plain)
moves_streams calls.Strcmp plain acting variadic = absurd (cc plain)
moves_streams calls.Strchr plain acting variadic = absurd (cc plain)
moves_streams calls.Printf plain acting variadic = absurd (cc variadic)
moves_streams calls.Puts plain acting variadic = refl
moves_streams calls.Putchar plain acting variadic = refl
moves_streams calls.Dprintf plain acting variadic = absurd (cc variadic)
moves_streams calls.Sprintf plain acting variadic = absurd (cc variadic)
moves_streams calls.Snprintf plain acting variadic = absurd (cc variadic)
moves_streams calls.Read plain acting variadic = refl
moves_streams calls.Write plain acting variadic = refl
moves_streams calls.Getchar plain acting variadic = refl
moves_streams calls.Note plain acting variadic = refl

-- what a call does by its row, where it has one
abbrev if_row : ℕ → List ℕ → Option Row → State → State
if_row to args None s = s
if_row to args (Some row) s = by_row to args row s

-- a call that moves bytes in memory does what its row says
by_memory_row : (f : LibFn) → is_plain f ≡ true → (checked : Bool) (count to : ℕ) (s : State)
    → host_call f checked count to s ≡ if_row to (arguments f s.core) (memory_row f (size_of f checked s.core)) s
by_memory_row calls.Exit plain checked count to s = absurd (cc plain)
by_memory_row calls.Abort plain checked count to s = absurd (cc plain)
by_memory_row calls.Malloc plain checked count to s = absurd (cc plain)
by_memory_row calls.Calloc plain checked count to s = absurd (cc plain)
by_memory_row calls.Realloc plain checked count to s = absurd (cc plain)
by_memory_row calls.Free plain checked count to s = absurd (cc plain)
by_memory_row calls.Memcpy plain checked count to s = refl
by_memory_row calls.Memmove plain checked count to s = refl
by_memory_row calls.Mempcpy plain checked count to s = refl
by_memory_row calls.Memset plain checked count to s = refl
by_memory_row calls.Bzero plain checked count to s = refl
by_memory_row calls.ExplicitBzero plain checked count to s = refl
by_memory_row calls.Memcmp plain checked count to s = refl
by_memory_row calls.Strcpy plain checked count to s = refl
by_memory_row calls.Stpcpy plain checked count to s = refl
by_memory_row calls.Strncpy plain checked count to s = refl
by_memory_row calls.Strcat plain checked count to s = refl
by_memory_row calls.Strncat plain checked count to s = refl
by_memory_row calls.Strlen plain checked count to s = refl
by_memory_row calls.Strcmp plain checked count to s = refl
by_memory_row calls.Strchr plain checked count to s = refl
by_memory_row calls.Printf plain checked count to s = absurd (cc plain)
by_memory_row calls.Puts plain checked count to s = absurd (cc plain)
by_memory_row calls.Putchar plain checked count to s = absurd (cc plain)
by_memory_row calls.Dprintf plain checked count to s = absurd (cc plain)
by_memory_row calls.Sprintf plain checked count to s = absurd (cc plain)
by_memory_row calls.Snprintf plain checked count to s = absurd (cc plain)
by_memory_row calls.Read plain checked count to s = absurd (cc plain)
by_memory_row calls.Write plain checked count to s = absurd (cc plain)
by_memory_row calls.Getchar plain checked count to s = absurd (cc plain)
by_memory_row calls.Note plain checked count to s = absurd (cc plain)

-- a row that neither shows nor takes
abbrev pub Silent : Row → Type 0
Silent row = May ⊥ ⊥ row

ended_silent : (f : Found) (next : Row) → Silent next → Silent (ended f next)
ended_silent f next silent = go f.stop where
  go : (o : Option ℕ) → Silent (elim o [ None ↦ Check true (Gives Nowhere) | Some byte ↦ next ])
  go None = tt
  go (Some byte) = silent

silent_row : (f : LibFn) (size : ℕ) (row : Row) → memory_row f size ≡ Some row → Silent row
silent_row calls.Exit size row is = absurd (cc is)
silent_row calls.Abort size row is = absurd (cc is)
silent_row calls.Malloc size row is = absurd (cc is)
silent_row calls.Calloc size row is = absurd (cc is)
silent_row calls.Realloc size row is = absurd (cc is)
silent_row calls.Free size row is = absurd (cc is)
silent_row calls.Memcpy size row is = subst Silent (same_Some _ _ is) (λ n. tt)
silent_row calls.Memmove size row is = subst Silent (same_Some _ _ is) (λ n. tt)
silent_row calls.Mempcpy size row is = subst Silent (same_Some _ _ is) (λ n. tt)
silent_row calls.Memset size row is = subst Silent (same_Some _ _ is) (λ c n. tt)
silent_row calls.Bzero size row is = subst Silent (same_Some _ _ is) (λ n. tt)
silent_row calls.ExplicitBzero size row is = subst Silent (same_Some _ _ is) (λ n. tt)
silent_row calls.Memcmp size row is = subst Silent (same_Some _ _ is) (λ n bs. tt)
silent_row calls.Strcpy size row is = subst Silent (same_Some _ _ is) (λ s. ended_silent s _ tt)
silent_row calls.Stpcpy size row is = subst Silent (same_Some _ _ is) (λ s. ended_silent s _ tt)
silent_row calls.Strncpy size row is = subst Silent (same_Some _ _ is) (λ n s. tt)
silent_row calls.Strcat size row is = subst Silent (same_Some _ _ is) (λ d. ended_silent d _ (λ s. tt))
silent_row calls.Strncat size row is = subst Silent (same_Some _ _ is) (λ n d. ended_silent d _ (λ s. tt))
silent_row calls.Strlen size row is = subst Silent (same_Some _ _ is) (λ f. tt)
silent_row calls.Strcmp size row is = subst Silent (same_Some _ _ is) (λ p. tt)
silent_row calls.Strchr size row is = subst Silent (same_Some _ _ is) (λ c f. tt)
silent_row calls.Printf size row is = absurd (cc is)
silent_row calls.Puts size row is = absurd (cc is)
silent_row calls.Putchar size row is = absurd (cc is)
silent_row calls.Dprintf size row is = absurd (cc is)
silent_row calls.Sprintf size row is = absurd (cc is)
silent_row calls.Snprintf size row is = absurd (cc is)
silent_row calls.Read size row is = absurd (cc is)
silent_row calls.Write size row is = absurd (cc is)
silent_row calls.Getchar size row is = absurd (cc is)
silent_row calls.Note size row is = absurd (cc is)

did_answered : (to : ℕ) (args : List ℕ) (ran : Result (Answer (List ℕ)) HostStop) (result : Result ℕ HostStop) (memory : List ℕ) (s : State)
    → Does args ran s.core.memory memory result
    → answered to args (carried_to (λ (w : World). s.world) ran) s ≡ after_call to result memory s
did_answered to args (Ok a) result memory s does =
    ap (λ m. with_core (giving to (number_of args a.given) (record s.core { memory = m })) s) (sym does.1)
    ∙ ap (λ r. after_call to r memory s) (sym does.0)
did_answered to args (Err stop) result memory s does = ap (λ r. after_call to r memory s) (sym does.0)

kept : (args : List ℕ) (ran : Result (Answer (List ℕ)) HostStop) (stop : HostStop) (old new : List ℕ) → Does args ran old new (Err stop) → new ≡ old
kept args (Ok a) stop old new does = absurd (cc does.0)
kept args (Err other) stop old new does = does.1

did_row : (row : Option Row) (args : List ℕ) (to : ℕ) (result : Result ℕ HostStop) (memory : List ℕ) (s : State)
    → ((r : Row) → row ≡ Some r → Silent r) → Did row args s.core.memory memory result
    → if_row to args row s ≡ after_call to result memory s
did_row None args to result memory s silent did = absurd did
did_row (Some row) args to result memory s silent did =
    ap (λ x. answered to args x s)
    (run_carried ⊥ ⊥ (λ (w : World). s.world) (respects_any s.world) (on_bytes args) row (silent row refl) s.core.memory quiet)
    ∙ did_answered to args (run (on_bytes args) row s.core.memory quiet) result memory s did

pub kept_memory : (row : Option Row) (args : List ℕ) (stop : HostStop) (old new : List ℕ) → Did row args old new (Err stop) → new ≡ old
kept_memory None args stop old new did = absurd did
kept_memory (Some row) args stop old new did = kept args (run (on_bytes args) row old quiet) stop old new did

-- the instruction of such a call
pub call_moved : (l : Loaded) (f : LibFn) (checked : Bool) (to size : ℕ) (at : StandsAtCall l f checked to) (result : Result ℕ HostStop)
    (memory : List ℕ) (input : Input) → is_plain f ≡ true → size ≡ size_of f checked l.core
    → Did (memory_row f size) (arguments f l.core) l.core.memory memory result
    → perform l.program (instr.Host to at.number at.count) (begun l.core input) ≡ after_call to result memory (begun l.core input)
call_moved l f checked to size at result memory input plain same did =
    let s = begun l.core input in
    call_is l f checked to at s ∙ by_memory_row f plain checked at.count to s
    ∙ did_row (memory_row f (size_of f checked l.core)) (arguments f l.core) to result memory s (silent_row f (size_of f checked l.core))
    (subst (λ n. Did (memory_row f n) (arguments f l.core) l.core.memory memory result) same did)

-- such a call has stored what it did
pub plain_stored : (l stored : Loaded) (f : LibFn) (checked : Bool) (to size : ℕ) → StandsAtCall l f checked to → (result : Result ℕ HostStop)
    → IsGoing l → is_plain f ≡ true → size ≡ size_of f checked l.core → stored ≡ record l { core = record l.core { memory = stored.core.memory } }
    → Did (memory_row f size) (arguments f l.core) l.core.memory stored.core.memory result → HasStored l to result stored
plain_stored l stored f checked to size at result going plain same state did = record {
  number = at.number;
  count = at.count;
  stands = at.stands;
  going = going;
  state = state;
  does = λ input. call_moved l f checked to size at result stored.core.memory input plain same did;
  kept = λ stop is. kept_memory (memory_row f size) (arguments f l.core) stop l.core.memory stored.core.memory
      (subst (λ (r : Result ℕ HostStop). Did (memory_row f size) (arguments f l.core) l.core.memory stored.core.memory r) is did);
}

-- a call that acts by a row that neither shows nor takes
pub row_stored : (l stored : Loaded) (to : ℕ) (args : List ℕ) (row : Row) → ActsBy l to args row → Silent row → (result : Result ℕ HostStop)
    → IsGoing l → stored ≡ record l { core = record l.core { memory = stored.core.memory } }
    → Does args (run (on_bytes args) row l.core.memory quiet) l.core.memory stored.core.memory result → HasStored l to result stored
row_stored l stored to args row at silent result going state did = record {
  number = at.number;
  count = at.count;
  stands = at.stands;
  going = going;
  state = state;
  does = λ input. at.does input ∙ did_row (Some row) args to result stored.core.memory (begun l.core input)
      (λ r is. subst Silent (same_Some row r is) silent) did;
  kept = λ stop is. kept args (run (on_bytes args) row l.core.memory quiet) stop l.core.memory stored.core.memory
      (subst (λ (r : Result ℕ HostStop). Does args (run (on_bytes args) row l.core.memory quiet) l.core.memory stored.core.memory r) is did);
}

-- a machine that has stored bytes stands where it stood, and one that has stopped is as it was
pub stored_stands : (l stored : Loaded) (to : ℕ) (result : Result ℕ HostStop) (h : HasStored l to result stored)
    → StandsAt stored (instr.Host to h.number h.count)
stored_stands l stored to result h = subst (λ (x : Loaded). StandsAt x (instr.Host to h.number h.count)) (sym h.state) h.stands

pub stored_same : (l stored : Loaded) (to : ℕ) (stop : HostStop) → HasStored l to (Err stop) stored → stored ≡ l
stored_same l stored to stop h = h.state ∙ ap (λ m. record l { core = record l.core { memory = m } }) (h.kept stop refl)

-- what was stored by the slots and the memory that the machine has
pub stored_by : (P : List ℕ → List ℕ → List ℕ → Type 0) (l l' : Loaded) (m new back : List ℕ) → m ≡ l.core.memory → l ≡ l' → back ≡ new
    → P l.core.slots m new → P l'.core.slots l'.core.memory back
stored_by P l l' m new back held same there did =
    subst (P l'.core.slots l'.core.memory) (sym there)
    (subst (λ (x : Loaded). P x.core.slots x.core.memory new) same (subst (λ n. P l.core.slots n new) held did))
