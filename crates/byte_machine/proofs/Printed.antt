-- The library's prints, by their argument slots.
use Rattle.std.proofs.Common.{◌≡◌, ℕ, zero, suc, ◌+◌, ◌-◌, ◌≤◌, ◌<◌, ◌==◌, ◌||◌, Bool, true, false, not, is_some, cond, List, [], ◌∷◌, ◌++◌, length, take, drop, min, Result, nat_le, refl, sym, ◌∙◌, ap, subst, arith, slice_index}
use Rattle.std.specs.Prelude.{if◌then◌else◌, slice_range}
use Rattle.std.proofs.lemmas.List.{drop_more, length-take, length-drop}
use Rattle.std.proofs.lemmas.Bool.{leb-true}
use Rattle.run_meaning.specs.Worlds.{Input}
use Rattle.bm_isa.specs.declared.instructions.Instr.TheVariants as instr
use Rattle.bm_image.specs.Images.{form_takes, slots_of}
use Rattle.c_library.specs.declared.functions.LibFn.{LibFn}
use Rattle.c_library.specs.declared.functions.LibFn.TheVariants as calls
use Rattle.c_library.specs.Library.{row_of}
use Rattle.library_meaning.specs.Rows.{Row, Gives, Point, Stretch, run}
use Rattle.library_meaning.specs.Table.{int_of, minus_one, no_limit}
use Rattle.library_meaning.specs.Prints as prints
use Rattle.library_meaning.proofs.Printed.{printed_keeps, if_keeps}
use Rattle.library_meaning.specs.OnBytes.{on_bytes}
use Rattle.library_meaning.specs.declared.stops.HostStop.{HostStop}
use Rattle.byte_machine.specs.State.{State, slot_value, answered, by_row, print_arguments, print_size, printing_within, host_call, numbered_call, perform, giving}
use Rattle.byte_machine.specs.Opening.{begun}
use Rattle.byte_machine.specs.Machines.{Loaded}
use Rattle.byte_machine.specs.Performing.{StandsAtPrint, ActsBy, HasStored, IsGoing, ShowsOn, StoresBounded, StoresWhole, slots_from}
use Rattle.byte_machine.proofs.Moved.{Silent, row_stored}
use Rattle.byte_machine.proofs.Steps.{first_test, second_test}

-- a print on a descriptor shows its text there
pub print_shows : (d passed i : ℕ) → ShowsOn d (prints.print_on d passed i)
print_shows d passed i = printed_keeps (ShowsOn d) tt (λ i next h. h) (λ stops from next h. h) (λ pointers touched next h. h) _
    (λ text from. (refl, tt)) passed i _

-- one into memory neither shows nor takes
into_silent : (passed i : ℕ) (also : List ℕ × List ℕ) (next : List ℕ → List Stretch → Row)
    → ((text : List ℕ) (from : List Stretch) → Silent (next text from)) → Silent (prints.printed passed i also next)
into_silent passed i also next h =
    printed_keeps Silent tt (λ i next h. h) (λ stops from next h. h) (λ pointers touched next h. h) next h passed i also

pub sprintf_silent : (passed size : ℕ) → Silent (prints.sprintf passed size)
sprintf_silent passed size = into_silent passed 1 _ (prints.whole_into passed size) (λ text from. tt)

pub snprintf_silent : (passed size : ℕ) → Silent (prints.snprintf passed size)
snprintf_silent passed size = λ n. into_silent passed 2 _ (prints.cut_into n) (λ text from. if_keeps Silent (n == 0) _ _ tt tt)

-- the slots from one on, up to the count
slots_on : (at count : ℕ) (slots : List ℕ) → at < count → count ≤ length slots
    → slice_range slots at count ≡ slice_index slots at ∷ slice_range slots (at + 1) count
slots_on at count slots some few =
    let more : count - at ≡ suc (count - (at + 1)) = omega (arith, some) in
    ap (λ n. take n (drop at slots)) more ∙ ap (take (suc (count - (at + 1)))) (drop_more slots at 0 (omega (arith, some, few)))

-- so many of them one by one
slots_from_on : (n at count : ℕ) (slots : List ℕ) → at + n ≤ count → count ≤ length slots
    → slice_range slots at count ≡ slots_from at n slots ++ slice_range slots (at + n) count
slots_from_on zero at count slots some few = ap (λ k. slice_range slots k count) (omega arith)
slots_from_on (suc n) at count slots some few =
    slots_on at count slots (omega (arith, some)) few
    ∙ ap (λ (xs : List ℕ). slice_index slots at ∷ xs) (slots_from_on n (at + 1) count slots (omega (arith, some)) few)
    ∙ ap (λ k. slots_from at (suc n) slots ++ slice_range slots k count) (omega arith)

-- the slots that a call is passed, of which the first stand one by one
given_slots : (n count : ℕ) (slots : List ℕ) → n ≤ count → count ≤ length slots
    → take count slots ≡ slots_from 0 n slots ++ slice_range slots (0 + n) count
given_slots n count slots some few = ap (λ k. take k slots) (omega arith) ∙ slots_from_on n 0 count slots (omega (arith, some)) few

slots_long : (at count : ℕ) (slots : List ℕ) → count ≤ length slots → length (slice_range slots at count) ≡ count - at
slots_long at count slots few =
    length-take (count - at) (drop at slots) ∙ ap (min (count - at)) (length-drop at slots) ∙ omega (arith, few)

-- how many slots a print is passed
few_slots : (f : LibFn) (checked : Bool) (count : ℕ) → (row_of f).variadic ≡ true → form_takes f checked count ≡ true
    → (slots_of f checked ≤ count) × (count ≤ 64)
few_slots f checked count variadic takes =
    let formed = second_test (not checked || is_some (row_of f).checked) _ takes in
    let enough : nat_le (slots_of f checked) count ≡ true =
    ap (λ v. cond v (nat_le (slots_of f checked) count) (count == slots_of f checked)) (sym variadic) ∙ second_test (nat_le count 64) _ formed in
    (leb-true (slots_of f checked) count enough, leb-true count 64 (first_test (nat_le count 64) _ formed))

pub few_printf : (checked : Bool) (count : ℕ) → form_takes calls.Printf checked count ≡ true → (1 ≤ count) × (count ≤ 64)
few_printf checked count takes = let few = few_slots calls.Printf checked count refl takes in (omega (arith, few), few.1)

pub few_dprintf : (checked : Bool) (count : ℕ) → form_takes calls.Dprintf checked count ≡ true → (2 ≤ count) × (count ≤ 64)
few_dprintf checked count takes = let few = few_slots calls.Dprintf checked count refl takes in (omega (arith, few), few.1)

pub few_sprintf : (checked : Bool) (count : ℕ) → form_takes calls.Sprintf checked count ≡ true → (2 + cond checked 1 0 ≤ count) × (count ≤ 64)
few_sprintf checked count takes = few_slots calls.Sprintf checked count refl takes

pub few_snprintf : (checked : Bool) (count : ℕ) → form_takes calls.Snprintf checked count ≡ true → (3 + cond checked 1 0 ≤ count) × (count ≤ 64)
few_snprintf checked count takes = few_slots calls.Snprintf checked count refl takes

-- a print on a descriptor has no checked form
printf_plain : (checked : Bool) (count : ℕ) → form_takes calls.Printf checked count ≡ true → slots_of calls.Printf checked ≡ 1
printf_plain true count takes = absurd (cc takes)
printf_plain false count takes = refl

dprintf_plain : (checked : Bool) (count : ℕ) → form_takes calls.Dprintf checked count ≡ true → slots_of calls.Dprintf checked ≡ 2
dprintf_plain true count takes = absurd (cc takes)
dprintf_plain false count takes = refl

-- a print does what its equation says
print_is : (l : Loaded) (f : LibFn) (checked : Bool) (count to : ℕ) (at : StandsAtPrint l f checked count to) (s : State)
    → perform l.program (instr.Host to at.number count) s ≡ host_call f checked count to s
print_is l f checked count to at s = ap (λ o. numbered_call o count to s) at.is

pub printf_acts : (l : Loaded) (checked : Bool) (count to : ℕ) → StandsAtPrint l calls.Printf checked count to → length l.core.slots ≡ 64
    → ActsBy l to (slot_value l.core 0 ∷ slice_range l.core.slots 1 count) (prints.printf (length (slice_range l.core.slots 1 count)))
printf_acts l checked count to at long =
    let slots = l.core.slots in
    let args = slice_range slots 1 count in
    let few = few_printf checked count at.takes in
    let within : count ≤ length slots = omega (arith, few, long) in
    let passed : count - slots_of calls.Printf checked ≡ length args =
    ap (λ k. count - k) (printf_plain checked count at.takes) ∙ sym (slots_long 1 count slots within) in
    let all : count ≡ count - 0 = omega arith in
    let given : take count slots ≡ slot_value l.core 0 ∷ args = ap (λ n. take n slots) all ∙ slots_on 0 count slots (omega (arith, few)) within in
    record {
      number = at.number;
      count = count;
      stands = at.stands;
      does = λ input. let s = begun l.core input in print_is l calls.Printf checked count to at s
          ∙ ap (λ p. by_row to (take count slots) (prints.printf p) s) passed
          ∙ ap (λ (xs : List ℕ). by_row to xs (prints.printf (length args)) s) given;
    }

-- what `dprintf` does on a descriptor
abbrev on_number : ℕ → List ℕ → ℕ → ℕ → State → State
on_number to args passed d s = answered to args (run (on_bytes args) (if (d == 1) || (d == 2)
    then prints.print_on d passed 1
    else Point (prints.operands 1 (passed + 1)) [] (Gives minus_one)) s.core.memory s.world) s

dprintf_done : (l : Loaded) (checked : Bool) (count to : ℕ) (at : StandsAtPrint l calls.Dprintf checked count to) → length l.core.slots ≡ 64
    → (input : Input) → let args = slice_range l.core.slots 2 count in
    perform l.program (instr.Host to at.number count) (begun l.core input)
    ≡ on_number to (slot_value l.core 0 ∷ slot_value l.core 1 ∷ args) (length args) (int_of (slot_value l.core 0)) (begun l.core input)
dprintf_done l checked count to at long input =
    let slots = l.core.slots in
    let s = begun l.core input in
    let args = slice_range slots 2 count in
    let few = few_dprintf checked count at.takes in
    let within : count ≤ length slots = omega (arith, few, long) in
    let passed : count - slots_of calls.Dprintf checked ≡ length args =
    ap (λ k. count - k) (dprintf_plain checked count at.takes) ∙ sym (slots_long 2 count slots within) in
    let all : count ≡ count - 0 = omega arith in
    let given : take count slots ≡ slot_value l.core 0 ∷ slot_value l.core 1 ∷ args =
    ap (λ n. take n slots) all ∙ slots_on 0 count slots (omega (arith, few)) within
    ∙ ap (λ (xs : List ℕ). slot_value l.core 0 ∷ xs) (slots_on 1 count slots (omega (arith, few)) within) in
    print_is l calls.Dprintf checked count to at s
    ∙ ap (λ p. by_row to (take count slots) (prints.dprintf p) s) passed
    ∙ ap (λ (xs : List ℕ). by_row to xs (prints.dprintf (length args)) s) given

pub dprintf_acts : (l : Loaded) (checked : Bool) (count to d : ℕ) → StandsAtPrint l calls.Dprintf checked count to → length l.core.slots ≡ 64
    → int_of (slot_value l.core 0) ≡ d → ((d == 1) || (d == 2)) ≡ true
    → ActsBy l to (slot_value l.core 0 ∷ slot_value l.core 1 ∷ slice_range l.core.slots 2 count)
    (prints.print_on d (length (slice_range l.core.slots 2 count)) 1)
dprintf_acts l checked count to d at long here sink =
    let args = slice_range l.core.slots 2 count in
    let operands = slot_value l.core 0 ∷ slot_value l.core 1 ∷ args in
    record {
      number = at.number;
      count = count;
      stands = at.stands;
      does = λ input. let s = begun l.core input in dprintf_done l checked count to at long input
          ∙ ap (λ n. on_number to operands (length args) n s) here
          ∙ ap (λ t. answered to operands (run (on_bytes operands) (if t then prints.print_on d (length args) 1
          else Point (prints.operands 1 (length args + 1)) [] (Gives minus_one)) s.core.memory s.world) s) sink;
    }

-- on another one it prints nothing
pub dprintf_elsewhere : (l : Loaded) (checked : Bool) (count to : ℕ) (at : StandsAtPrint l calls.Dprintf checked count to) (input : Input)
    → length l.core.slots ≡ 64 → ((int_of (slot_value l.core 0) == 1) || (int_of (slot_value l.core 0) == 2)) ≡ false
    → perform l.program (instr.Host to at.number count) (begun l.core input) ≡ begun (giving to no_limit l.core) input
dprintf_elsewhere l checked count to at input long none =
    let s = begun l.core input in
    let d = int_of (slot_value l.core 0) in
    let args = slice_range l.core.slots 2 count in
    let operands = slot_value l.core 0 ∷ slot_value l.core 1 ∷ args in
    dprintf_done l checked count to at long input
    ∙ ap (λ t. answered to operands (run (on_bytes operands) (if t then prints.print_on d (length args) 1
    else Point (prints.operands 1 (length args + 1)) [] (Gives minus_one)) s.core.memory s.world) s) none

-- a print into memory does what its row says, over its slots one by one
print_into : (l : Loaded) (f : LibFn) (checked : Bool) (count to k : ℕ) (row : ℕ → ℕ → Row) → StandsAtPrint l f checked count to
    → ((s : State) → host_call f checked count to s ≡ printing_within f k row checked count to s) → (passed : ℕ) (args : List ℕ)
    → count - slots_of f checked ≡ passed → print_arguments k checked count l.core ≡ args → ActsBy l to args (row passed (print_size k checked l.core))
print_into l f checked count to k row at is passed args same given = record {
  number = at.number;
  count = count;
  stands = at.stands;
  does = λ input. let s = begun l.core input in print_is l f checked count to at s ∙ is s
      ∙ ap (λ p. by_row to (print_arguments k checked count l.core) (row p (print_size k checked l.core)) s) same
      ∙ ap (λ (xs : List ℕ). by_row to xs (row passed (print_size k checked l.core)) s) given;
}

pub sprintf_acts : (l : Loaded) (checked : Bool) (count to : ℕ) → StandsAtPrint l calls.Sprintf checked count to → length l.core.slots ≡ 64
    → let format = 1 + cond checked 1 0 in let args = slice_range l.core.slots (format + 1) count in
    ActsBy l to (slot_value l.core 0 ∷ slot_value l.core format ∷ args) (prints.sprintf (length args) (print_size 1 checked l.core))
sprintf_acts l true count to at long =
    let slots = l.core.slots in
    let few = few_sprintf true count at.takes in
    let within : count ≤ length slots = omega (arith, few, long) in
    print_into l calls.Sprintf true count to 1 prints.sprintf at (λ s. refl) (length (slice_range slots 3 count))
    (slot_value l.core 0 ∷ slot_value l.core 2 ∷ slice_range slots 3 count) (sym (slots_long 3 count slots within))
    (ap (λ (xs : List ℕ). take 1 xs ++ drop 2 xs) (given_slots 3 count slots (omega (arith, few)) within))
sprintf_acts l false count to at long =
    let slots = l.core.slots in
    let few = few_sprintf false count at.takes in
    let within : count ≤ length slots = omega (arith, few, long) in
    print_into l calls.Sprintf false count to 1 prints.sprintf at (λ s. refl) (length (slice_range slots 2 count))
    (slot_value l.core 0 ∷ slot_value l.core 1 ∷ slice_range slots 2 count) (sym (slots_long 2 count slots within))
    (given_slots 2 count slots (omega (arith, few)) within)

pub snprintf_acts : (l : Loaded) (checked : Bool) (count to : ℕ) → StandsAtPrint l calls.Snprintf checked count to → length l.core.slots ≡ 64
    → let format = 2 + cond checked 1 0 in let args = slice_range l.core.slots (format + 1) count in
    ActsBy l to (slot_value l.core 0 ∷ slot_value l.core 1 ∷ slot_value l.core format ∷ args)
    (prints.snprintf (length args) (print_size 2 checked l.core))
snprintf_acts l true count to at long =
    let slots = l.core.slots in
    let few = few_snprintf true count at.takes in
    let within : count ≤ length slots = omega (arith, few, long) in
    print_into l calls.Snprintf true count to 2 prints.snprintf at (λ s. refl) (length (slice_range slots 4 count))
    (slot_value l.core 0 ∷ slot_value l.core 1 ∷ slot_value l.core 3 ∷ slice_range slots 4 count) (sym (slots_long 4 count slots within))
    (ap (λ (xs : List ℕ). take 2 xs ++ drop 3 xs) (given_slots 4 count slots (omega (arith, few)) within))
snprintf_acts l false count to at long =
    let slots = l.core.slots in
    let few = few_snprintf false count at.takes in
    let within : count ≤ length slots = omega (arith, few, long) in
    print_into l calls.Snprintf false count to 2 prints.snprintf at (λ s. refl) (length (slice_range slots 3 count))
    (slot_value l.core 0 ∷ slot_value l.core 1 ∷ slot_value l.core 2 ∷ slice_range slots 3 count) (sym (slots_long 3 count slots within))
    (given_slots 3 count slots (omega (arith, few)) within)

-- what was stored is what its row says
pub sprintf_stored : (l stored : Loaded) (checked : Bool) (count to size format : ℕ) → StandsAtPrint l calls.Sprintf checked count to
    → length l.core.slots ≡ 64 → (result : Result ℕ HostStop) → IsGoing l → size ≡ print_size 1 checked l.core → format ≡ 1 + cond checked 1 0
    → stored ≡ record l { core = record l.core { memory = stored.core.memory } }
    → StoresWhole size format count result l.core.slots l.core.memory stored.core.memory → HasStored l to result stored
sprintf_stored l stored checked count to size format at long result going same place state did =
    let here = subst (λ f. StoresWhole (print_size 1 checked l.core) f count result l.core.slots l.core.memory stored.core.memory) place
    (subst (λ n. StoresWhole n format count result l.core.slots l.core.memory stored.core.memory) same did) in
    row_stored l stored to _ _ (sprintf_acts l checked count to at long) (sprintf_silent _ (print_size 1 checked l.core)) result going state here

pub snprintf_stored : (l stored : Loaded) (checked : Bool) (count to size format : ℕ) → StandsAtPrint l calls.Snprintf checked count to
    → length l.core.slots ≡ 64 → (result : Result ℕ HostStop) → IsGoing l → size ≡ print_size 2 checked l.core → format ≡ 2 + cond checked 1 0
    → stored ≡ record l { core = record l.core { memory = stored.core.memory } }
    → StoresBounded size format count result l.core.slots l.core.memory stored.core.memory → HasStored l to result stored
snprintf_stored l stored checked count to size format at long result going same place state did =
    let here = subst (λ f. StoresBounded (print_size 2 checked l.core) f count result l.core.slots l.core.memory stored.core.memory) place
    (subst (λ n. StoresBounded n format count result l.core.slots l.core.memory stored.core.memory) same did) in
    row_stored l stored to _ _ (snprintf_acts l checked count to at long) (snprintf_silent _ (print_size 2 checked l.core)) result going state here
