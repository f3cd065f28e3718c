-- The library's calls by their argument slots.
use Rattle.std.proofs.Common.{◌≡◌, ℕ, ◌+◌, Bool, true, false, cond, slice_index, ◌||◌, List, [], ◌∷◌, ◌++◌, length, Ok, ◌≤◌, refl, sym, ◌∙◌, ap, arith}
use Rattle.std.specs.Prelude.{eqb, ltb, if◌then◌else◌}
use Rattle.std.proofs.lemmas.Bool.{eqb-true, le-ltb}
use Rattle.run_meaning.specs.Worlds.{Input}
use Rattle.bm_isa.specs.declared.instructions.Instr.TheVariants as instr
use Rattle.c_library.specs.declared.functions.LibFn.{LibFn}
use Rattle.c_library.specs.declared.functions.LibFn.TheVariants as calls
use Rattle.library_meaning.specs.Scan.{and_then}
use Rattle.library_meaning.specs.Rows.{Row, Gives, Point, Count, answer, run, showing}
use Rattle.library_meaning.specs.Table as table
use Rattle.library_meaning.specs.Table.{int_of, minus_one, no_limit}
use Rattle.library_meaning.specs.OnBytes.{on_bytes, valid_then}
use Rattle.library_meaning.specs.Memory.{are_valid, bytes_at}
use Rattle.byte_machine.specs.State.{State, slot_value, size_of, arguments, answered, by_row, host_call, perform, giving, overflowing, note}
use Rattle.byte_machine.specs.Opening.{begun}
use Rattle.byte_machine.specs.View.{loaded_of}
use Rattle.byte_machine.specs.declared.machine.Machine.TheInside.{Inside}
use Rattle.byte_machine.specs.Machines.{Loaded}
use Rattle.byte_machine.specs.Performing.{StandsAtCall, ActsBy, Names, operands}
use Rattle.byte_machine.proofs.Steps.{call_is, is_not_zero}
use Rattle.byte_machine.proofs.Moved.{operands_are}
use Rattle.byte_machine.proofs.Taken.{read_here, read_elsewhere}

-- there are 64 slots
pub all_slots : (m : Inside) (l : Loaded) → loaded_of m ≡ l → length m.slots ≡ 64 → length l.core.slots ≡ 64
all_slots m l same told = sym (ap (λ (x : Loaded). length x.core.slots) same) ∙ told

-- the register of a call's result is named
pub result_named : (l : Loaded) (f : LibFn) (checked : Bool) (to : ℕ) → StandsAtCall l f checked to → Names l to
result_named l f checked to at = record { i = instr.Host to at.number at.count; k = 0; stands = at.stands; named = refl }

-- a call that acts by a row, over its slots one by one
abbrev acts_by : (l : Loaded) (f : LibFn) (checked : Bool) (to : ℕ) (row : Row) (at : StandsAtCall l f checked to) → length l.core.slots ≡ 64
    → ((input : Input) → host_call f checked at.count to (begun l.core input) ≡ by_row to (arguments f l.core) row (begun l.core input))
    → ActsBy l to (operands f l.core.slots) row
acts_by l f checked to row at long is = record {
  number = at.number;
  count = at.count;
  stands = at.stands;
  does = λ input. call_is l f checked to at (begun l.core input) ∙ is input
      ∙ ap (λ args. by_row to args row (begun l.core input)) (sym (operands_are f l.core long));
}

abbrev pub puts_acts : (l : Loaded) (checked : Bool) (to : ℕ) → StandsAtCall l calls.Puts checked to → length l.core.slots ≡ 64
    → ActsBy l to (slot_value l.core 0 ∷ []) table.puts
puts_acts l checked to at long = acts_by l calls.Puts checked to table.puts at long (λ input. refl)

abbrev pub putchar_acts : (l : Loaded) (checked : Bool) (to : ℕ) → StandsAtCall l calls.Putchar checked to → length l.core.slots ≡ 64
    → ActsBy l to (slot_value l.core 0 ∷ []) table.putchar
putchar_acts l checked to at long = acts_by l calls.Putchar checked to table.putchar at long (λ input. refl)

abbrev pub getchar_acts : (l : Loaded) (checked : Bool) (to : ℕ) → StandsAtCall l calls.Getchar checked to → ActsBy l to [] table.getchar
getchar_acts l checked to at = record {
  number = at.number;
  count = at.count;
  stands = at.stands;
  does = λ input. call_is l calls.Getchar checked to at (begun l.core input);
}

abbrev pub note_acts : (l : Loaded) (checked : Bool) (to : ℕ) → StandsAtCall l calls.Note checked to → length l.core.slots ≡ 64
    → ActsBy l to (slot_value l.core 0 ∷ slot_value l.core 1 ∷ slot_value l.core 2 ∷ slot_value l.core 3 ∷ []) note
note_acts l checked to at long = acts_by l calls.Note checked to note at long (λ input. refl)

-- what `write` does, by its descriptor
abbrev write_by : ℕ → List ℕ → Bool → ℕ → State → State
write_by to args sink d s = answered to args (run (on_bytes args) (if sink
    then table.write_on d
    else Point (1 ∷ []) [] (Gives minus_one)) s.core.memory s.world) s

write_is : (to fd from n : ℕ) (s : State) → by_row to (fd ∷ from ∷ n ∷ []) table.write s
    ≡ write_by to (fd ∷ from ∷ n ∷ []) (eqb (int_of fd) 1 || eqb (int_of fd) 2) (int_of fd) s
write_is to fd from n s = refl

-- on one of the two by whether its bytes may be read
abbrev write_done : ℕ → List ℕ → ℕ → ℕ → ℕ → Bool → State → State
write_done to args from n d valid s = answered to args (and_then
    (and_then (valid_then valid (bytes_at s.core.memory (from + 0) n)) (λ bs. Ok (bs ++ [])))
    (λ bytes. Ok (answer s.core.memory (showing s.world d bytes) (Count n)))) s

write_any : (to fd from n d : ℕ) (valid : Bool) (s : State)
    → write_done to (fd ∷ from ∷ n ∷ []) from n d valid s ≡ write_done to (d ∷ from ∷ n ∷ []) from n d valid s
write_any to fd from n d true s = refl
write_any to fd from n d false s = refl

pub write_acts : (l : Loaded) (checked : Bool) (to d : ℕ) → StandsAtCall l calls.Write checked to → length l.core.slots ≡ 64
    → int_of (slot_value l.core 0) ≡ d → (eqb d 1 || eqb d 2) ≡ true
    → ActsBy l to (d ∷ slot_value l.core 1 ∷ slot_value l.core 2 ∷ []) (table.write_on d)
write_acts l checked to d at long here sink =
    let fd = slot_value l.core 0 in
    let from = slot_value l.core 1 in
    let n = slot_value l.core 2 in
    let acts = acts_by l calls.Write checked to table.write at long (λ input. refl) in
    record {
      number = acts.number;
      count = acts.count;
      stands = acts.stands;
      does = λ input. let s = begun l.core input in acts.does input ∙ write_is to fd from n s
          ∙ ap (λ k. write_by to (fd ∷ from ∷ n ∷ []) (eqb k 1 || eqb k 2) k s) here
          ∙ ap (λ t. write_by to (fd ∷ from ∷ n ∷ []) t d s) sink
          ∙ write_any to fd from n d (are_valid (from + 0) n) s;
    }

-- on another one it writes nothing
pub write_elsewhere : (l : Loaded) (checked : Bool) (to : ℕ) (at : StandsAtCall l calls.Write checked to) (input : Input)
    → length l.core.slots ≡ 64 → (eqb (int_of (slot_value l.core 0)) 1 || eqb (int_of (slot_value l.core 0)) 2) ≡ false
    → perform l.program (instr.Host to at.number at.count) (begun l.core input) ≡ begun (giving to no_limit l.core) input
write_elsewhere l checked to at input long none =
    let s = begun l.core input in
    let fd = slot_value l.core 0 in
    let args = fd ∷ slot_value l.core 1 ∷ slot_value l.core 2 ∷ [] in
    (acts_by l calls.Write checked to table.write at long (λ input. refl)).does input
    ∙ write_is to fd (slot_value l.core 1) (slot_value l.core 2) s
    ∙ ap (λ t. write_by to args t (int_of fd) s) none

-- a descriptor that is neither
pub neither : (read n : ℕ) → read ≡ n → (read ≡ 1 → ⊥) → (read ≡ 2 → ⊥) → (eqb n 1 || eqb n 2) ≡ false
neither read n same first second = go (eqb n 1) (eqb n 2) refl refl where
  go : (a b : Bool) → eqb n 1 ≡ a → eqb n 2 ≡ b → (a || b) ≡ false
  go true b is not = absurd (first (same ∙ eqb-true n 1 is))
  go false true is not = absurd (second (same ∙ eqb-true n 2 not))
  go false false is not = refl

-- `read` from standard input
abbrev pub read_acts : (l : Loaded) (checked : Bool) (to size : ℕ) → StandsAtCall l calls.Read checked to → length l.core.slots ≡ 64
    → size ≡ size_of calls.Read checked l.core → eqb (int_of (slot_value l.core 0)) 0 ≡ true
    → ActsBy l to (0 ∷ slot_value l.core 1 ∷ slot_value l.core 2 ∷ []) (table.read size)
read_acts l checked to size at long same here =
    let acts = acts_by l calls.Read checked to (table.read size) at long
    (λ input. ap (λ n. by_row to (arguments calls.Read l.core) (table.read n) (begun l.core input)) (sym same)) in
    record {
      number = acts.number;
      count = acts.count;
      stands = acts.stands;
      does = λ input. acts.does input ∙ read_here to (slot_value l.core 0) (slot_value l.core 1) (slot_value l.core 2) size (begun l.core input) here;
    }

-- from another descriptor it gives -1 after its check
pub read_other : (l : Loaded) (checked : Bool) (to : ℕ) (at : StandsAtCall l calls.Read checked to) (input : Input) → length l.core.slots ≡ 64
    → eqb (int_of (slot_value l.core 0)) 0 ≡ false → perform l.program (instr.Host to at.number at.count) (begun l.core input)
    ≡ cond (ltb (size_of calls.Read checked l.core) (slot_value l.core 2)) (overflowing (begun l.core input)) (begun (giving to no_limit l.core) input)
read_other l checked to at input long other =
    (acts_by l calls.Read checked to (table.read (size_of calls.Read checked l.core)) at long (λ input. refl)).does input
    ∙ read_elsewhere to (slot_value l.core 0) (slot_value l.core 1) (slot_value l.core 2) (size_of calls.Read checked l.core) (begun l.core input) other

-- the descriptor that was read
pub descriptor_read : (m : Inside) (l : Loaded) (read : ℕ) → loaded_of m ≡ l → read ≡ int_of (slice_index m.slots 0)
    → read ≡ int_of (slot_value l.core 0)
descriptor_read m l read same is = is ∙ ap (λ (x : Loaded). int_of (slot_value x.core 0)) same

pub other_than_zero : (n : ℕ) → (n ≡ 0 → ⊥) → eqb n 0 ≡ false
other_than_zero n other = is_not_zero n n refl other

-- a request within its size
pub within_size : (read bound n size : ℕ) → read ≡ n → bound ≡ size → read ≤ bound → ltb size n ≡ false
within_size read bound n size same same' within = le-ltb size n (omega (arith, same, same', within))
