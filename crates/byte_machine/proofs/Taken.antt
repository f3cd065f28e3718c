-- Calls that take from standard input, by their rows.
use Rattle.std.proofs.Common.{◌≡◌, ℕ, zero, suc, ◌+◌, ◌≤◌, Bool, true, false, cond, List, [], ◌∷◌, ◌++◌, length, take, drop, None, Some, Result, Ok, Err, nat_le, ◌&&◌, refl, sym, ◌∙◌, ap, subst, arith}
use Rattle.std.specs.Prelude.{ltb, eqb, if◌then◌else◌}
use Rattle.std.proofs.Math.Nat.{add-zero}
use Rattle.std.proofs.lemmas.Bool.{le-leb, ltb-false}
use Rattle.fc_base.specs.Outside.{Takes, Appends}
use Rattle.run_meaning.specs.Runs.{Shown, on_descriptor}
use Rattle.bm_isa.specs.declared.instructions.Instr.TheVariants as instr
use Rattle.run_meaning.specs.Worlds.{World, Input, AreBytes}
use Rattle.run_meaning.specs.Objects.{Streams, StreamState, NoneFell}
use Rattle.run_meaning.specs.declared.streams.Stream.TheVariants.{Input as OfInput, Out as OfOut, Err as OfErr}
use Rattle.run_meaning.proofs.Moved.{bytes_on-same, bytes_on-other}
use Rattle.library_meaning.specs.Scan.{and_then}
use Rattle.library_meaning.specs.Rows.{Row, Gives, Point, Answer, answer, Count, run, taking}
use Rattle.library_meaning.specs.Table.{int_of, minus_one, no_limit, read, read_from_input, getchar}
use Rattle.library_meaning.specs.OnBytes.{on_bytes, valid_then, quiet}
use Rattle.library_meaning.specs.OnStreams.{HasTaken, DidTake, FailedToTake, TakesFrom, TakesAs, offering, having_taken}
use Rattle.library_meaning.specs.Memory.{are_valid, put}
use Rattle.library_meaning.specs.declared.stops.HostStop.{HostStop}
use Rattle.library_meaning.specs.declared.stops.HostStop.TheVariants as host
use Rattle.byte_machine.specs.State.{State, giving, with_core, answered, by_row, overflowing, next}
use Rattle.byte_machine.specs.Opening.{begun}
use Rattle.byte_machine.specs.Machines.{Loaded, asked, read_asks}
use Rattle.byte_machine.specs.Performing.{IsGoing, HaveMoved, Carried, FailsIn, Performs, MovesAlone, ActsBy, behind, having_moved}
use Rattle.byte_machine.specs.declared.machine.Stop.TheVariants as stops
use Rattle.byte_machine.specs.declared.machine.Step.{Step}
use Rattle.byte_machine.specs.declared.machine.Step.TheVariants as steps
use Rattle.byte_machine.proofs.Moving.{on_descriptor-append}
use Rattle.byte_machine.proofs.Steps.{next_is}
use Rattle.byte_machine.proofs.Written.{same_faults, same_written}

-- bytes that were taken
have_moved-input : (bytes : List ℕ) (x y : Streams) → HasTaken bytes x.input y.input → x.input.faults ≤ y.input.faults
    → MovesAlone OfInput x y → HaveMoved (on_descriptor 0 bytes) x y
have_moved-input bytes x y has grew alone = record {
  moves = record {
    taken = subst (λ b. Takes b x.input.told y.input.told) (sym (bytes_on-same 0 bytes refl)) has.taken;
    on_out = subst (λ b. Appends b x.out.told y.out.told) (sym (bytes_on-other 1 0 bytes refl)) (same_written x.out y.out alone.0);
    on_err = subst (λ b. Appends b x.err.told y.err.told) (sym (bytes_on-other 2 0 bytes refl)) (same_written x.err y.err alone.1);
  };
  fell = fell;
  are_bytes = subst AreBytes (sym (bytes_on-same 0 bytes refl)) has.are_bytes;
  untold = has.untold;
} where
  fell : NoneFell x y
  fell OfInput = grew
  fell OfOut = same_faults x.out y.out alone.0
  fell OfErr = same_faults x.err y.err alone.1

-- an input with what was taken before it
behind_taken : (bytes : List ℕ) (rest : Input) → behind (on_descriptor 0 bytes) rest ≡ record rest { bytes = bytes ++ rest.bytes }
behind_taken bytes rest = ap (λ (b : List ℕ). record rest { bytes = b ++ rest.bytes }) (bytes_on-same 0 bytes refl)

-- nothing has moved yet
abbrev unmoved : Input → World
unmoved rest = record { input = rest; shown = [] }

-- the state behind a call that takes, by what its row comes to
taken_next : (l : Loaded) (to : ℕ) (args bytes : List ℕ) (row : Row) (rest : Input) (ran : Result (Answer (List ℕ)) HostStop)
    → l.core.stopped ≡ None → (acts : ActsBy l to args row) → run (on_bytes args) row l.core.memory (offering bytes (unmoved rest)) ≡ ran
    → next l.program (begun l.core (behind (on_descriptor 0 bytes) rest))
    ≡ answered to args ran (begun l.core (record rest { bytes = bytes ++ rest.bytes }))
taken_next l to args bytes row rest ran running acts is =
    ap (λ i. next l.program (begun l.core i)) (behind_taken bytes rest)
    ∙ next_is l.program (begun l.core (record rest { bytes = bytes ++ rest.bytes })) (instr.Host to acts.number acts.count) running acts.stands
    ∙ acts.does (record rest { bytes = bytes ++ rest.bytes })
    ∙ ap (λ r. answered to args r (begun l.core (record rest { bytes = bytes ++ rest.bytes }))) is

-- the call has taken bytes, and goes on with its result
pub took : (old new : Loaded) (step : Step) (to n : ℕ) (args memory : List ℕ) (row : Row) (x y : Streams) → IsGoing old
    → ActsBy old to args row → DidTake args (run (on_bytes args) row old.core.memory) memory n x.input y.input
    → x.input.faults ≤ y.input.faults → MovesAlone OfInput x y → step ≡ steps.Going
    → new ≡ record old { core = giving to n (record old.core { memory = memory }) } → Performs old new step x y
took old new step to n args memory row x y going acts did grew alone on is =
    let bytes = did.bytes in
    let one : Carried old.program old.core (giving to n (record old.core { memory = memory })) x y = record {
      moved = on_descriptor 0 bytes;
      have = have_moved-input bytes x y did.has grew alone;
      state = λ rest offers.
          taken_next old to args bytes row rest (Ok (answer memory (having_taken bytes (unmoved rest)) did.given)) going.0 acts
          (did.did (unmoved rest) offers.bytes)
          ∙ ap (λ k. having_moved (giving to k (record old.core { memory = memory })) (on_descriptor 0 bytes) rest) (sym did.gives);
    } in
    rw (on, is) (one, going.0, going.1)

-- the source failed
pub failed_to_take : (old new : Loaded) (step : Step) (to : ℕ) (args : List ℕ) (row : Row) (x y : Streams) → IsGoing old
    → (acts : ActsBy old to args row) → FailedToTake (run (on_bytes args) row old.core.memory) x.input y.input
    → x.input.faults ≤ y.input.faults → MovesAlone OfInput x y → 1 ≤ asked (Some (instr.Host to acts.number acts.count)) old.core
    → step ≡ steps.Stopped stops.InputFault → new.stop ≡ Some stops.InputFault → Performs old new step x y
failed_to_take old new step to args row x y going acts failed grew alone asks stops is =
    let bytes = failed.bytes in
    let one : FailsIn OfInput old.program old.core x y = record {
      moved = on_descriptor 0 bytes;
      have = have_moved-input bytes x y failed.has grew alone;
      failed = failed.rose;
      reaches = λ rest offers. subst (λ o. 1 ≤ asked o old.core) (sym acts.stands) asks;
      front = λ rest offers.
          let from = failed.did (unmoved rest) offers.bytes in (
            on_descriptor 0 from.more,
            ap (λ s. s.world.shown) (taken_next old to args bytes row rest (Ok from.answer) going.0 acts from.is)
                ∙ (from.shown ∙ on_descriptor-append 0 bytes from.more),
          );
    } in
    rw stops (one, is)

-- what `read` does, by whether it reads from standard input
abbrev read_by : ℕ → List ℕ → ℕ → ℕ → Bool → State → State
read_by to args size n here s = answered to args (if ltb size n then Err host.Overflow else run (on_bytes args) (if here
    then read_from_input n
    else Point (1 ∷ []) [] (Gives minus_one)) s.core.memory s.world) s

read_is : (to fd d n size : ℕ) (s : State) → by_row to (fd ∷ d ∷ n ∷ []) (read size) s ≡ read_by to (fd ∷ d ∷ n ∷ []) size n (eqb (int_of fd) 0) s
read_is to fd d n size s = refl

-- from there by its other tests: that its request exceeds, and that bytes may be stored
abbrev read_done : ℕ → List ℕ → ℕ → ℕ → Bool → Bool → Bool → State → State
read_done to args d n exceeds valid valid_too s = answered to args (if exceeds then Err host.Overflow
    else and_then (valid_then valid s.core.memory) (λ k. and_then (valid_then valid_too (put (d + 0) (take n s.world.input.bytes) k))
    (λ l. Ok (answer l (taking s.world n) (Count (length (take n s.world.input.bytes))))))) s

read_anyhow : (to fd d n : ℕ) (exceeds valid valid_too : Bool) (s : State)
    → read_done to (fd ∷ d ∷ n ∷ []) d n exceeds valid valid_too s ≡ read_done to (0 ∷ d ∷ n ∷ []) d n exceeds valid valid_too s
read_anyhow to fd d n true valid valid_too s = refl
read_anyhow to fd d n false true true s = refl
read_anyhow to fd d n false true false s = refl
read_anyhow to fd d n false false valid_too s = refl

-- from standard input it does what it does from descriptor 0
pub read_here : (to fd d n size : ℕ) (s : State) → eqb (int_of fd) 0 ≡ true
    → by_row to (fd ∷ d ∷ n ∷ []) (read size) s ≡ by_row to (0 ∷ d ∷ n ∷ []) (read size) s
read_here to fd d n size s here =
    let valid = are_valid (d + 0) n && true in
    let valid_too = are_valid (d + 0) (length (take n s.world.input.bytes)) in
    read_is to fd d n size s
    ∙ ap (λ t. read_by to (fd ∷ d ∷ n ∷ []) size n t s) here
    ∙ read_anyhow to fd d n (ltb size n) valid valid_too s

-- from another descriptor it reads nothing, after its check
pub read_elsewhere : (to fd d n size : ℕ) (s : State) → eqb (int_of fd) 0 ≡ false → by_row to (fd ∷ d ∷ n ∷ []) (read size) s
    ≡ cond (ltb size n) (overflowing s) (with_core (giving to no_limit s.core) s)
read_elsewhere to fd d n size s here =
    read_is to fd d n size s ∙ ap (λ t. read_by to (fd ∷ d ∷ n ∷ []) size n t s) here ∙ go (ltb size n) where
      go : (exceeds : Bool) → answered to (fd ∷ d ∷ n ∷ []) (if exceeds then Err host.Overflow
          else Ok (answer s.core.memory s.world minus_one)) s ≡ cond exceeds (overflowing s) (with_core (giving to no_limit s.core) s)
      go true = refl
      go false = refl

-- one that takes a byte asks for one
abbrev read_ran : (d n : ℕ) → List ℕ → World → Bool → Bool → Bool → Result (Answer (List ℕ)) HostStop
read_ran d n m w exceeds valid valid_too = if exceeds then Err host.Overflow else
    and_then (valid_then valid m) (λ k. and_then (valid_then valid_too (put (d + 0) (take n w.input.bytes) k))
    (λ l. Ok (answer l (taking w n) (Count (length (take n w.input.bytes))))))

taking_some : (d n : ℕ) (m : List ℕ) (exceeds valid valid_too : Bool) → TakesFrom (0 ∷ []) quiet (read_ran d n m (offering (0 ∷ []) quiet) exceeds valid valid_too)
    → (exceeds ≡ false) × (valid ≡ true) × (1 ≤ n)
taking_some d n m true valid valid_too from = let no = from.is in absurd (cc no)
taking_some d n m false false valid_too from = let no = from.is in absurd (cc no)
taking_some d n m false true false from = let no = from.is in absurd (cc no)
taking_some d zero m false true true from =
    let no : [] ≡ (0, 0) ∷ on_descriptor 0 from.more = ap taken_by from.is ∙ from.shown in absurd (cc no) where
      taken_by : Result (Answer (List ℕ)) HostStop → Shown
      taken_by (Ok a) = a.world.shown
      taken_by (Err e) = []
taking_some d (suc n) m false true true from = (refl, refl, omega arith)

pub asks_some : (fd d n size : ℕ) (m : List ℕ) (x y : StreamState) → eqb (int_of fd) 0 ≡ true
    → FailedToTake (run (on_bytes (0 ∷ d ∷ n ∷ [])) (read size) m) x y → 1 ≤ read_asks fd d n size
asks_some fd d n size m x y here failed =
    let w = offering (0 ∷ []) quiet in
    let some = taking_some d n m (ltb size n) (are_valid (d + 0) n && true) (are_valid (d + 0) (length (take n w.input.bytes))) (failed.asks 0 quiet) in
    let within : nat_le n size ≡ true = le-leb n size (ltb-false size n some.0) in
    let valid : are_valid d n ≡ true = ap (λ a. are_valid a n) (sym (add-zero d)) ∙ true_too (are_valid (d + 0) n) some.1 in
    rw (here, within, valid) some.2 where
      true_too : (t : Bool) → (t && true) ≡ true → t ≡ true
      true_too true is = refl
      true_too false is = absurd (cc is)

-- the row of `getchar` never stops
getchar_goes : (m : List ℕ) (stop : HostStop) → ((w : World) → run (on_bytes []) getchar m w ≡ Err stop) → ⊥
getchar_goes m stop is = let no = is quiet in absurd (cc no)

-- it stops only where the source failed
pub char_failed : (m : List ℕ) (stop : HostStop) (x y : StreamState)
    → TakesAs [] (λ m. run (on_bytes []) getchar m) (m, m) (Err stop) x y → FailedToTake (run (on_bytes []) getchar m) x y
char_failed m host.InputFault x y took = took
char_failed m host.Overflow x y took = absurd (getchar_goes m host.Overflow took.0)
char_failed m host.BadAddress x y took = absurd (getchar_goes m host.BadAddress took.0)
char_failed m host.BadFormat x y took = absurd (getchar_goes m host.BadFormat took.0)
char_failed m host.SinkFault x y took = absurd (getchar_goes m host.SinkFault took.0)

-- a call that takes stops by its row, but for a source that failed
pub took_stops : (args : List ℕ) (row : List ℕ → World → Result (Answer (List ℕ)) HostStop) (memory : List ℕ × List ℕ) (stop : HostStop)
    (x y : StreamState) → (stop ≡ host.InputFault → ⊥) → TakesAs args row memory (Err stop) x y
    → ((w : World) → row memory.0 w ≡ Err stop) × (memory.1 ≡ memory.0) × (y ≡ x)
took_stops args row memory host.InputFault x y other took = absurd (other refl)
took_stops args row memory host.Overflow x y other took = took
took_stops args row memory host.BadAddress x y other took = took
took_stops args row memory host.BadFormat x y other took = took
took_stops args row memory host.SinkFault x y other took = took

-- bytes that were handed out and changed stand where they stood
front_taken : (xs ys : List ℕ) → take (length xs) (xs ++ ys) ≡ xs
front_taken [] ys = refl
front_taken (x ∷ xs) ys = ap (λ l. x ∷ l) (front_taken xs ys)

pub put_back : (n : ℕ) (new old : List ℕ) → length new ≡ n → take n (new ++ drop (length new) old) ≡ new
put_back n new old long = ap (λ k. take k (new ++ drop (length new) old)) (sym long) ∙ front_taken new (drop (length new) old)
