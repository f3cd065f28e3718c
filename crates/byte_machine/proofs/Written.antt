-- Calls that write on a sink, by their rows.
use Rattle.std.proofs.Common.{◌≡◌, ◌≢◌, ℕ, ◌-◌, ◌≤◌, Bool, true, false, List, [], ◌∷◌, ◌++◌, None, Result, Ok, Err, refl, sym, ◌∙◌, ap, subst, append-nil, append_assoc, arith}
use Rattle.std.specs.Prelude.{eqb, if◌then◌else◌}
use Rattle.std.specs.Bool.{⊤}
use Rattle.fc_base.specs.Outside.{Appends, AppendsFront, Takes, IsAtEnd}
use Rattle.fc_base.specs.declared.levels.End.{End}
use Rattle.run_meaning.specs.Runs.{on_descriptor, bytes_on}
use Rattle.run_meaning.specs.Worlds.{World, Input, AreBytes}
use Rattle.run_meaning.specs.Objects.{Streams, StreamState, streams, state_of, descriptor_of, NoneFell}
use Rattle.run_meaning.specs.declared.streams.Stream.{Stream}
use Rattle.run_meaning.specs.declared.streams.Stream.TheVariants.{Input as OfInput, Out as OfOut, Err as OfErr}
use Rattle.run_meaning.proofs.Moved.{bytes_on-same, bytes_on-other, takes-none, appends-none}
use Rattle.bm_isa.specs.declared.instructions.Instr.TheVariants as instr
use Rattle.library_meaning.specs.Scan.{and_then, scan, Found, at_limit, stopped_by, after_byte}
use Rattle.library_meaning.specs.Rows.{Row, Gives, Malformed, Check, Ask, Text, Bytes, Both, Point, Touch, Apart, Store, Show, Take, Stretch, Answer, run, showing}
use Rattle.library_meaning.specs.OnBytes.{on_bytes, byte_look, flat_bytes, valid_then, is_valid, address, number_of, quiet}
use Rattle.library_meaning.specs.Memory.{bytes_at}
use Rattle.library_meaning.specs.OnStreams.{Writes, moved}
use Rattle.library_meaning.specs.declared.stops.HostStop.{HostStop}
use Rattle.library_meaning.specs.declared.stops.HostStop.TheVariants as host
use Rattle.fd_chk.proofs.Written.{moved_is}
use Rattle.byte_machine.specs.State.{State, Program, giving, ending, with_core, stopping, answered, by_row, next}
use Rattle.byte_machine.specs.Opening.{begun}
use Rattle.byte_machine.specs.Machines.{Loaded, Reaches, fault_of, moved_next}
use Rattle.byte_machine.specs.Performing.{IsGoing, HaveMoved, Carried, FailsIn, Performs, IsSink, MovesAlone, ShowsOn, ActsBy, HasWritten, behind, having_moved, stopped_with}
use Rattle.byte_machine.specs.declared.machine.Stop.TheVariants as stops
use Rattle.byte_machine.specs.declared.machine.Step.{Step}
use Rattle.byte_machine.specs.declared.machine.Step.TheVariants as steps
use Rattle.byte_machine.proofs.Worlds.{May, carried_to, run_carried, with_input, respects_input}
use Rattle.byte_machine.proofs.Moving.{on_descriptor-append}
use Rattle.byte_machine.proofs.Steps.{next_is, ended_there}

-- a row that shows on one descriptor takes nothing
may_show : (d : ℕ) (row : Row) → ShowsOn d row → May ⊤ ⊥ row
may_show d (Gives g) shows = tt
may_show d Malformed shows = tt
may_show d (Check true next) shows = absurd shows
may_show d (Check false next) shows = may_show d next shows
may_show d (Ask i next) shows = λ n. may_show d (next n) (shows n)
may_show d (Text stops from next) shows = λ f. may_show d (next f) (shows f)
may_show d (Bytes from next) shows = λ bs. may_show d (next bs) (shows bs)
may_show d (Both a b next) shows = absurd shows
may_show d (Point pointers touched next) shows = may_show d next shows
may_show d (Touch all next) shows = absurd shows
may_show d (Apart strict to reads next) shows = absurd shows
may_show d (Store i k what next) shows = absurd shows
may_show d (Show e bs next) shows = (tt, may_show d next shows.1)
may_show d (Take n next) shows = absurd shows

-- the stops of rows that only read and show
abbrev IsBad : HostStop → Type 0
IsBad host.BadAddress = ⊤
IsBad host.BadFormat = ⊤
IsBad host.Overflow = ⊥
IsBad host.InputFault = ⊥
IsBad host.SinkFault = ⊥

abbrev StopsBadly : {X : Type 0} → Result X HostStop → Type 0
StopsBadly (Ok x) = ⊤
StopsBadly (Err e) = IsBad e

-- such a row leaves memory and shows bytes on its descriptor, or it stops so
abbrev Shows : ℕ → List ℕ → World → Result (Answer (List ℕ)) HostStop → Type 0
Shows d m w (Ok a) = (a.memory ≡ m) × ((bytes : List ℕ) × (a.world ≡ showing w d bytes))
Shows d m w (Err e) = IsBad e

then_shows : {X : Type 0} (d : ℕ) (m : List ℕ) (w : World) (x : Result X HostStop) (f : X → Result (Answer (List ℕ)) HostStop) → StopsBadly x
    → ((y : X) → Shows d m w (f y)) → Shows d m w (and_then x f)
then_shows d m w (Ok y) f bad next = next y
then_shows d m w (Err e) f bad next = bad

then_ok : {X Y : Type 0} (x : Result X HostStop) (h : X → Y) → StopsBadly x → StopsBadly (and_then x (λ y. Ok (h y)))
then_ok (Ok y) h bad = tt
then_ok (Err e) h bad = bad

scanned : (byte : ℕ) (rest : Result Found HostStop) → StopsBadly rest → (at_end stops : Bool)
    → StopsBadly (if at_end then Ok at_limit else (if stops then Ok (stopped_by byte) else and_then rest (λ f. Ok (after_byte byte f))))
scanned byte rest bad true stops = tt
scanned byte rest bad false true = tt
scanned byte rest bad false false = then_ok rest (λ f. after_byte byte f) bad

outside : (at_end : Bool) → StopsBadly (if at_end then Ok at_limit else Err host.BadAddress)
outside true = tt
outside false = tt

scan_stops : (stops : ℕ → Bool) (limit : ℕ) (bytes : List ℕ) → StopsBadly (scan byte_look host.BadAddress stops limit bytes)
scan_stops stops limit [] = outside (eqb limit 0)
scan_stops stops limit (byte ∷ bytes) =
    scanned byte (scan byte_look host.BadAddress stops (limit - 1) bytes) (scan_stops stops (limit - 1) bytes) (eqb limit 0) (stops byte)

then_read : (t : Bool) (bytes : List ℕ) (rest : Result (List ℕ) HostStop) → StopsBadly rest
    → StopsBadly (and_then (valid_then t bytes) (λ bs. and_then rest (λ more. Ok (bs ++ more))))
then_read true bytes rest bad = then_ok rest (λ more. bytes ++ more) bad
then_read false bytes rest bad = tt

bytes_stop : (args m : List ℕ) (from : List Stretch) → StopsBadly (flat_bytes args m from)
bytes_stop args m [] = tt
bytes_stop args m (s ∷ ss) =
    then_read (is_valid args s) (bytes_at m (address args s.operand s.offset) s.count) (flat_bytes args m ss) (bytes_stop args m ss)

-- what is shown behind more is shown
shows_behind : (d : ℕ) (bytes m : List ℕ) (w : World) (r : Result (Answer (List ℕ)) HostStop) → Shows d m (showing w d bytes) r → Shows d m w r
shows_behind d bytes m w (Ok a) shows = (
  shows.0,
  (
    bytes ++ shows.1.0,
    shows.1.1
        ∙ ap (λ shown. record w { shown = shown })
        (append_assoc w.shown (on_descriptor d bytes) (on_descriptor d shows.1.0)
        ∙ ap (λ l. w.shown ++ l) (sym (on_descriptor-append d bytes shows.1.0))),
  ),
)
shows_behind d bytes m w (Err e) shows = shows

run_shows : (args : List ℕ) (d : ℕ) (row : Row) → ShowsOn d row → (m : List ℕ) (w : World) → Shows d m w (run (on_bytes args) row m w)
run_shows args d (Gives g) shows m w = (refl, ([], ap (λ shown. record w { shown = shown }) (sym (append-nil w.shown))))
run_shows args d Malformed shows m w = tt
run_shows args d (Check true next) shows m w = absurd shows
run_shows args d (Check false next) shows m w = run_shows args d next shows m w
run_shows args d (Ask i next) shows m w = run_shows args d (next _) (shows _) m w
run_shows args d (Text stops from next) shows m w =
    then_shows d m w _ (λ f. run (on_bytes args) (next f) m w) (scan_stops stops from.count _) (λ f. run_shows args d (next f) (shows f) m w)
run_shows args d (Bytes from next) shows m w =
    then_shows d m w (flat_bytes args m from) (λ bs. run (on_bytes args) (next bs) m w) (bytes_stop args m from)
    (λ bs. run_shows args d (next bs) (shows bs) m w)
run_shows args d (Both a b next) shows m w = absurd shows
run_shows args d (Point pointers touched next) shows m w = run_shows args d next shows m w
run_shows args d (Touch all next) shows m w = absurd shows
run_shows args d (Apart strict to reads next) shows m w = absurd shows
run_shows args d (Store i k what next) shows m w = absurd shows
run_shows args d (Show e bs next) shows m w =
    subst (λ e. Shows d m w (run (on_bytes args) next m (showing w e bs))) (sym shows.0)
    (shows_behind d bs m w (run (on_bytes args) next m (showing w d bs)) (run_shows args d next shows.1 m (showing w d bs)))
run_shows args d (Take n next) shows m w = absurd shows

-- what such a row does to a machine, by what it does where nothing is there to take
pub row_does : (l : Loaded) (to d : ℕ) (args : List ℕ) (row : Row) (input : Input) (ran : Result (Answer (List ℕ)) HostStop) → ShowsOn d row
    → run (on_bytes args) row l.core.memory quiet ≡ ran
    → by_row to args row (begun l.core input) ≡ answered to args (carried_to (with_input input) ran) (begun l.core input)
row_does l to d args row input ran shows is =
    ap (λ r. answered to args r (begun l.core input))
    (run_carried ⊤ ⊥ (with_input input) (respects_input input) (on_bytes args) row (may_show d row shows) l.core.memory quiet
    ∙ ap (carried_to (with_input input)) is)

-- a stream that is as it was
same_told : (which : Stream) (x y : Streams) → IsSink which → MovesAlone which x y → x.input.told ≡ None → IsAtEnd y.input.told
same_told OfInput x y sink alone none = absurd sink
same_told OfOut x y sink alone none = subst (λ (s : StreamState). IsAtEnd s.told) (sym alone.0) (subst IsAtEnd (sym none) tt)
same_told OfErr x y sink alone none = subst (λ (s : StreamState). IsAtEnd s.told) (sym alone.0) (subst IsAtEnd (sym none) tt)

pub same_faults : (a b : StreamState) → b ≡ a → a.faults ≤ b.faults
same_faults a b same = subst (λ (s : StreamState). a.faults ≤ s.faults) (sym same) (omega arith)

same_taken : (a b : StreamState) → b ≡ a → Takes [] a.told b.told
same_taken a b same = subst (λ (s : StreamState). Takes [] a.told s.told) (sym same) (takes-none a.told)

pub same_written : (a b : StreamState) → b ≡ a → Appends [] a.told b.told
same_written a b same = subst (λ (s : StreamState). Appends [] a.told s.told) (sym same) (appends-none a.told)

-- bytes that were written on a sink
pub have_moved-on : (which : Stream) (bytes : List ℕ) (x y : Streams) → IsSink which → MovesAlone which x y
    → Appends bytes (state_of which x).told (state_of which y).told → (state_of which x).faults ≤ (state_of which y).faults
    → HaveMoved (on_descriptor (descriptor_of which) bytes) x y
have_moved-on OfInput bytes x y sink alone appended grew = absurd sink
have_moved-on OfOut bytes x y sink alone appended grew = record {
  moves = record {
    taken = subst (λ b. Takes b x.input.told y.input.told) (sym (bytes_on-other 0 1 bytes refl)) (same_taken x.input y.input alone.0);
    on_out = subst (λ b. Appends b x.out.told y.out.told) (sym (bytes_on-same 1 bytes refl)) appended;
    on_err = subst (λ b. Appends b x.err.told y.err.told) (sym (bytes_on-other 2 1 bytes refl)) (same_written x.err y.err alone.1);
  };
  fell = fell;
  are_bytes = subst AreBytes (sym (bytes_on-other 0 1 bytes refl)) tt;
  untold = same_told OfOut x y tt alone;
} where
  fell : NoneFell x y
  fell OfInput = same_faults x.input y.input alone.0
  fell OfOut = grew
  fell OfErr = same_faults x.err y.err alone.1
have_moved-on OfErr bytes x y sink alone appended grew = record {
  moves = record {
    taken = subst (λ b. Takes b x.input.told y.input.told) (sym (bytes_on-other 0 2 bytes refl)) (same_taken x.input y.input alone.0);
    on_out = subst (λ b. Appends b x.out.told y.out.told) (sym (bytes_on-other 1 2 bytes refl)) (same_written x.out y.out alone.1);
    on_err = subst (λ b. Appends b x.err.told y.err.told) (sym (bytes_on-same 2 bytes refl)) appended;
  };
  fell = fell;
  are_bytes = subst AreBytes (sym (bytes_on-other 0 2 bytes refl)) tt;
  untold = same_told OfErr x y tt alone;
} where
  fell : NoneFell x y
  fell OfInput = same_faults x.input y.input alone.0
  fell OfOut = same_faults x.out y.out alone.1
  fell OfErr = grew

-- bytes on a sink take none of the input
behind_sink : (which : Stream) (bytes : List ℕ) (rest : Input) → IsSink which → behind (on_descriptor (descriptor_of which) bytes) rest ≡ rest
behind_sink OfInput bytes rest sink = absurd sink
behind_sink OfOut bytes rest sink = ap (λ (b : List ℕ). record rest { bytes = b ++ rest.bytes }) (bytes_on-other 0 1 bytes refl)
behind_sink OfErr bytes rest sink = ap (λ (b : List ℕ). record rest { bytes = b ++ rest.bytes }) (bytes_on-other 0 2 bytes refl)

-- an instruction that shows bytes on a sink reaches it
reaches_sink : (which : Stream) (bytes : List ℕ) (program : Program) (s : State) → IsSink which
    → moved_next program s ≡ on_descriptor (descriptor_of which) bytes → bytes ≢ [] → Reaches which program s
reaches_sink OfInput bytes program s sink comes some = absurd sink
reaches_sink OfOut bytes program s sink comes some = λ none. some (sym (bytes_on-same 1 bytes refl) ∙ ap (bytes_on 1) (sym comes) ∙ none)
reaches_sink OfErr bytes program s sink comes some = λ none. some (sym (bytes_on-same 2 bytes refl) ∙ ap (bytes_on 2) (sym comes) ∙ none)

-- no stream has changed
all_same : (which : Stream) (x y : Streams) → MovesAlone which x y → state_of which y ≡ state_of which x → y ≡ x
all_same OfInput x y alone same =
    ap (λ s. streams s y.out y.err) same ∙ ap (λ s. streams x.input s y.err) alone.0 ∙ ap (λ s. streams x.input x.out s) alone.1
all_same OfOut x y alone same =
    ap (λ s. streams s y.out y.err) alone.0 ∙ ap (λ s. streams x.input s y.err) same ∙ ap (λ s. streams x.input x.out s) alone.1
all_same OfErr x y alone same =
    ap (λ s. streams s y.out y.err) alone.0 ∙ ap (λ s. streams x.input s y.err) alone.1 ∙ ap (λ s. streams x.input x.out s) same

-- a machine that stopped at a fault of a stream
failed_there : (which : Stream) (old new : Loaded) (step : Step) (x y : Streams) → step ≡ steps.Stopped (fault_of which)
    → new ≡ stopped_with (fault_of which) old → FailsIn which old.program old.core x y → Performs old new step x y
failed_there OfInput old new step x y stops is fails = rw (stops, is) (fails, refl)
failed_there OfOut old new step x y stops is fails = rw (stops, is) (fails, refl)
failed_there OfErr old new step x y stops is fails = rw (stops, is) (fails, refl)

-- the state behind a call that shows bytes on a sink
shown_next : (l : Loaded) (to d : ℕ) (args bytes : List ℕ) (row : Row) (a : Answer (List ℕ)) (input : Input) → l.core.stopped ≡ None
    → (acts : ActsBy l to args row) → ShowsOn d row → run (on_bytes args) row l.core.memory quiet ≡ Ok a → a.memory ≡ l.core.memory
    → a.world ≡ showing quiet d bytes
    → next l.program (begun l.core input) ≡ having_moved (giving to (number_of args a.given) l.core) (on_descriptor d bytes) input
shown_next l to d args bytes row a input running acts shows is memory world =
    next_is l.program (begun l.core input) (instr.Host to acts.number acts.count) running acts.stands
    ∙ acts.does input
    ∙ row_does l to d args row input (Ok a) shows is
    ∙ ap (λ m. record {
      core = giving to (number_of args a.given) (record l.core { memory = m });
      world = with_input input a.world;
    }) memory
    ∙ ap (λ w. record { core = giving to (number_of args a.given) l.core; world = with_input input w }) world

moved_bytes : (d : ℕ) (bytes : List ℕ) (w : World) → w ≡ showing quiet d bytes → moved w.shown ≡ bytes
moved_bytes d bytes w is = ap (λ (v : World). moved v.shown) is ∙ moved_is d bytes

-- the call has written all that it shows
pub written : (old new : Loaded) (step : Step) (to : ℕ) (which : Stream) (number : ℕ) (x y : Streams) → IsGoing old
    → HasWritten old to which (Ok number) x y → step ≡ steps.Going → new ≡ record old { core = giving to number old.core }
    → Performs old new step x y
written old new step to which number x y going h on is =
    go (run (on_bytes h.args) h.row old.core.memory quiet) refl
    (run_shows h.args (descriptor_of which) h.row h.shows old.core.memory quiet) h.wrote where
      go : (ran : Result (Answer (List ℕ)) HostStop) → run (on_bytes h.args) h.row old.core.memory quiet ≡ ran
          → Shows (descriptor_of which) old.core.memory quiet ran
          → Writes h.args ran (Ok number) (state_of which x) (state_of which y) → Performs old new step x y
      go (Ok a) ran shows wrote =
          let bytes = shows.1.0 in
          let d = descriptor_of which in
          let one : Carried old.program old.core (giving to number old.core) x y = record {
            moved = on_descriptor d bytes;
            have = have_moved-on which bytes x y h.sink h.alone
                (subst (λ b. Appends b (state_of which x).told (state_of which y).told) (moved_bytes d bytes a.world shows.1.1) wrote.1) h.grew;
            state = λ rest offers.
                ap (λ i. next old.program (begun old.core i)) (behind_sink which bytes rest h.sink)
                ∙ shown_next old to d h.args bytes h.row a rest going.0 h.acts h.shows ran shows.0 shows.1.1
                ∙ ap (λ n. having_moved (giving to n old.core) (on_descriptor d bytes) rest) (sym wrote.0);
          } in
          rw (on, is) (one, going.0, going.1)
      go (Err e) ran shows wrote = let no = wrote.0 in absurd (cc no)

-- the sink failed at a front of it
pub written_failed : (old new : Loaded) (step : Step) (to : ℕ) (which : Stream) (x y : Streams) → IsGoing old
    → HasWritten old to which (Err host.SinkFault) x y → step ≡ steps.Stopped (fault_of which) → new ≡ stopped_with (fault_of which) old
    → Performs old new step x y
written_failed old new step to which x y going h stops is =
    go (run (on_bytes h.args) h.row old.core.memory quiet) refl
    (run_shows h.args (descriptor_of which) h.row h.shows old.core.memory quiet) h.wrote where
      go : (ran : Result (Answer (List ℕ)) HostStop) → run (on_bytes h.args) h.row old.core.memory quiet ≡ ran
          → Shows (descriptor_of which) old.core.memory quiet ran
          → Writes h.args ran (Err host.SinkFault) (state_of which x) (state_of which y) → Performs old new step x y
      go (Ok a) ran shows wrote =
          let bytes = shows.1.0 in
          let d = descriptor_of which in
          let same = moved_bytes d bytes a.world shows.1.1 in
          let some = subst (λ b. b ≢ []) same wrote.0 in
          let front = subst (λ b. AppendsFront b (state_of which x).told (state_of which y).told) same wrote.1 in
          let comes : (rest : Input) → moved_next old.program (begun old.core (behind (on_descriptor d front.0) rest)) ≡ on_descriptor d bytes =
          λ rest. ap (λ i. moved_next old.program (begun old.core i)) (behind_sink which front.0 rest h.sink)
          ∙ ap (λ s. s.world.shown) (shown_next old to d h.args bytes h.row a rest going.0 h.acts h.shows ran shows.0 shows.1.1) in
          failed_there which old new step x y stops is (record {
            moved = on_descriptor d front.0;
            have = have_moved-on which front.0 x y h.sink h.alone front.2 h.grew;
            failed = wrote.2;
            reaches = λ rest offers. reaches_sink which bytes old.program (begun old.core (behind (on_descriptor d front.0) rest)) h.sink
                (comes rest) some;
            front = λ rest offers. (
              on_descriptor d front.1.0,
              comes rest ∙ ap (on_descriptor d) front.1.1 ∙ on_descriptor-append d front.0 front.1.0,
            );
          })
      go (Err e) ran shows wrote = let one : e ≡ host.SinkFault = (let no = wrote.0 in cc no) in absurd (subst IsBad one shows)

-- the call stopped, and nothing was written
pub written_none : (old new : Loaded) (step : Step) (to : ℕ) (which : Stream) (stop : HostStop) (end : End) (x y : Streams) → IsGoing old
    → HasWritten old to which (Err stop) x y
    → ((args : List ℕ) (a : Answer (List ℕ)) (u v : StreamState) → Writes args (Ok a) (Err stop) u v → ⊥)
    → ((s : State) → stopping stop s ≡ with_core (ending end s.core) s)
    → step ≡ steps.Stopped (stops.Ended end) → new ≡ stopped_with (stops.Ended end) old → Performs old new step x y
written_none old new step to which stop end x y going h never ends stops is =
    go (run (on_bytes h.args) h.row old.core.memory quiet) refl h.wrote where
      go : (ran : Result (Answer (List ℕ)) HostStop) → run (on_bytes h.args) h.row old.core.memory quiet ≡ ran
          → Writes h.args ran (Err stop) (state_of which x) (state_of which y) → Performs old new step x y
      go (Ok a) ran wrote = absurd (never h.args a (state_of which x) (state_of which y) wrote)
      go (Err e) ran wrote =
          let one : e ≡ stop = (let same = wrote.0 in cc same) in
          subst (λ s. Performs old new step x s) (sym (all_same which x y h.alone wrote.1))
          (ended_there old new step (instr.Host to h.acts.number h.acts.count) end x going h.acts.stands stops is (λ input.
          h.acts.does input ∙ row_does old to (descriptor_of which) h.args h.row input (Err e) h.shows ran
          ∙ ap (λ z. stopping z (begun old.core input)) one ∙ ends (begun old.core input)))

-- no such call exceeds a size, or takes
pub never_exceeds : (old : Loaded) (to : ℕ) (which : Stream) (stop : HostStop) (x y : Streams) → HasWritten old to which (Err stop) x y
    → (IsBad stop → ⊥) → ((args : List ℕ) (a : Answer (List ℕ)) (u v : StreamState) → Writes args (Ok a) (Err stop) u v → ⊥) → ⊥
never_exceeds old to which stop x y h good never =
    go (run (on_bytes h.args) h.row old.core.memory quiet)
    (run_shows h.args (descriptor_of which) h.row h.shows old.core.memory quiet) h.wrote where
      go : (ran : Result (Answer (List ℕ)) HostStop) → Shows (descriptor_of which) old.core.memory quiet ran
          → Writes h.args ran (Err stop) (state_of which x) (state_of which y) → ⊥
      go (Ok a) shows wrote = never h.args a (state_of which x) (state_of which y) wrote
      go (Err e) shows wrote = let one : e ≡ stop = (let same = wrote.0 in cc same) in good (subst IsBad one shows)

-- what was written by arguments and a row that the machine has
abbrev pub WritesBy : (Loaded → List ℕ) → (Loaded → Row) → Result ℕ HostStop → StreamState → StreamState → Loaded → Type 0
WritesBy args row result x y l = Writes (args l) (run (on_bytes (args l)) (row l) l.core.memory quiet) result x y

pub wrote_by : (args : Loaded → List ℕ) (row : Loaded → Row) (result : Result ℕ HostStop) (x y : StreamState) (l l' : Loaded) (m : List ℕ)
    → m ≡ l.core.memory → l ≡ l' → Writes (args l) (run (on_bytes (args l)) (row l) m quiet) result x y → WritesBy args row result x y l'
wrote_by args row result x y l l' m held same w =
    subst (WritesBy args row result x y) same (subst (λ m. Writes (args l) (run (on_bytes (args l)) (row l) m quiet) result x y) held w)

-- a call that has written on standard output, or error, what its row says
pub on_out : (l : Loaded) (to : ℕ) (args : List ℕ) (row : Row) (result : Result ℕ HostStop) (input err x y : StreamState) → ActsBy l to args row
    → ShowsOn 1 row → Writes args (run (on_bytes args) row l.core.memory quiet) result x y → x.faults ≤ y.faults
    → HasWritten l to OfOut result (streams input x err) (streams input y err)
on_out l to args row result input err x y acts shows wrote grew =
    record { args = args; row = row; acts = acts; sink = tt; shows = shows; wrote = wrote; grew = grew; alone = (refl, refl) }

pub on_err : (l : Loaded) (to : ℕ) (args : List ℕ) (row : Row) (result : Result ℕ HostStop) (input out x y : StreamState) → ActsBy l to args row
    → ShowsOn 2 row → Writes args (run (on_bytes args) row l.core.memory quiet) result x y → x.faults ≤ y.faults
    → HasWritten l to OfErr result (streams input out x) (streams input out y)
on_err l to args row result input out x y acts shows wrote grew =
    record { args = args; row = row; acts = acts; sink = tt; shows = shows; wrote = wrote; grew = grew; alone = (refl, refl) }
