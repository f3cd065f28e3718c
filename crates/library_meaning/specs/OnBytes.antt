-- The rows over the machine's bytes, where an operand is a number. This project's own.
use Rattle.std.specs.Prelude.{◌≡◌, ℕ, ◌+◌, ◌≤◌, Bool, true, false, not, ◌&&◌, ◌||◌, List, [], ◌∷◌, ◌++◌, length, take, drop, get_or, Result, Ok, Err, eqb, leb, if◌then◌else◌}
use Rattle.run_meaning.specs.Worlds.{World}
use Rattle.library_meaning.specs.Scan.{Found, scan, scan_both, Pair, and_then}
use Rattle.library_meaning.specs.Memory.{first_valid, are_valid, bytes_at, put}
use Rattle.library_meaning.specs.Rows.{Side, Stretch, Touched, Stored, These, Cells, Given, Count, Behind, Forgot, Nowhere, Row, Answer, run}
use Rattle.library_meaning.specs.declared.stops.HostStop.{HostStop}
use Rattle.library_meaning.specs.declared.stops.HostStop.TheVariants as host

-- the bytes that may be touched from an address on
abbrev pub bytes_from : List ℕ → ℕ → List ℕ
bytes_from m a = if leb first_valid a then drop a m else []

abbrev pub address : List ℕ → ℕ → ℕ → ℕ
address args i k = get_or args i 0 + k

abbrev pub byte_look : ℕ → Result ℕ HostStop
byte_look b = Ok b

abbrev pub is_valid : List ℕ → Stretch → Bool
is_valid args s = are_valid (address args s.operand s.offset) s.count

abbrev pub all_valid : List ℕ → List Touched → Bool
all_valid args [] = true
all_valid args (t ∷ ts) = is_valid args t.at && all_valid args ts

-- the stretches meet, where each has a byte
abbrev pub meets : ℕ → ℕ → ℕ → ℕ → Bool
meets a n b k = not (eqb n 0) && (not (eqb k 0) && (not (leb (a + n) b) && not (leb (b + k) a)))

abbrev pub meets_any : List ℕ → Stretch → List Stretch → Bool
meets_any args to [] = false
meets_any args to (s ∷ ss) =
    meets (address args to.operand to.offset) to.count (address args s.operand s.offset) s.count || meets_any args to ss

abbrev pub valid_then : {X : Type 0} → Bool → X → Result X HostStop
valid_then t x = if t then Ok x else Err host.BadAddress

abbrev pub flat_bytes : List ℕ → List ℕ → List Stretch → Result (List ℕ) HostStop
flat_bytes args m [] = Ok []
flat_bytes args m (s ∷ ss) =
    and_then (valid_then (is_valid args s) (bytes_at m (address args s.operand s.offset) s.count)) (λ bs. and_then (flat_bytes args m ss) (λ more. Ok (bs ++ more)))

abbrev pub flat_store : List ℕ → List ℕ → ℕ → ℕ → Stored → Result (List ℕ) HostStop
flat_store args m i k (These bs) = valid_then (are_valid (address args i k) (length bs)) (put (address args i k) bs m)
flat_store args m i k (Cells s) =
    valid_then (are_valid (address args i k) s.count && is_valid args s) (put (address args i k) (bytes_at m (address args s.operand s.offset) s.count) m)

-- args are the operands, as many as the call has
abbrev pub on_bytes : List ℕ → Side (List ℕ) HostStop
on_bytes args = record {
  number = λ i. Ok (get_or args i 0);
  text = λ m stops from. scan byte_look host.BadAddress stops from.count (bytes_from m (address args from.operand from.offset));
  bytes = flat_bytes args;
  both = λ m a b. scan_both byte_look host.BadAddress (bytes_from m (address args a 0)) (bytes_from m (address args b 0));
  point = λ m pointers touched. Ok m;
  touch = λ m all. valid_then (all_valid args all) m;
  apart = λ m strict to reads. valid_then (not (strict && meets_any args to reads)) m;
  store = flat_store args;
  overflow = host.Overflow;
  bad_format = host.BadFormat;
}

-- the number that a call gives
abbrev pub number_of : List ℕ → Given → ℕ
number_of args (Count n) = n
number_of args (Behind i k) = address args i k
number_of args (Forgot i k) = address args i k
number_of args Nowhere = 0

-- nothing is read or shown
abbrev pub quiet : World
quiet = record { input = record { bytes = []; answers = [] }; shown = [] }

-- a call has done what its row says; where it stops, memory is as it was
abbrev pub Does : List ℕ → Result (Answer (List ℕ)) HostStop → List ℕ → List ℕ → Result ℕ HostStop → Type 0
Does args (Ok a) old new result = (result ≡ Ok (number_of args a.given)) × (new ≡ a.memory)
Does args (Err e) old new result = (result ≡ Err e) × (new ≡ old)

-- a call that changes no memory
abbrev pub Reads : List ℕ → Result (Answer (List ℕ)) HostStop → List ℕ → Result ℕ HostStop → Type 0
Reads args r m result = Does args r m m result
