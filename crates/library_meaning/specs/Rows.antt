-- A row of the library: what a call reads, tests, stores and gives, in this order. Places are operands with an offset, so
-- a row names neither addresses nor objects, and has one text for both. This project's own; the rows themselves stand in
-- `Table`, each beside its function of C11, POSIX or glibc.
use Rattle.std.specs.Prelude.{ℕ, Bool, List, [], ◌∷◌, ◌++◌, take, drop, map, Result, Ok, Err, true, false, if◌then◌else◌}
use Rattle.run_meaning.specs.Runs.{on_descriptor}
use Rattle.run_meaning.specs.Worlds.{World}
use Rattle.library_meaning.specs.Scan.{and_then, Found, Pair}

-- `count` bytes, `offset` behind an operand
pub record Stretch : Type 0 where
  pub operand : ℕ
  pub offset : ℕ
  pub count : ℕ

abbrev pub stretch : ℕ → ℕ → ℕ → Stretch
stretch i k n = record { operand = i; offset = k; count = n }

-- a stretch that is read, or written
pub record Touched : Type 0 where
  pub written : Bool
  pub at : Stretch

-- what is stored: these bytes, or the cells of a stretch as they are
pub data Stored : Type 0 where
  These : (bytes : List ℕ) → Stored
  Cells : (from : Stretch) → Stored

-- what a call gives: a number, a place behind an operand with what is known of that pointer, such a place of which nothing
-- is known, or null
pub data Given : Type 0 where
  Count : (n : ℕ) → Given
  Behind : (operand : ℕ) → (offset : ℕ) → Given
  Forgot : (operand : ℕ) → (offset : ℕ) → Given
  Nowhere : Given

pub data Row : Type 0 where
  -- the call ends
  Gives : (value : Given) → Row
  Malformed : Row
  -- the check of a call: it exceeds, or goes on. Every call comes to exactly one, unless it stops before: behind the acts that tell
  -- its request, or first of all where nothing is requested
  Check : (exceeds : Bool) → (next : Row) → Row
  -- an operand's number
  Ask : (operand : ℕ) → (next : ℕ → Row) → Row
  -- cell by cell, up to a byte that stops, at most the stretch
  Text : (stops : ℕ → Bool) → (from : Stretch) → (next : Found → Row) → Row
  -- all bytes of these stretches, one behind the other
  Bytes : (from : List Stretch) → (next : List ℕ → Row) → Row
  -- two places cell by cell, up to the first difference or NUL
  Both : (left right : ℕ) → (next : Pair → Row) → Row
  -- the pointers that a call is given, and those of them that it will touch: none may be dead, and of the others none null.
  -- Bytes know neither
  Point : (pointers touched : List ℕ) → (next : Row) → Row
  -- these stretches are touched by one operation
  Touch : (all : List Touched) → (next : Row) → Row
  -- what will be stored may not meet what was read, and both are touched. Bytes refuse only that they meet, and only where
  -- it is strict
  Apart : (strict : Bool) → (to : Stretch) → (reads : List Stretch) → (next : Row) → Row
  Store : (operand offset : ℕ) → (what : Stored) → (next : Row) → Row
  -- bytes go to a descriptor; at most so many come from descriptor 0
  Show : (descriptor : ℕ) → (bytes : List ℕ) → (next : Row) → Row
  Take : (count : ℕ) → (next : List ℕ → Row) → Row

-- a call that ended well
pub record Answer (M : Type 0) : Type 0 where
  pub memory : M
  pub world : World
  pub given : Given

-- what a memory does with each act
pub record Side (M E : Type 0) : Type 0 where
  pub number : ℕ → Result ℕ E
  pub text : M → (ℕ → Bool) → Stretch → Result Found E
  pub bytes : M → List Stretch → Result (List ℕ) E
  pub both : M → ℕ → ℕ → Result Pair E
  pub point : M → List ℕ → List ℕ → Result M E
  pub touch : M → List Touched → Result M E
  pub apart : M → Bool → Stretch → List Stretch → Result M E
  pub store : M → ℕ → ℕ → Stored → Result M E
  pub overflow : E
  pub bad_format : E

abbrev pub answer : {M : Type 0} → M → World → Given → Answer M
answer m w g = record { memory = m; world = w; given = g }

-- a world that shows these bytes on a descriptor too, and one in which so many were taken from descriptor 0
abbrev pub showing : World → ℕ → List ℕ → World
showing w descriptor bytes = record w { shown = w.shown ++ on_descriptor descriptor bytes }

abbrev pub taking : World → ℕ → World
taking w n = record w {
  input = record w.input { bytes = drop n w.input.bytes };
  shown = w.shown ++ on_descriptor 0 (take n w.input.bytes);
}

-- what a call does: its answer, or why it stops
abbrev pub run : {M E : Type 0} → Side M E → Row → M → World → Result (Answer M) E
run side (Gives g) m w = Ok (answer m w g)
run side Malformed m w = Err side.bad_format
run side (Check exceeds next) m w = if exceeds then Err side.overflow else run side next m w
run side (Ask i next) m w = and_then (side.number i) (λ n. run side (next n) m w)
run side (Text stops from next) m w = and_then (side.text m stops from) (λ f. run side (next f) m w)
run side (Bytes from next) m w = and_then (side.bytes m from) (λ bs. run side (next bs) m w)
run side (Both a b next) m w = and_then (side.both m a b) (λ p. run side (next p) m w)
run side (Point pointers touched next) m w = and_then (side.point m pointers touched) (λ k. run side next k w)
run side (Touch all next) m w = and_then (side.touch m all) (λ k. run side next k w)
run side (Apart strict to reads next) m w = and_then (side.apart m strict to reads) (λ k. run side next k w)
run side (Store i k what next) m w = and_then (side.store m i k what) (λ l. run side next l w)
run side (Show d bs next) m w = run side next m (showing w d bs)
run side (Take n next) m w = run side (next (take n w.input.bytes)) m (taking w n)

-- whether a call exceeds: what its check says, where no act before it stops the call
abbrev pub request : {M E : Type 0} → Side M E → Row → M → World → Result Bool E
request side (Gives g) m w = Ok false
request side Malformed m w = Err side.bad_format
request side (Check exceeds next) m w = Ok exceeds
request side (Ask i next) m w = and_then (side.number i) (λ n. request side (next n) m w)
request side (Text stops from next) m w = and_then (side.text m stops from) (λ f. request side (next f) m w)
request side (Bytes from next) m w = and_then (side.bytes m from) (λ bs. request side (next bs) m w)
request side (Both a b next) m w = and_then (side.both m a b) (λ p. request side (next p) m w)
request side (Point pointers touched next) m w = and_then (side.point m pointers touched) (λ k. request side next k w)
request side (Touch all next) m w = and_then (side.touch m all) (λ k. request side next k w)
request side (Apart strict to reads next) m w = and_then (side.apart m strict to reads) (λ k. request side next k w)
request side (Store i k what next) m w = and_then (side.store m i k what) (λ l. request side next l w)
request side (Show d bs next) m w = request side next m (showing w d bs)
request side (Take n next) m w = request side (next (take n w.input.bytes)) m (taking w n)
