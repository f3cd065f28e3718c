-- What the rows that take come to over bytes.
use Rattle.std.proofs.Common.{◌≡◌, ℕ, ◌+◌, ◌-◌, ◌^◌, ◌<◌, ◌≤◌, Bool, true, false, ◌&&◌, ◌||◌, eqb, leb, ltb, ⊎_elim, List, [], ◌∷◌, ◌++◌, length, get_or, take, drop, Option, None, Some, Ok, refl, sym, ap, ◌∙◌, subst, append-nil, arith}
use Rattle.std.proofs.Math.Nat.{add-zero}
use Rattle.std.proofs.Math.Seq.{take-append-add}
use Rattle.std.proofs.lemmas.Bool.{cases_lt, eqb-true, eqb-false, leb-true, le-leb}
use Rattle.std.proofs.lemmas.List.{take_at, drop_at, take_all, drop_all, length-take}
use Rattle.fc_base.specs.Outside.{IsAtEnd, Takes}
use Rattle.run_meaning.specs.Runs.{on_descriptor}
use Rattle.run_meaning.specs.Worlds.{World}
use Rattle.run_meaning.specs.Objects.{StreamState, Tells}
use Rattle.library_meaning.specs.Rows.{answer, Row, Take, Store, These, Gives, Count, run, taking}
use Rattle.library_meaning.specs.Table.{read, getchar, got}
use Rattle.library_meaning.specs.OnBytes.{on_bytes, number_of}
use Rattle.library_meaning.specs.Memory.{are_valid, put, first_valid, memory_size}
use Rattle.library_meaning.specs.OnStreams.{HasTaken, DidTake, FailedToTake, TakesFrom, offering, having_taken}
use Rattle.fd_chk.specs.Taken.{TookTo, FailedBefore}

-- the first n of these bytes and the rest are these, where there are n of them or nothing else
first_are : (bytes rest : List ℕ) (n : ℕ) → length bytes ≤ n → (length bytes < n → rest ≡ []) → (take n (bytes ++ rest) ≡ bytes) × (drop n (bytes ++ rest) ≡ rest)
first_are bytes rest n within ended = ⊎_elim short full (cases_lt (length bytes) n)
  where
    none : rest ≡ [] → bytes ++ rest ≡ bytes
    none e = ap (λ r. bytes ++ r) e ∙ append-nil bytes

    short : length bytes < n → (take n (bytes ++ rest) ≡ bytes) × (drop n (bytes ++ rest) ≡ rest)
    short l = let e : bytes ++ rest ≡ bytes = none (ended l) in (
      ap (take n) e ∙ take_all n bytes within,
      ap (drop n) e ∙ drop_all n bytes within ∙ sym (ended l),
    )

    full : n ≤ length bytes → (take n (bytes ++ rest) ≡ bytes) × (drop n (bytes ++ rest) ≡ rest)
    full l = let e : length bytes ≡ n = omega arith in (take_at bytes rest n e, drop_at bytes rest n e)

-- a source that has ended has nothing left
tells_none : (told : Option (List ℕ)) (bytes : List ℕ) → told ≡ Some [] → Tells told bytes → bytes ≡ []
tells_none told bytes e tells = sym (subst (λ t. Tells t bytes) e tells)

module _ (args m : List ℕ) (n : ℕ) (next : List ℕ → Row) where
  -- a row that takes, where these bytes are what it takes
  row_takes : (bytes : List ℕ) (w : World) → length bytes ≤ n → (length bytes < n → w.input.bytes ≡ [])
      → run (on_bytes args) (Take n next) m (offering bytes w) ≡ run (on_bytes args) (next bytes) m (having_taken bytes w)
  row_takes bytes w within ended = let e = first_are bytes w.input.bytes n within ended in rw (e.0, e.1) refl

  -- and where they are a front of it
  row_takes_from : (bytes : List ℕ) (w : World) (memory : List ℕ) (k : ℕ) → length bytes ≤ n
      → run (on_bytes args) (next (take n (bytes ++ w.input.bytes))) m (taking (offering bytes w) n) ≡ Ok (answer memory (taking (offering bytes w) n) (Count k))
      → TakesFrom bytes w (run (on_bytes args) (Take n next) m (offering bytes w))
  row_takes_from bytes w memory k within is = record {
    answer = answer memory (taking (offering bytes w) n) (Count k);
    is = is;
    more = take (n - length bytes) w.input.bytes;
    shown = ap (λ l. w.shown ++ on_descriptor 0 l) front;
  } where
    front : take n (bytes ++ w.input.bytes) ≡ bytes ++ take (n - length bytes) w.input.bytes
    front = let e : n ≡ length bytes + (n - length bytes) = omega (arith, within) in
        ap (λ z. take z (bytes ++ w.input.bytes)) e ∙ take-append-add bytes w.input.bytes (n - length bytes)

-- `getchar`
pub getchar_did : (m bytes : List ℕ) (old new : StreamState) (n : ℕ) → HasTaken bytes old new → length bytes ≤ 1 → (length bytes < 1 → new.told ≡ Some [])
    → n ≡ number_of [] (got bytes) → DidTake [] (run (on_bytes []) getchar m) m n old new
getchar_did m bytes old new n has within ended gives = record {
  bytes = bytes;
  has = has;
  given = got bytes;
  gives = gives;
  did = λ rest tells. row_takes [] m 1 (λ b. Gives (got b)) bytes rest within (λ l. tells_none new.told rest.input.bytes (ended l) tells);
}

-- one byte was taken
pub getchar_took : (m buf : List ℕ) (old new : StreamState) (k n : ℕ) → length buf ≡ 1 → k ≤ length buf → (k ≡ 0 → ⊥) → n ≡ get_or buf 0 0 → n < 2 ^ 8
    → Takes (take k buf) old.told new.told → (old.told ≡ None → IsAtEnd new.told) → DidTake [] (run (on_bytes []) getchar m) m n old new
getchar_took m [] old new k n long within some is small taken untold = absurd (omega (arith, long))
getchar_took m (x ∷ y ∷ buf) old new k n long within some is small taken untold = absurd (omega (arith, long))
getchar_took m (x ∷ []) old new k n long within some is small taken untold =
    let one : k ≡ 1 = omega (arith, within, some) in
    getchar_did m (x ∷ []) old new n
    (record { are_bytes = (omega (arith, is, small), tt); taken = subst (λ j. Takes (take j (x ∷ [])) old.told new.told) one taken; untold = untold })
    (omega arith) (λ l. absurd (omega (arith, l))) is

-- fewer bytes from an address that may be touched
pub valid_fewer : (a n k : ℕ) → k ≤ n → are_valid a n ≡ true → are_valid a k ≡ true
valid_fewer a n k within valid = go (eqb k 0) (eqb n 0) (leb first_valid a) (leb (a + n) memory_size) refl refl refl valid
  where
    go : (z t u v : Bool) → eqb k 0 ≡ z → eqb n 0 ≡ t → leb (a + n) memory_size ≡ v → t || (u && v) ≡ true → z || (u && leb (a + k) memory_size) ≡ true
    go true t u v e f g h = refl
    go false true u v e f g h = absurd (eqb-false k 0 e (omega (arith, eqb-true n 0 f, within)))
    go false false true true e f g h = le-leb (a + k) memory_size (omega (arith, leb-true _ _ g, within))
    go false false true false e f g h = absurd (cc)
    go false false false v e f g h = absurd (cc)

-- `read` of descriptor 0
module _ (m : List ℕ) (d n size : ℕ) (fits : ltb size n ≡ false) (valid : are_valid d n ≡ true) where
  abbrev pub operands : List ℕ
  operands = 0 ∷ d ∷ n ∷ []

  abbrev pub stores : List ℕ → Row
  stores bytes = Store 1 0 (These bytes) (Gives (Count (length bytes)))

  read_is : (w : World) → run (on_bytes operands) (read size) m w ≡ run (on_bytes operands) (Take n stores) m w
  read_is w = rw (fits, add-zero d, valid) refl

  stores_is : (bytes : List ℕ) (w : World) → length bytes ≤ n → run (on_bytes operands) (stores bytes) m w ≡ Ok (answer (put d bytes m) w (Count (length bytes)))
  stores_is bytes w within = rw (add-zero d, valid_fewer d n (length bytes) within valid) refl

  pub read_did : (m' : List ℕ) (count : ℕ) (old new : StreamState) → TookTo d count m m' old new → count ≤ n → (count < n → new.told ≡ Some [])
      → DidTake operands (run (on_bytes operands) (read size) m) m' count old new
  read_did m' count old new took within ended = record {
    bytes = took.bytes;
    has = took.has;
    given = Count (length took.bytes);
    gives = sym took.long;
    did = λ rest tells.
        read_is (offering took.bytes rest)
        ∙ row_takes operands m n stores took.bytes rest (omega (arith, took.long)) (λ l. tells_none new.told rest.input.bytes (ended (omega (arith, l, took.long))) tells)
        ∙ stores_is took.bytes (having_taken took.bytes rest) (omega (arith, took.long))
        ∙ ap (λ memory. Ok (answer memory (having_taken took.bytes rest) (Count (length took.bytes)))) (sym took.stored);
  }

  takes_from : (bytes : List ℕ) (w : World) → length bytes ≤ n → TakesFrom bytes w (run (on_bytes operands) (read size) m (offering bytes w))
  takes_from bytes w within =
      let all = take n (bytes ++ w.input.bytes) in
      subst (TakesFrom bytes w) (sym (read_is (offering bytes w)))
      (row_takes_from operands m n stores bytes w (put d all m) (length all) within (stores_is all (taking (offering bytes w) n) (omega (arith, length-take n (bytes ++ w.input.bytes)))))

  pub read_failed : (old new : StreamState) → FailedBefore n old new → FailedToTake (run (on_bytes operands) (read size) m) old new
  read_failed old new f = record {
    bytes = f.bytes;
    has = f.has;
    rose = f.rose;
    did = λ rest tells. takes_from f.bytes rest (omega (arith, f.short));
    asks = λ byte w. takes_from (byte ∷ []) w (omega (arith, f.short));
  }
