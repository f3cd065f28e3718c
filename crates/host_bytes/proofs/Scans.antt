-- A scan, from what a search for the byte has found.
use Rattle.std.proofs.Common.{◌≡◌, ◌≢◌, ℕ, zero, suc, ◌+◌, ◌-◌, ◌<◌, ◌≤◌, Bool, true, false, ◌&&◌, eqb, leb, List, [], ◌∷◌, ◌++◌, length, get_or, take, drop, None, Some, Result, Ok, Err, min, refl, sym, ap, ◌∙◌, subst, arith}
use Rattle.std.specs.Prelude.{slice_range}
use Rattle.std.proofs.lemmas.Bool.{ne_eqb, eqb-true, leb-true}
use Rattle.std.proofs.lemmas.List.{get_or-take, take_more, take-take, length-take, length-drop}
use Rattle.memchr.specs.Find.{IsFirstByte, Nowhere, Passes, is_byte}
use Rattle.library_meaning.specs.Scan.{Found, scan, after_byte, and_then}
use Rattle.library_meaning.specs.OnBytes.{bytes_from, byte_look}
use Rattle.library_meaning.specs.Memory.{bytes_at, are_valid, memory_size, first_valid}
use Rattle.library_meaning.specs.declared.stops.HostStop.{HostStop}
use Rattle.library_meaning.specs.declared.stops.HostStop.TheVariants as host
use Rattle.host_bytes.specs.Texts.{byte_scan}

module _ {E : Type 0} (out : E) (stops : ℕ → Bool) where
  -- the scan of a memory whose cells are bytes
  abbrev pub over : ℕ → List ℕ → Result Found E
  over limit xs = scan Ok out stops limit xs

  not_zero : (n k : ℕ) → k < n → eqb n 0 ≡ false
  not_zero n k l = ne_eqb n 0 (λ e. absurd (omega arith))

  is_false : (t : Bool) → (t ≡ true → ⊥) → t ≡ false
  is_false true h = absurd (h refl)
  is_false false h = refl

  -- one step past a byte that is not it
  step : (x : ℕ) (xs : List ℕ) (limit : ℕ) → 0 < limit → (stops x ≡ true → ⊥) → over limit (x ∷ xs) ≡ and_then (over (limit - 1) xs) (λ f. Ok (after_byte x f))
  step x xs limit l h = rw (not_zero limit 0 l, is_false (stops x) h) refl

  pub scan_stops : (xs : List ℕ) (limit k : ℕ) → k < length xs → k < limit → ((j : ℕ) → j < k → stops (get_or xs j 0) ≡ true → ⊥) → stops (get_or xs k 0) ≡ true → over limit xs ≡ Ok (record { before = take k xs; stop = Some (get_or xs k 0) })
  scan_stops [] limit k l m before here = absurd (omega arith)
  scan_stops (x ∷ xs) limit zero l m before here = rw (not_zero limit 0 m, here) refl
  scan_stops (x ∷ xs) limit (suc k) l m before here =
      rw (step x xs limit (omega arith) (before 0 (omega arith)), scan_stops xs (limit - 1) k (omega arith) (omega arith) (λ j lt. before (suc j) (omega arith)) here) refl

  pub scan_ends : (xs : List ℕ) (limit : ℕ) → limit ≤ length xs → ((j : ℕ) → j < limit → stops (get_or xs j 0) ≡ true → ⊥) → over limit xs ≡ Ok (record { before = take limit xs; stop = None })
  scan_ends [] limit l before = let e : limit ≡ 0 = omega arith in rw e refl
  scan_ends (x ∷ xs) zero l before = refl
  scan_ends (x ∷ xs) (suc n) l before =
      let e : suc n - 1 ≡ n = omega arith in
      rw (step x xs (suc n) (omega arith) (before 0 (omega arith)), e, scan_ends xs n (omega arith) (λ j lt. before (suc j) (omega arith))) refl

  pub scan_leaves : (xs : List ℕ) (limit : ℕ) → length xs < limit → ((j : ℕ) → j < length xs → stops (get_or xs j 0) ≡ true → ⊥) → over limit xs ≡ Err out
  scan_leaves [] limit l before = rw (not_zero limit 0 l) refl
  scan_leaves (x ∷ xs) limit l before =
      rw (step x xs limit (omega arith) (before 0 (omega arith)), scan_leaves xs (limit - 1) (omega arith) (λ j lt. before (suc j) (omega arith))) refl

and_left : (a b : Bool) → a && b ≡ true → a ≡ true
and_left true b h = refl
and_left false b h = h

and_right : (a b : Bool) → a && b ≡ true → b ≡ true
and_right true b h = h
and_right false b h = absurd (cc)

-- an address of a byte that may be touched
pub valid_low : (a : ℕ) → are_valid a 1 ≡ true → leb first_valid a ≡ true
valid_low a h = and_left (leb first_valid a) (leb (a + 1) memory_size) h

pub valid_high : (a : ℕ) → are_valid a 1 ≡ true → a + 1 ≤ memory_size
valid_high a h = leb-true _ _ (and_right (leb first_valid a) (leb (a + 1) memory_size) h)

-- the first byte of a list, among so many of it
module _ (stops : ℕ → Bool) (xs : List ℕ) (most : ℕ) (room : most ≤ length xs) where
  front_long : length (take most xs) ≡ most
  front_long = omega (arith, length-take most xs)

  passes_on : (j : ℕ) → j < most → Passes stops (take most xs) j → Passes stops xs j
  passes_on j lt t = rw (sym (get_or-take most xs j 0 lt)) t

  pub front_first : (k : ℕ) → k < most → IsFirstByte stops xs (Some k) → IsFirstByte stops (take most xs) (Some k)
  front_first k lt first = (
    record { low = first.0.low; high = omega (arith, front_long); before = λ j from to t. first.0.before j from to (passes_on j (omega arith) t) },
    rw (get_or-take most xs k 0 lt) first.1,
  )

  pub front_past : (k : ℕ) → most ≤ k → IsFirstByte stops xs (Some k) → IsFirstByte stops (take most xs) None
  front_past k le first = λ j from to t. first.0.before j from (omega (arith, front_long)) (passes_on j (omega (arith, front_long)) t)

  pub front_none : IsFirstByte stops xs None → IsFirstByte stops (take most xs) None
  front_none first = λ j from to t. first j from (omega (arith, front_long)) (passes_on j (omega (arith, front_long)) t)

-- the front of a stretch of memory
pub front_of : (m : List ℕ) (a most reach : ℕ) → most ≤ reach → take most (slice_range m a (a + reach)) ≡ slice_range m a (a + most)
front_of m a most reach le =
    let e : a + reach - a ≡ reach = omega arith in
    let f : a + most - a ≡ most = omega arith in
    ap (λ n. take most (take n (drop a m))) e ∙ take-take most reach (drop a m) le ∙ ap (λ n. take n (drop a m)) (sym f)

module _ (stops : ℕ → Bool) (m : List ℕ) (a limit most : ℕ) (size : length m ≡ memory_size) (valid : are_valid a 1 ≡ true) (some : (limit ≡ 0) → ⊥) (is : most ≡ min limit (memory_size - a)) where
  -- the scan of the machine's memory
  abbrev pub scanned : Result Found HostStop
  scanned = scan byte_look host.BadAddress stops limit (bytes_from m a)

  rest : length (drop a m) ≡ memory_size - a
  rest = omega (arith, length-drop a m)

  hay : slice_range m a (a + most) ≡ take most (drop a m)
  hay = let e : a + most - a ≡ most = omega arith in rw e refl

  hay_long : length (take most (drop a m)) ≡ most
  hay_long = omega (arith, length-take most (drop a m), rest)

  over_is : scanned ≡ over host.BadAddress stops limit (drop a m)
  over_is = rw (valid_low a valid) refl

  none_before : (k : ℕ) → k ≤ most → Nowhere (Passes stops (take most (drop a m))) 0 k → (j : ℕ) → j < k → stops (get_or (drop a m) j 0) ≡ true → ⊥
  none_before k l no_one j lt t = no_one j (omega arith) lt (rw (get_or-take most (drop a m) j 0 (omega arith)) t)

  pub found_stops : (k : ℕ) → IsFirstByte stops (slice_range m a (a + most)) (Some k)
      → (scanned ≡ Ok (record { before = bytes_at m a k; stop = Some (get_or (drop a m) k 0) })) × (stops (get_or (drop a m) k 0) ≡ true) × (k < most)
  found_stops k first =
      let at : IsFirstByte stops (take most (drop a m)) (Some k) = subst (λ h. IsFirstByte stops h (Some k)) hay first in
      let lt : k < most = omega (arith, at.0.high, hay_long) in
      let low : k < length (drop a m) = omega (arith, rest) in
      let here : stops (get_or (drop a m) k 0) ≡ true = rw (sym (get_or-take most (drop a m) k 0 lt)) at.1 in (
        over_is ∙ scan_stops host.BadAddress stops (drop a m) limit k low (omega arith) (none_before k (omega arith) at.0.before) here,
        here,
        lt,
      )

  no_one_at_all : IsFirstByte stops (slice_range m a (a + most)) None → (j : ℕ) → j < most → stops (get_or (drop a m) j 0) ≡ true → ⊥
  no_one_at_all first =
      let at : IsFirstByte stops (take most (drop a m)) None = subst (λ h. IsFirstByte stops h None) hay first in
      none_before most (omega arith) (subst (λ n. Nowhere (Passes stops (take most (drop a m))) 0 n) hay_long at)

  pub found_ends : IsFirstByte stops (slice_range m a (a + most)) None → most ≡ limit → scanned ≡ Ok (record { before = bytes_at m a limit; stop = None })
  found_ends first e = over_is ∙ scan_ends host.BadAddress stops (drop a m) limit (omega (arith, rest)) (λ j lt. no_one_at_all first j (omega arith))

  pub found_leaves : IsFirstByte stops (slice_range m a (a + most)) None → most ≢ limit → scanned ≡ Err host.BadAddress
  found_leaves first ne = over_is ∙ scan_leaves host.BadAddress stops (drop a m) limit (omega (arith, rest)) (λ j lt. no_one_at_all first j (omega (arith, rest)))

-- a scan for one byte finds that byte
pub found_byte : (byte : ℕ) (m : List ℕ) (a limit most k : ℕ) → length m ≡ memory_size → are_valid a 1 ≡ true → ((limit ≡ 0) → ⊥) → most ≡ min limit (memory_size - a)
    → IsFirstByte (is_byte byte) (slice_range m a (a + most)) (Some k)
    → (byte_scan byte m a limit ≡ Ok (record { before = bytes_at m a k; stop = Some byte })) × (bytes_at m a (k + 1) ≡ bytes_at m a k ++ byte ∷ []) × (k < most)
found_byte byte m a limit most k size valid some is first =
    let found = found_stops (is_byte byte) m a limit most size valid some is k first in
    let here : get_or (drop a m) k 0 ≡ byte = eqb-true _ byte found.1 in
    let low : k < length (drop a m) = omega (arith, found.2, length-drop a m) in (
      found.0 ∙ ap (λ b. Ok (record { before = bytes_at m a k; stop = Some b })) here,
      take_more (drop a m) k 0 low ∙ ap (λ z. take k (drop a m) ++ z ∷ []) here,
      found.2,
    )

-- with no limit nothing is read
pub found_nothing : (byte : ℕ) (m : List ℕ) (a limit : ℕ) → limit ≡ 0 → byte_scan byte m a limit ≡ Ok (record { before = bytes_at m a 0; stop = None })
found_nothing byte m a limit e = rw e (go (bytes_from m a))
  where
    go : (xs : List ℕ) → scan byte_look host.BadAddress (λ b. eqb b byte) 0 xs ≡ Ok (record { before = []; stop = None })
    go [] = refl
    go (x ∷ xs) = refl
