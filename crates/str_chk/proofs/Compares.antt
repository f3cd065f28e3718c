-- Texts that are compared from the front.
use Rattle.std.proofs.Common.{◌≡◌, ℕ, zero, suc, ◌+◌, ◌-◌, ◌<◌, ◌≤◌, Bool, true, false, ◌&&◌, ◌⊎◌, inl, inr, ⊎_elim, eqb, leb, ltb, min, List, [], ◌∷◌, ◌++◌, length, get_or, take, drop, Ok, Err, refl, sym, ap, ◌∙◌, arith}
use Rattle.std.specs.Prelude.{if◌then◌else◌, slice_range}
use Rattle.std.proofs.Math.Nat.{add-zero}
use Rattle.std.proofs.lemmas.Bool.{leb-false, ltb-false, le-ltb, eqb-true, eqb-false, eq-eqb, cases_lt}
use Rattle.std.proofs.lemmas.List.{drop_all, drop-drop, take-append-drop}
use Rattle.library_meaning.specs.Rows.{run}
use Rattle.library_meaning.specs.Table.{strcmp, order, order_of, no_limit}
use Rattle.library_meaning.specs.OnBytes.{bytes_from, on_bytes, quiet}
use Rattle.library_meaning.specs.Memory.{are_valid, first_valid, memory_size}
use Rattle.library_meaning.specs.declared.stops.HostStop.TheVariants as host
use Rattle.str_chk.specs.Pairs.{both_scan, order_found}

-- one of the two is at its end
pub one_ends : (xs ys : List ℕ) → (xs ≡ []) ⊎ (ys ≡ []) → both_scan xs ys ≡ Err host.BadAddress
one_ends [] ys h = refl
one_ends (x ∷ xs) [] h = refl
one_ends (x ∷ xs) (y ∷ ys) (inl e) = absurd (cc)
one_ends (x ∷ xs) (y ∷ ys) (inr e) = absurd (cc)

pub at_end : (xs ys : List ℕ) (i : ℕ) → min (length xs) (length ys) ≤ i → both_scan (drop i xs) (drop i ys) ≡ Err host.BadAddress
at_end xs ys i l = ⊎_elim
    (λ (h : i < length xs). one_ends (drop i xs) (drop i ys) (inr (drop_all i ys (omega arith))))
    (λ (h : length xs ≤ i). one_ends (drop i xs) (drop i ys) (inl (drop_all i xs h)))
    (cases_lt i (length xs))

-- an address that is not valid has no bytes
pub no_bytes : (m : List ℕ) (a : ℕ) → length m ≡ memory_size → are_valid a 1 ≡ false → bytes_from m a ≡ []
no_bytes m a size bad = go (leb first_valid a) (leb (a + 1) memory_size) refl refl bad
  where
    go : (t u : Bool) → leb first_valid a ≡ t → leb (a + 1) memory_size ≡ u → t && u ≡ false → (if t then drop a m else []) ≡ []
    go false u et eu h = refl
    go true false et eu h = let short : memory_size < a + 1 = leb-false _ _ eu in drop_all a m (omega arith)
    go true true et eu h = absurd (cc)

-- the row, where one of the two leaves memory
pub strcmp_stops : (m : List ℕ) (a b : ℕ) → (bytes_from m a ≡ []) ⊎ (bytes_from m b ≡ []) → run (on_bytes (a ∷ b ∷ [])) strcmp m quiet ≡ Err host.BadAddress
strcmp_stops m a b h = rw (add-zero a, add-zero b, one_ends (bytes_from m a) (bytes_from m b) h) refl

-- no byte of these is a NUL
abbrev pub NoNul : List ℕ → Type 0
NoNul xs = (i : ℕ) → i < length xs → eqb (get_or xs i 0) 0 ≡ true → ⊥

-- two texts that begin with bytes of which none is a NUL: these decide, where they differ
pub parts_order : (a b xs ys : List ℕ) → length a ≡ length b → NoNul a
    → order_found (both_scan (a ++ xs) (b ++ ys)) ≡ (if eqb (order_of a b) 0 then order_found (both_scan xs ys) else Ok (order_of a b))
parts_order [] [] xs ys long none = refl
parts_order [] (y ∷ b) xs ys long none = absurd (omega (arith, long))
parts_order (x ∷ a) [] xs ys long none = absurd (omega (arith, long))
parts_order (x ∷ a) (y ∷ b) xs ys long none =
    go (eqb x y) (eqb x 0) (ltb x y) (ltb y x) refl refl refl refl (parts_order a b xs ys (omega (arith, long)) (λ i l. none (suc i) (omega (arith, l))))
  where
    go : (t u v w : Bool) → eqb x y ≡ t → eqb x 0 ≡ u → ltb x y ≡ v → ltb y x ≡ w
        → order_found (both_scan (a ++ xs) (b ++ ys)) ≡ (if eqb (order_of a b) 0 then order_found (both_scan xs ys) else Ok (order_of a b))
        → order_found (if t then (if u then Ok (record { left = x; right = y }) else both_scan (a ++ xs) (b ++ ys)) else Ok (record { left = x; right = y }))
        ≡ (if eqb (if t then order_of a b else (if v then no_limit else (if w then 1 else 0))) 0 then order_found (both_scan xs ys)
        else Ok (if t then order_of a b else (if v then no_limit else (if w then 1 else 0))))
    go true true v w e f g h rest = absurd (none 0 (omega arith) f)
    go true false v w e f g h rest = rest
    go false u true w e f g h rest = rw g refl
    go false u false true e f g h rest = rw (g, h) refl
    go false u false false e f g h rest = let p = ltb-false x y g in let q = ltb-false y x h in absurd (eqb-false x y e (omega (arith, p, q)))

-- two texts of which the first has its NUL among the bytes that both begin with
pub ended_order : (l r xs ys : List ℕ) (k : ℕ) → length l ≡ length r → k < length l → ((i : ℕ) → i < k → eqb (get_or l i 0) 0 ≡ true → ⊥) → get_or l k 0 ≡ 0
    → order_found (both_scan (l ++ xs) (r ++ ys)) ≡ Ok (order_of (take (suc k) l) (take (suc k) r))
ended_order [] r xs ys k long within none is = absurd (omega (arith, within))
ended_order (x ∷ l) [] xs ys k long within none is = absurd (omega (arith, long))
ended_order (x ∷ l) (y ∷ r) xs ys zero long within none is = go (eqb x y) refl
  where
    go : (t : Bool) → eqb x y ≡ t
        → order_found (if t then (if eqb x 0 then Ok (record { left = x; right = y }) else both_scan (l ++ xs) (r ++ ys)) else Ok (record { left = x; right = y }))
        ≡ Ok (if t then 0 else order x y)
    go true e = let same = eqb-true x y e in rw (eq-eqb x 0 is, le-ltb x y (omega (arith, same)), le-ltb y x (omega (arith, same))) refl
    go false e = refl
ended_order (x ∷ l) (y ∷ r) xs ys (suc k) long within none is =
    go (eqb x y) (eqb x 0) refl refl (ended_order l r xs ys k (omega (arith, long)) (omega (arith, within)) (λ i lt. none (suc i) (omega (arith, lt))) is)
  where
    go : (t u : Bool) → eqb x y ≡ t → eqb x 0 ≡ u → order_found (both_scan (l ++ xs) (r ++ ys)) ≡ Ok (order_of (take (suc k) l) (take (suc k) r))
        → order_found (if t then (if u then Ok (record { left = x; right = y }) else both_scan (l ++ xs) (r ++ ys)) else Ok (record { left = x; right = y }))
        ≡ Ok (if t then order_of (take (suc k) l) (take (suc k) r) else order x y)
    go true true e f rest = absurd (none 0 (omega arith) f)
    go true false e f rest = rest
    go false u e f rest = refl

-- a part of a list and what stands behind it
pub part_rest : (xs : List ℕ) (at n : ℕ) → slice_range xs at (at + n) ++ drop (at + n) xs ≡ drop at xs
part_rest xs at n =
    let e : at + n - at ≡ n = omega arith in
    ap (λ k. take k (drop at xs) ++ drop (at + n) xs) e ∙ ap (λ z. take n (drop at xs) ++ z) (sym (drop-drop n at xs)) ∙ take-append-drop n (drop at xs)
