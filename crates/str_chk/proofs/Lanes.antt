-- Two texts that begin with blocks of one length.
use Rattle.std.proofs.Common.{◌≡◌, ℕ, zero, suc, ◌<◌, Bool, true, false, not, eqb, List, [], ◌∷◌, ◌++◌, length, get_or, Ok, refl, subst, arith}
use Rattle.std.specs.Prelude.{if◌then◌else◌}
use Rattle.std.specs.List.{prefix_len}
use Rattle.std.proofs.lemmas.Bool.{not-true, not-false}
use Rattle.std.proofs.lemmas.List.Sums.{prefix_len_passes, prefix_len_stops, prefix_len-le-length}
use Rattle.library_meaning.specs.Table.{order}
use Rattle.str_chk.specs.Pairs.{both_scan, order_found}

-- two bytes differ, or are a NUL
abbrev pub stops : ℕ → ℕ → Bool
stops x y = eqb (if eqb x y then x else 0) 0

pub block_goes : (l r xs ys : List ℕ) → length l ≡ length r → ((j : ℕ) → j < length l → stops (get_or l j 0) (get_or r j 0) ≡ false)
    → order_found (both_scan (l ++ xs) (r ++ ys)) ≡ order_found (both_scan xs ys)
block_goes [] [] xs ys long goes = refl
block_goes [] (y ∷ r) xs ys long goes = absurd (omega (arith, long))
block_goes (x ∷ l) [] xs ys long goes = absurd (omega (arith, long))
block_goes (x ∷ l) (y ∷ r) xs ys long goes =
    go (eqb x y) (goes 0 (omega arith)) (block_goes l r xs ys (omega (arith, long)) (λ j lt. goes (suc j) (omega (arith, lt))))
  where
    go : (t : Bool) → eqb (if t then x else 0) 0 ≡ false → order_found (both_scan (l ++ xs) (r ++ ys)) ≡ order_found (both_scan xs ys)
        → order_found (if t then (if eqb x 0 then Ok (record { left = x; right = y }) else both_scan (l ++ xs) (r ++ ys)) else Ok (record { left = x; right = y }))
        ≡ order_found (both_scan xs ys)
    go true h rest = rw h rest
    go false h rest = absurd (cc)

pub block_stops : (l r xs ys : List ℕ) (k : ℕ) → length l ≡ length r → k < length l → ((j : ℕ) → j < k → stops (get_or l j 0) (get_or r j 0) ≡ false)
    → stops (get_or l k 0) (get_or r k 0) ≡ true → order_found (both_scan (l ++ xs) (r ++ ys)) ≡ Ok (order (get_or l k 0) (get_or r k 0))
block_stops [] r xs ys k long within goes here = absurd (omega (arith, within))
block_stops (x ∷ l) [] xs ys k long within goes here = absurd (omega (arith, long))
block_stops (x ∷ l) (y ∷ r) xs ys zero long within goes here = go (eqb x y) here
  where
    go : (t : Bool) → eqb (if t then x else 0) 0 ≡ true
        → order_found (if t then (if eqb x 0 then Ok (record { left = x; right = y }) else both_scan (l ++ xs) (r ++ ys)) else Ok (record { left = x; right = y }))
        ≡ Ok (order x y)
    go true h = rw h refl
    go false h = refl
block_stops (x ∷ l) (y ∷ r) xs ys (suc k) long within goes here =
    go (eqb x y) (goes 0 (omega arith)) (block_stops l r xs ys k (omega (arith, long)) (omega (arith, within)) (λ j lt. goes (suc j) (omega (arith, lt))) here)
  where
    go : (t : Bool) → eqb (if t then x else 0) 0 ≡ false → order_found (both_scan (l ++ xs) (r ++ ys)) ≡ Ok (order (get_or l k 0) (get_or r k 0))
        → order_found (if t then (if eqb x 0 then Ok (record { left = x; right = y }) else both_scan (l ++ xs) (r ++ ys)) else Ok (record { left = x; right = y }))
        ≡ Ok (order (get_or l k 0) (get_or r k 0))
    go true h rest = rw h rest
    go false h rest = absurd (cc)

-- what two blocks share, byte by byte, and 0 where they differ
abbrev pub Shared : List ℕ → List ℕ → List ℕ → Type 0
Shared l r v = (k : ℕ) → k < length v → get_or v k 0 ≡ (if eqb (get_or l k 0) (get_or r k 0) then get_or l k 0 else 0)

abbrev pub goes_on : ℕ → Bool
goes_on byte = not (eqb byte 0)

pub stop_before : (l r v : List ℕ) → Shared l r v → (j : ℕ) → j < prefix_len goes_on v → stops (get_or l j 0) (get_or r j 0) ≡ false
stop_before l r v is j lt =
    let short : j < length v = omega (arith, lt, prefix_len-le-length goes_on v) in
    subst (λ b. eqb b 0 ≡ false) (is j short) (not-true _ (prefix_len_passes goes_on v j 0 lt))

pub stop_here : (l r v : List ℕ) → Shared l r v → prefix_len goes_on v < length v → stops (get_or l (prefix_len goes_on v) 0) (get_or r (prefix_len goes_on v) 0) ≡ true
stop_here l r v is short = subst (λ b. eqb b 0 ≡ true) (is _ short) (not-false _ (prefix_len_stops goes_on v 0 short))
