-- The number that digits write, where it fits.
use Rattle.std.proofs.Common.{◌≡◌, ℕ, ◌+◌, ◌*◌, ◌^◌, ◌<◌, ◌≤◌, List, length, take, get_or, Some, None, refl, sym, ap, ◌∙◌, arith}
use Rattle.std.specs.Char.{digit_value}
use Rattle.std.specs.Str.Parse.{digits_value}
use Rattle.std.proofs.lemmas.Bool.{lt-ltb, le-ltb}
use Rattle.std.proofs.lemmas.Bool.Decides.{nat_tests}
use Rattle.std.proofs.lemmas.Int.Digits.{digits_value_more}
use Rattle.std.proofs.lemmas.Str.Parse.{digits_value-take-le}
use Rattle.std.proofs.lemmas.List.{take_all}
use Rattle.c_lexer.specs.Runs.{fits_64}

pub fits_small : (n : ℕ) → n < 2 ^ 64 → fits_64 n ≡ Some n
fits_small n small = rw (lt-ltb n (2 ^ 64) small) refl

pub fits_large : (n : ℕ) → 2 ^ 64 ≤ n → fits_64 n ≡ None
fits_large n large = rw (le-ltb n (2 ^ 64) large) refl

pub small_from_fits : (n m : ℕ) → Some m ≡ fits_64 n → (m ≡ n) × (n < 2 ^ 64)
small_from_fits n m e = grind (arith, nat_tests)

pub large_from_fits : (n : ℕ) → None ≡ fits_64 n → 2 ^ 64 ≤ n
large_from_fits n e = grind (arith, nat_tests)

pub one_digit : (base v : ℕ) (digits : List ℕ) (i : ℕ) → i < length digits → v ≡ digits_value base (take i digits)
    → v * base + digit_value (get_or digits i 0) ≡ digits_value base (take (i + 1) digits)
one_digit base v digits i lt e = ap (λ (n : ℕ). n * base + digit_value (get_or digits i 0)) e ∙ sym (digits_value_more base digits i lt)

-- what is too large with some digits is too large with all
pub too_large : (base v : ℕ) (digits : List ℕ) (i : ℕ) → 0 < base → i < length digits → v ≡ digits_value base (take i digits)
    → None ≡ fits_64 (v * base + digit_value (get_or digits i 0)) → fits_64 (digits_value base digits) ≡ None
too_large base v digits i positive lt e none =
    let large = large_from_fits (v * base + digit_value (get_or digits i 0)) none in
    let same = one_digit base v digits i lt e in
    let front = digits_value-take-le base digits (i + 1) (omega arith) in
    fits_large (digits_value base digits) (omega arith)

pub all_digits : (base v : ℕ) (digits : List ℕ) (i : ℕ) → length digits ≤ i → v ≡ digits_value base (take i digits) → v < 2 ^ 64
    → Some v ≡ fits_64 (digits_value base digits)
all_digits base v digits i all e small =
    let same : v ≡ digits_value base digits = e ∙ ap (digits_value base) (take_all i digits all) in
    rw (← same) (sym (fits_small v small))
