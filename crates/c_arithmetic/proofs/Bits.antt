-- What is left of a result's integer in 64 bits.
use Rattle.std.proofs.Common.{◌≡◌, ℕ, zero, suc, ◌+◌, ◌-◌, ◌*◌, ◌/◌, ◌%◌, ◌^◌, ◌<◌, Bool, true, false, refl, sym, ◌∙◌, ap, arith, inl, inr}
use Rattle.std.specs.Prelude.{ℤ, pos, negsuc, neg_ℤ, ◌+ℤ◌, ◌-ℤ◌, ◌*ℤ◌, int_div, unsigned_abs, FitsSigned}
use Rattle.std.specs.Int.{w64, cast_signed, cast_unsigned, int_wrap, int_wrapping_div}
use Rattle.std.proofs.Math.Nat.{div-le_self, mod-lt, mod-eq_of_lt}
use Rattle.std.proofs.lemmas.Bool.{cases_lt}
use Rattle.std.proofs.lemmas.Int.{ints, of_z-to_z, int_rem_euclid_is, wrapping_sub-bits, wrapping_mul-bits}
use Rattle.c_arithmetic.specs.Arithmetic.{integer, low_bits}

low_below : (z : ℤ) → low_bits z < 2 ^ 64
low_below (pos a) = mod-lt a (omega arith)
low_below (negsuc a) = omega arith

from_wrap : (z : ℤ) (n : ℕ) → n < 2 ^ 64 → cast_signed w64 n ≡ int_wrap w64 z → n ≡ low_bits z
unfolding int_wrap
from_wrap z n lt e = sym (of_z-to_z w64 n lt) ∙ ap (cast_unsigned w64) e ∙ of_z-to_z w64 (low_bits z) (low_below z)

-- z and some times 2 ^ 64 is m
from_sum : (z : ℤ) (k m : ℕ) → z +ℤ pos (k * 2 ^ 64) ≡ pos m → m % 2 ^ 64 ≡ low_bits z
from_sum z k m e = sym (ap unsigned_abs (int_rem_euclid_is z (pos (2 ^ 64)) (2 ^ 64) k m (omega arith) refl e))

pub difference_bits : (signed : Bool) (a b : ℕ) → a < 2 ^ 64 → b < 2 ^ 64
    → (a + (2 ^ 64 - b)) % 2 ^ 64 ≡ low_bits (integer signed a -ℤ integer signed b)
difference_bits true a b p q =
    from_wrap (cast_signed w64 a -ℤ cast_signed w64 b) _ (mod-lt (a + (2 ^ 64 - b)) (omega arith)) (wrapping_sub-bits w64 a b p q)
difference_bits false a b p q = from_sum (pos a -ℤ pos b) 1 (a + (2 ^ 64 - b)) (omega (arith, ints))

pub product_bits : (signed : Bool) (a b : ℕ) → a < 2 ^ 64 → b < 2 ^ 64 → (a * b) % 2 ^ 64 ≡ low_bits (integer signed a *ℤ integer signed b)
product_bits true a b p q =
    from_wrap (cast_signed w64 a *ℤ cast_signed w64 b) _ (mod-lt (a * b) (omega arith)) (wrapping_mul-bits w64 a b p q)
product_bits false a b p q = refl

-- the signed integer of 64 bits is no times or once 2 ^ 64 below them
read : (n : ℕ) → n < 2 ^ 64 → (j : ℕ) × (cast_signed w64 n +ℤ pos (j * 2 ^ 64) ≡ pos n)
read n lt = elim (cases_lt n (2 ^ 63)) [
  | inl p ↦ (0, omega (arith, ints))
  | inr p ↦ (1, let back = of_z-to_z w64 n lt in omega (arith, ints))
]

times : (z : ℤ) (j a m : ℕ) → z +ℤ pos (j * 2 ^ 64) ≡ pos a → z *ℤ pos m +ℤ pos (j * m * 2 ^ 64) ≡ pos (a * m)
times (pos n) j a m e =
    let sum : n + j * 2 ^ 64 ≡ a = omega (arith, ints) in
    let product = ap (λ x. x * m) sum in
    omega (arith, ints)
times (negsuc n) j a m e =
    let sum : j * 2 ^ 64 ≡ a + suc n = omega (arith, ints) in
    let product = ap (λ x. x * m) sum in
    omega (arith, ints)

pub shift_bits : (signed : Bool) (a m : ℕ) → a < 2 ^ 64 → (a * m) % 2 ^ 64 ≡ low_bits (integer signed a *ℤ pos m)
shift_bits true a m p = let r = read a p in from_sum (cast_signed w64 a *ℤ pos m) (r.0 * m) (a * m) (times (cast_signed w64 a) r.0 a m r.1)
shift_bits false a m p = refl

-- ---- quotients

abbrev Small : ℤ → Type 0
Small (pos n) = n < 2 ^ 64
Small (negsuc n) = n < 2 ^ 64

negative_small : (n : ℕ) → n < 2 ^ 64 → Small (neg_ℤ (pos n))
negative_small zero h = h
negative_small (suc n) h = omega arith

small_bits : (z : ℤ) → Small z → low_bits z ≡ cast_unsigned w64 z
small_bits (pos n) h = mod-eq_of_lt h
small_bits (negsuc n) h = let e = mod-eq_of_lt h in omega (arith, e)

small_below : (z : ℤ) → Small z → cast_unsigned w64 z < 2 ^ 64
small_below (pos n) h = h
small_below (negsuc n) h = omega arith

quotient_small : (x y : ℤ) → FitsSigned w64 x → Small (int_div x y)
quotient_small (pos a) (pos b) f = omega (arith, f.sfits, div-le_self a b)
quotient_small (pos a) (negsuc b) f = negative_small (a / suc b) (omega (arith, f.sfits, div-le_self a (suc b)))
quotient_small (negsuc a) (pos b) f = negative_small (suc a / b) (omega (arith, f.sfits, div-le_self (suc a) b))
quotient_small (negsuc a) (negsuc b) f = omega (arith, f.sfits, div-le_self (suc a) (suc b))

quotient_bits : (a b : ℕ) → cast_unsigned w64 (int_wrapping_div w64 (cast_signed w64 a) (cast_signed w64 b))
    ≡ low_bits (int_div (integer true a) (integer true b))
quotient_bits a b =
    let z = int_div (cast_signed w64 a) (cast_signed w64 b) in
    let small = quotient_small (cast_signed w64 a) (cast_signed w64 b) (omega (arith, ints)) in
    of_z-to_z w64 (cast_unsigned w64 z) (small_below z small) ∙ sym (small_bits z small)

read_again : (a : ℕ) (x : ℤ) → a < 2 ^ 64 → x ≡ cast_signed w64 a → cast_signed w64 (cast_unsigned w64 x) ≡ cast_signed w64 a
read_again a x lt e = ap (cast_signed w64) (ap (cast_unsigned w64) e ∙ of_z-to_z w64 a lt)

-- by the steps of the code
pub quotient_is : (a b r : ℕ) (x y q : ℤ) → a < 2 ^ 64 → b < 2 ^ 64 → x ≡ cast_signed w64 a → y ≡ cast_signed w64 b
    → q ≡ int_wrapping_div w64 (cast_signed w64 (cast_unsigned w64 x)) (cast_signed w64 (cast_unsigned w64 y))
    → r ≡ cast_unsigned w64 (cast_signed w64 (cast_unsigned w64 q))
    → r ≡ low_bits (int_div (integer true a) (integer true b))
quotient_is a b r x y q la lb ex ey eq er =
    let left = ap (λ v. int_wrapping_div w64 v (cast_signed w64 (cast_unsigned w64 y))) (read_again a x la ex) in
    let right = ap (int_wrapping_div w64 (cast_signed w64 a)) (read_again b y lb ey) in
    let bits = ap (cast_unsigned w64) (eq ∙ left ∙ right) ∙ quotient_bits a b in
    er ∙ ap (λ n. cast_unsigned w64 (cast_signed w64 n)) bits ∙ of_z-to_z w64 _ (low_below (int_div (integer true a) (integer true b)))

pub bits_of_integer : (signed : Bool) (bits : ℕ) → bits < 2 ^ 64 → low_bits (integer signed bits) ≡ bits
bits_of_integer true bits h = let r = read bits h in sym (from_sum (cast_signed w64 bits) r.0 bits r.1) ∙ mod-eq_of_lt h
bits_of_integer false bits h = mod-eq_of_lt h
