-- What is printed of an integer, read back.
use Rattle.std.proofs.Common.{◌≡◌, ℕ, suc, ◌+◌, ◌-◌, ◌%◌, ◌^◌, ◌<◌, ◌≤◌, Bool, true, false, ◌&&◌, List, [], ◌∷◌, ◌++◌, length, drop, replicate, refl, ◌∙◌, ap, subst, arith, cond}
use Rattle.std.specs.Prelude.{ℤ, pos, negsuc, neg_ℤ, unsigned_abs, ◌==◌, nat_le, if◌then◌else◌}
use Rattle.std.specs.Int.{w64, cast_signed}
use Rattle.std.specs.Fmt.{digits}
use Rattle.std.specs.Str.Parse.{IsNumeral, digits_value, signed_digits_value}
use Rattle.std.specs.Char.{digit_value}
use Rattle.std.proofs.Math.Nat.{mod-lt}
use Rattle.std.proofs.lemmas.Bool.{eqb-true}
use Rattle.std.proofs.lemmas.Fmt.{digits_is_IsNumeral}
use Rattle.std.proofs.lemmas.Int.{ints, of_z-to_z}
use Rattle.fc_base.specs.declared.levels.Width.{Width}
use Rattle.fc_base.specs.declared.levels.Width.TheVariants.{W1, W2, W4, W8}
use Rattle.fc_base.specs.Widths.{extended, sign_bit, width_values}
use Rattle.c_arithmetic.specs.Arithmetic.{integer}
use Rattle.print_formats.specs.declared.conversions.Numeral.{Numeral}
use Rattle.print_formats.specs.declared.conversions.Numeral.TheVariants as numerals
use Rattle.print_formats.specs.Texts.{base_of, is_signed, printed_number, sign_of, digits_of, number_text}
use Rattle.print_formats.specs.Laws.{plain}

extended_below : (v : ℕ) (of : Width) (signed : Bool) → extended v of signed < 2 ^ 64
extended_below v of signed = go of (signed && nat_le (sign_bit of) (v % width_values of))
  where
    go : (w : Width) (t : Bool) → (if t then v % width_values w + (2 ^ 64 - width_values w) else v % width_values w) < 2 ^ 64
    go W1 true = let r : v % 2 ^ 8 < 2 ^ 8 = mod-lt v (omega arith) in omega arith
    go W1 false = let r : v % 2 ^ 8 < 2 ^ 8 = mod-lt v (omega arith) in omega arith
    go W2 true = let r : v % 2 ^ 16 < 2 ^ 16 = mod-lt v (omega arith) in omega arith
    go W2 false = let r : v % 2 ^ 16 < 2 ^ 16 = mod-lt v (omega arith) in omega arith
    go W4 true = let r : v % 2 ^ 32 < 2 ^ 32 = mod-lt v (omega arith) in omega arith
    go W4 false = let r : v % 2 ^ 32 < 2 ^ 32 = mod-lt v (omega arith) in omega arith
    go W8 true = let r : v % 2 ^ 64 < 2 ^ 64 = mod-lt v (omega arith) in omega arith
    go W8 false = let r : v % 2 ^ 64 < 2 ^ 64 = mod-lt v (omega arith) in omega arith

abs_below : (z : ℤ) (x : ℕ) → x < 2 ^ 64 → cast_signed w64 x ≡ z → unsigned_abs z < 2 ^ 64
abs_below (pos n) x h e = let back = of_z-to_z w64 x h in omega (arith, ints)
abs_below (negsuc n) x h e = let back = of_z-to_z w64 x h in omega (arith, ints)

integer_below : (signed : Bool) (x : ℕ) → x < 2 ^ 64 → unsigned_abs (integer signed x) < 2 ^ 64
integer_below true x h = abs_below (cast_signed w64 x) x h refl
integer_below false x h = h

-- a numeral has no sign
unsigned_numeral : (base : ℕ) (ds : List ℕ) → base ≤ 16 → IsNumeral base ds → signed_digits_value base ds ≡ pos (digits_value base ds)
unsigned_numeral base [] low n = absurd (omega (arith, n.0))
unsigned_numeral base (c ∷ cs) low n = go (c == 45) (c == 43) refl refl
  where
    go : (s t : Bool) → (c == 45) ≡ s → (c == 43) ≡ t → cond s (neg_ℤ (pos (digits_value base (cond s cs (drop (cond t 1 0) (c ∷ cs)))))) (pos (digits_value base (cond s cs (drop (cond t 1 0) (c ∷ cs))))) ≡ pos (digits_value base (c ∷ cs))
    go true t e f = absurd (let is : c ≡ 45 = eqb-true c 45 e in let d : digit_value 45 < base = subst (λ x. digit_value x < base) is n.1.0 in omega arith)
    go false true e f = absurd (let is : c ≡ 43 = eqb-true c 43 f in let d : digit_value 43 < base = subst (λ x. digit_value x < base) is n.1.0 in omega arith)
    go false false e f = refl

digits_read : (base : ℕ) (upper : Bool) (n : ℕ) → 2 ≤ base → base ≤ 16 → n < base ^ 64 → signed_digits_value base (digits base upper n) ≡ pos n
digits_read base upper n low high lt =
    let r = digits_is_IsNumeral base upper low high n lt in
    unsigned_numeral base (digits base upper n) high r.0 ∙ ap pos r.1

number_read : (base : ℕ) (upper : Bool) (z : ℤ) → 2 ≤ base → base ≤ 16 → unsigned_abs z < base ^ 64 → signed_digits_value base (sign_of z ++ digits base upper (unsigned_abs z)) ≡ z
number_read base upper (pos n) low high lt = digits_read base upper n low high lt
number_read base upper (negsuc n) low high lt = ap (λ k. neg_ℤ (pos k)) (digits_is_IsNumeral base upper low high (suc n) lt).1

pub read_back : (numeral : Numeral) (of : Width) (v : ℕ) → signed_digits_value (base_of numeral) (number_text plain numeral of v) ≡ printed_number numeral of v
read_back numeral of v = go numeral (printed_number numeral of v) (integer_below (is_signed numeral) (extended v of (is_signed numeral)) (extended_below v of (is_signed numeral)))
  where
    go : (m : Numeral) (z : ℤ) → unsigned_abs z < 2 ^ 64 → signed_digits_value (base_of m) (replicate (0 - (length (sign_of z) + length (digits_of m z))) 32 ++ (sign_of z ++ digits_of m z)) ≡ z
    go m z h = let none : 0 - (length (sign_of z) + length (digits_of m z)) ≡ 0 = omega arith in
        rw none (at m)
      where
        at : (k : Numeral) → signed_digits_value (base_of k) (sign_of z ++ digits_of k z) ≡ z
        at numerals.Signed = number_read 10 false z (omega arith) (omega arith) (omega arith)
        at numerals.Unsigned = number_read 10 false z (omega arith) (omega arith) (omega arith)
        at numerals.Octal = number_read 8 false z (omega arith) (omega arith) (omega arith)
        at numerals.Hexadecimal = number_read 16 false z (omega arith) (omega arith) (omega arith)
        at numerals.UpperHexadecimal = number_read 16 true z (omega arith) (omega arith) (omega arith)
