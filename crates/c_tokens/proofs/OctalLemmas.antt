-- Octal digits.
use Rattle.std.proofs.Common.{◌≡◌, ℕ, true, ◌/◌, ◌%◌, ◌<◌, List, [], ◌∷◌, ◌++◌, map, reverse, sym, ap, ◌∙◌, append_assoc, arith}
use Rattle.std.specs.Char.{digit_value, is_digit}
use Rattle.std.specs.Int.Digits.{digits_of}
use Rattle.std.proofs.lemmas.Bool.Decides.{nat_tests}
use Rattle.std.proofs.lemmas.Int.Digits.{digits_of_step}
use Rattle.std.proofs.lemmas.List.{map-append, reverse-append}
use Rattle.c_tokens.specs.Spelling.{octal_digit}

pub octal_digit_value : (d : ℕ) → d < 8 → digit_value (octal_digit d) ≡ d
octal_digit_value d lt = grind (arith, nat_tests)

pub octal_digit_passes : (d : ℕ) → d < 8 → is_digit (octal_digit d) 8 ≡ true
octal_digit_passes d lt = grind (arith, nat_tests)

-- the last one first
pub octal_step : (n m : ℕ) (digits : List ℕ) → 0 < n → map octal_digit (digits_of 8 n) ++ reverse digits ≡ map octal_digit (digits_of 8 m)
    → map octal_digit (digits_of 8 (n / 8)) ++ reverse (digits ++ octal_digit (n % 8) ∷ []) ≡ map octal_digit (digits_of 8 m)
octal_step n m digits positive owed =
    ap (λ (r : List ℕ). map octal_digit (digits_of 8 (n / 8)) ++ r) (reverse-append digits (octal_digit (n % 8) ∷ []))
    ∙ sym (append_assoc (map octal_digit (digits_of 8 (n / 8))) (octal_digit (n % 8) ∷ []) (reverse digits))
    ∙ ap (λ (xs : List ℕ). xs ++ reverse digits) (sym (ap (map octal_digit) (digits_of_step 8 n (omega arith) positive)
    ∙ map-append octal_digit (digits_of 8 (n / 8)) (n % 8 ∷ [])))
    ∙ owed
