-- An integer literal is spelled by its digits and its suffix.
use Rattle.std.proofs.Common.{◌≡◌, ℕ, zero, suc, ◌+◌, ◌^◌, ◌<◌, ◌≤◌, ◌==◌, ◌||◌, nat_lt, Bool, true, false, List, [], ◌∷◌, ◌++◌, length, get_or, map, Some, refl, ap, ◌∙◌, arith}
use Rattle.std.specs.Prelude.{decimal}
use Rattle.std.specs.List.{list_all, prefix_len}
use Rattle.std.specs.Char.{digit_value, is_digit, is_ascii_digit}
use Rattle.std.specs.Str.Parse.{digits_value, AllDigits}
use Rattle.std.specs.Int.Digits.{digits_of, number_from_digits, AllBelowBase}
use Rattle.std.proofs.Math.Seq.{take-append_seam, drop-append_seam}
use Rattle.std.proofs.lemmas.Bool.{lt-ltb, and_parts}
use Rattle.std.proofs.lemmas.Bool.Decides.{nat_tests}
use Rattle.std.proofs.lemmas.Int.Digits.{digits_value_is, number_digits_of, all_below_base_digits_of}
use Rattle.std.proofs.lemmas.Fmt.{decimal_is_IsNumeral, first_decimal}
use Rattle.c_tokens.specs.declared.tokens.NumberKind.{NumberKind}
use Rattle.c_tokens.specs.declared.tokens.TokenKind.TheVariants as k
use Rattle.c_tokens.specs.declared.pieces.Piece.TheVariants.{Token}
use Rattle.c_tokens.specs.Bytes.{is_space, is_newline, begins_name, goes_on, is_empty}
use Rattle.c_tokens.specs.Numbers.{all_in_number, in_number, suffix_of, integer_in, is_hexadecimal, number}
use Rattle.c_tokens.specs.Pieces.{spelled}
use Rattle.c_tokens.specs.Spelling.{octal_digit, suffix_text, number_text}
use Rattle.c_tokens.proofs.OctalLemmas.{octal_digit_value, octal_digit_passes}

-- ---- digits

-- digits of a base
abbrev pub all_digits : ℕ → List ℕ → Bool
all_digits base = list_all (λ b. is_digit b base)

from_all : (base : ℕ) (ds : List ℕ) → AllDigits base ds → all_digits base ds ≡ true
from_all base [] all = refl
from_all base (d ∷ ds) all = let t : is_digit d base ≡ true = lt-ltb (digit_value d) base all.0 in rw t (from_all base ds all.1)

digit_is : (d base : ℕ) → is_digit d base ≡ true → base ≤ 10 → is_ascii_digit d ≡ true
digit_is d base e le = grind (arith, nat_tests)

word_is : (d : ℕ) → is_ascii_digit d ≡ true → goes_on d ≡ true
word_is d e = grind (arith, nat_tests)

words_are : (base : ℕ) (ds : List ℕ) → all_digits base ds ≡ true → base ≤ 10 → list_all goes_on ds ≡ true
words_are base [] all le = refl
words_are base (d ∷ ds) all le =
    let parts = and_parts (is_digit d base) (all_digits base ds) all in
    rw (word_is d (digit_is d base parts.0 le)) (words_are base ds parts.1 le)

both_words : (xs ys : List ℕ) → list_all goes_on xs ≡ true → list_all goes_on ys ≡ true → list_all goes_on (xs ++ ys) ≡ true
both_words [] ys all more = more
both_words (x ∷ xs) ys all more =
    let parts = and_parts (goes_on x) (list_all goes_on xs) all in
    rw parts.0 (both_words xs ys parts.1 more)

goes_in : (before b : ℕ) → goes_on b ≡ true → in_number before b ≡ true
goes_in before b e = rw e refl

all_in : (before : ℕ) (bs : List ℕ) → list_all goes_on bs ≡ true → all_in_number before bs ≡ true
all_in before [] all = refl
all_in before (b ∷ bs) all =
    let parts = and_parts (goes_on b) (list_all goes_on bs) all in
    rw (goes_in before b parts.0) (all_in b bs parts.1)

prefix_all : (p : ℕ → Bool) (ds rest : List ℕ) → list_all p ds ≡ true → prefix_len p rest ≡ 0 → prefix_len p (ds ++ rest) ≡ length ds
prefix_all p [] rest all e = e
prefix_all p (d ∷ ds) rest all e =
    let parts = and_parts (p d) (list_all p ds) all in
    let so = prefix_all p ds rest parts.1 e in
    let one : 1 + length ds ≡ suc (length ds) = omega arith in
    rw (parts.0, so, one) refl

-- ---- suffixes

-- a suffix: what it says, that it is of letters, and that no digit begins it
record IsSuffix (text : List ℕ) (unsigned : Bool) (longs : ℕ) : Type 0 where
  says : suffix_of text ≡ Some (unsigned, longs)
  letters : list_all goes_on text ≡ true
  octal : prefix_len (λ b. is_digit b 8) text ≡ 0
  decimal : prefix_len (λ b. is_digit b 10) text ≡ 0
  plain : is_hexadecimal (48 ∷ text) ≡ false

suffixes : (unsigned : Bool) (longs : ℕ) → longs ≤ 2 → IsSuffix (suffix_text unsigned longs) unsigned longs
unfolding suffix_of
suffixes true zero le = record { says = refl; letters = refl; octal = refl; decimal = refl; plain = refl }
suffixes true (suc zero) le = record { says = refl; letters = refl; octal = refl; decimal = refl; plain = refl }
suffixes true (suc (suc zero)) le = record { says = refl; letters = refl; octal = refl; decimal = refl; plain = refl }
suffixes true (suc (suc (suc n))) le = absurd (omega arith)
suffixes false zero le = record { says = refl; letters = refl; octal = refl; decimal = refl; plain = refl }
suffixes false (suc zero) le = record { says = refl; letters = refl; octal = refl; decimal = refl; plain = refl }
suffixes false (suc (suc zero)) le = record { says = refl; letters = refl; octal = refl; decimal = refl; plain = refl }
suffixes false (suc (suc (suc n))) le = absurd (omega arith)

-- ---- literals

integer_is : (base value : ℕ) (ds text : List ℕ) (unsigned : Bool) (longs : ℕ) → all_digits base ds ≡ true → 0 < length ds
    → digits_value base ds ≡ value → value < 2 ^ 64
    → prefix_len (λ b. is_digit b base) text ≡ 0 → suffix_of text ≡ Some (unsigned, longs)
    → integer_in base (ds ++ text) ≡ Token (k.Number value (record { decimal = base == 10; unsigned = unsigned; longs = longs }))
integer_is base value ds text unsigned longs all some e small stops says =
    let len = prefix_all (λ b. is_digit b base) ds text all stops in
    let none : is_empty ds ≡ false = not_empty ds some in
    let t : nat_lt value (2 ^ 64) ≡ true = lt-ltb value (2 ^ 64) small in
    rw (len, take-append_seam ds text, drop-append_seam ds text, says, none, e, t) refl
  where
    not_empty : (xs : List ℕ) → 0 < length xs → is_empty xs ≡ false
    not_empty [] lt = absurd (omega arith)
    not_empty (x ∷ xs) lt = refl

not_hexadecimal : (a : ℕ) (bs : List ℕ) → (a == 48) ≡ false → is_hexadecimal (a ∷ bs) ≡ false
not_hexadecimal a [] e = refl
not_hexadecimal a (b ∷ bs) e = rw e refl

spelled_number : (b : ℕ) (bs : List ℕ) → is_ascii_digit b ≡ true → list_all goes_on bs ≡ true
    → spelled false (b ∷ bs) ≡ Some (number (b ∷ bs))
unfolding spelled
spelled_number b bs e all =
    let space : is_space b ≡ false = grind (arith, nat_tests) in
    let newline : is_newline b ≡ false = grind (arith, nat_tests) in
    let letter : begins_name b ≡ false = grind (arith, nat_tests) in
    rw (space, newline, letter, e, all_in b bs all) refl

decimal_number : (value d : ℕ) (ds text : List ℕ) (unsigned : Bool) (longs : ℕ) → (d == 48) ≡ false → all_digits 10 (d ∷ ds) ≡ true
    → digits_value 10 (d ∷ ds) ≡ value → value < 2 ^ 64 → IsSuffix text unsigned longs
    → spelled false (d ∷ ds ++ text) ≡ Some (Token (k.Number value (record { decimal = true; unsigned = unsigned; longs = longs })))
unfolding number
decimal_number value d ds text unsigned longs first all e small s =
    let parts = and_parts (is_digit d 10) (all_digits 10 ds) all in
    spelled_number d (ds ++ text) (digit_is d 10 parts.0 (omega arith))
    (both_words ds text (words_are 10 ds parts.1 (omega arith)) s.letters)
    ∙ rw (not_hexadecimal d (ds ++ text) first, first)
    (ap (λ p. Some p) (integer_is 10 value (d ∷ ds) text unsigned longs all (omega arith) e small s.decimal s.says))

octal_plain : (ds text : List ℕ) → all_digits 8 ds ≡ true → is_hexadecimal (48 ∷ text) ≡ false → is_hexadecimal (48 ∷ ds ++ text) ≡ false
octal_plain [] text all e = e
octal_plain (d ∷ ds) text all e =
    let parts = and_parts (is_digit d 8) (all_digits 8 ds) all in
    no_x d parts.0
  where
    no_x : (d : ℕ) → is_digit d 8 ≡ true → (d == 120 || d == 88) ≡ false
    no_x d e = grind (arith, nat_tests)

octal_number : (value : ℕ) (ds text : List ℕ) (unsigned : Bool) (longs : ℕ) → all_digits 8 ds ≡ true → digits_value 8 (48 ∷ ds) ≡ value
    → value < 2 ^ 64 → IsSuffix text unsigned longs
    → spelled false (48 ∷ ds ++ text) ≡ Some (Token (k.Number value (record { decimal = false; unsigned = unsigned; longs = longs })))
unfolding number
octal_number value ds text unsigned longs all e small s =
    spelled_number 48 (ds ++ text) refl (both_words ds text (words_are 8 ds all (omega arith)) s.letters)
    ∙ rw (octal_plain ds text all s.plain) (ap (λ p. Some p)
    (integer_is 8 value (48 ∷ ds) text unsigned longs all (omega arith) e small s.octal s.says))

-- ---- the digits that are written

octal_all : (ds : List ℕ) → AllBelowBase 8 ds → all_digits 8 (map octal_digit ds) ≡ true
octal_all [] all = refl
octal_all (d ∷ ds) all = rw (octal_digit_passes d all.0) (octal_all ds all.1)

octal_values : (ds : List ℕ) → AllBelowBase 8 ds → map digit_value (map octal_digit ds) ≡ ds
octal_values [] all = refl
octal_values (d ∷ ds) all = rw (octal_digit_value d all.0) (ap (λ xs. d ∷ xs) (octal_values ds all.1))

octal_value : (value : ℕ) → digits_value 8 (48 ∷ map octal_digit (digits_of 8 value)) ≡ value
octal_value value =
    digits_value_is 8 (map octal_digit (digits_of 8 value))
    ∙ ap (number_from_digits 8) (octal_values (digits_of 8 value) (all_below_base_digits_of 8 value (omega arith)))
    ∙ number_digits_of 8 value (omega arith)

decimal_text : (value : ℕ) (ds text : List ℕ) (unsigned : Bool) (longs : ℕ) → 0 < length ds → 48 < get_or ds 0 0 → all_digits 10 ds ≡ true
    → digits_value 10 ds ≡ value → value < 2 ^ 64 → IsSuffix text unsigned longs
    → spelled false (ds ++ text) ≡ Some (Token (k.Number value (record { decimal = true; unsigned = unsigned; longs = longs })))
decimal_text value [] text unsigned longs some first all e small s = absurd (omega arith)
decimal_text value (d ∷ ds) text unsigned longs some first all e small s =
    decimal_number value d ds text unsigned longs (grind (arith, nat_tests)) all e small s

pub spells_number : (value : ℕ) (kind : NumberKind) → value < 2 ^ 64 → kind.longs ≤ 2 → (kind.decimal ≡ true → 0 < value)
    → spelled false (number_text value kind) ≡ Some (Token (k.Number value kind))
spells_number value kind small longs positive = by_base kind.decimal refl
  where
    by_base : (v : Bool) → kind.decimal ≡ v → spelled false (number_text value kind) ≡ Some (Token (k.Number value kind))
    by_base true e =
        let numeral = decimal_is_IsNumeral value small in
        rw e (decimal_text value (decimal value) (suffix_text kind.unsigned kind.longs) kind.unsigned kind.longs numeral.0.0
        (first_decimal value (positive e) small) (from_all 10 (decimal value) numeral.0.1) numeral.1 small
        (suffixes kind.unsigned kind.longs longs))
    by_base false e =
        rw e (octal_number value (map octal_digit (digits_of 8 value)) (suffix_text kind.unsigned kind.longs) kind.unsigned kind.longs
        (octal_all (digits_of 8 value) (all_below_base_digits_of 8 value (omega arith))) (octal_value value) small
        (suffixes kind.unsigned kind.longs longs))
