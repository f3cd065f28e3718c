-- A literal is spelled by what stands for its bytes.
use Rattle.std.proofs.Common.{◌≡◌, ℕ, suc, ◌+◌, ◌-◌, ◌*◌, ◌/◌, ◌%◌, ◌^◌, ◌<◌, ◌==◌, ◌&&◌, ◌||◌, not, nat_lt, nat_le, Bool, true, false, List, [], ◌∷◌, ◌++◌, length, Some, Ok, refl, ap, ◌∙◌, append_assoc, arith}
use Rattle.std.specs.List.{flat_map, list_all, AllByRecursion}
use Rattle.std.specs.Char.{is_digit}
use Rattle.std.proofs.Math.Bool.{and-false}
use Rattle.std.proofs.lemmas.List.{length-append}
use Rattle.std.proofs.Math.Seq.{take-append_seam}
use Rattle.std.proofs.lemmas.Bool.{lt-ltb, and_parts}
use Rattle.std.proofs.lemmas.Bool.Decides.{nat_tests}
use Rattle.c_tokens.specs.declared.tokens.TokenKind.TheVariants as k
use Rattle.c_tokens.specs.declared.pieces.Piece.TheVariants.{Token}
use Rattle.c_tokens.specs.Literals.{closed, shape, simple_escape, byte_value, escape, Character, character, characters, valued, values, body_of}
use Rattle.c_tokens.specs.Pieces.{in_header, spelled}
use Rattle.c_tokens.specs.Spelling.{octal_digit, escaped, quoted}
use Rattle.c_tokens.proofs.OctalLemmas.{octal_digit_value, octal_digit_passes}

-- ---- one byte

-- how the byte is written
data Written (b : ℕ) : Type 0 where
  behind : (b == 34 || b == 39 || b == 92) ≡ true → escaped b ≡ 92 ∷ b ∷ [] → Written b
  itself : (b == 34) ≡ false → (b == 39) ≡ false → (b == 92) ≡ false → (b == 10) ≡ false → escaped b ≡ b ∷ [] → Written b
  octal : escaped b ≡ 92 ∷ octal_digit (b / 64) ∷ octal_digit (b / 8 % 8) ∷ octal_digit (b % 8) ∷ [] → Written b

written_as : (b : ℕ) (v w : Bool) → (b == 34 || b == 39 || b == 92) ≡ v → (nat_le 32 b && nat_le b 126) ≡ w → Written b
unfolding escaped
written_as b true w e f = behind e (rw e refl)
written_as b false true e f =
    itself (grind (arith, nat_tests)) (grind (arith, nat_tests)) (grind (arith, nat_tests)) (grind (arith, nat_tests)) (rw (e, f) refl)
written_as b false false e f = octal (rw (e, f) refl)

written : (b : ℕ) → Written b
written b = written_as b (b == 34 || b == 39 || b == 92) (nat_le 32 b && nat_le b 126) refl refl

-- ---- where the literal ends

-- what a closing byte is none of
pub record IsQuote (close : ℕ) : Type 0 where
  pub newline : (close == 10) ≡ false
  pub same : (close == close) ≡ true
  pub backslash : (92 == close) ≡ false
  pub plain : (b : ℕ) → (b == 34) ≡ false → (b == 39) ≡ false → (b == close) ≡ false
  pub digit : (d : ℕ) → (octal_digit d == close) ≡ false

pub shape_plain : (close b : ℕ) (bs : List ℕ) → (b == 10) ≡ false → (b == close) ≡ false → (b == 92) ≡ false
    → shape close true false (b ∷ bs) ≡ shape close true false bs
unfolding shape
shape_plain close b bs e f g = rw (e, f, g) refl

pub shape_escaped : (close b : ℕ) (bs : List ℕ) → (b == 10) ≡ false → shape close true true (b ∷ bs) ≡ shape close true false bs
unfolding shape
shape_escaped close b bs e = rw (e, and-false (b == close), and-false (b == 92)) refl

pub shape_backslash : (close : ℕ) (bs : List ℕ) → (92 == close) ≡ false → shape close true false (92 ∷ bs) ≡ shape close true true bs
unfolding shape
shape_backslash close bs e = rw e refl

shape_byte : (close b : ℕ) (rest : List ℕ) → IsQuote close → Written b
    → shape close true false (escaped b ++ rest) ≡ shape close true false rest
shape_byte close b rest q (behind e w) =
    let ten : (b == 10) ≡ false = grind (arith, nat_tests) in
    rw w (shape_backslash close (b ∷ rest) q.backslash ∙ shape_escaped close b rest ten)
shape_byte close b rest q (itself e f g ten w) = rw w (shape_plain close b rest ten (q.plain b e f) g)
shape_byte close b rest q (octal w) =
    rw w
    (shape_backslash close (octal_digit (b / 64) ∷ octal_digit (b / 8 % 8) ∷ octal_digit (b % 8) ∷ rest) q.backslash
    ∙ shape_escaped close (octal_digit (b / 64)) (octal_digit (b / 8 % 8) ∷ octal_digit (b % 8) ∷ rest) (not_ten (b / 64))
    ∙ shape_plain close (octal_digit (b / 8 % 8)) (octal_digit (b % 8) ∷ rest) (not_ten (b / 8 % 8)) (q.digit (b / 8 % 8))
    (not_back (b / 8 % 8) (omega arith))
    ∙ shape_plain close (octal_digit (b % 8)) rest (not_ten (b % 8)) (q.digit (b % 8)) (not_back (b % 8) (omega arith)))
  where
    not_ten : (d : ℕ) → (octal_digit d == 10) ≡ false
    not_ten d = grind (arith, nat_tests)

    not_back : (d : ℕ) → d < 8 → (octal_digit d == 92) ≡ false
    not_back d lt = grind (arith, nat_tests)

shape_all : (close : ℕ) (bytes : List ℕ) → IsQuote close → shape close true false (flat_map escaped bytes ++ close ∷ []) ≡ Some closed
unfolding shape
shape_all close [] q = rw (q.newline, q.same) refl
shape_all close (b ∷ bs) q = ap (shape close true false) (append_assoc (escaped b) (flat_map escaped bs) (close ∷ []))
    ∙ shape_byte close b (flat_map escaped bs ++ close ∷ []) q (written b) ∙ shape_all close bs q

body_push : (xs : List ℕ) (c : ℕ) → body_of (xs ++ c ∷ []) ≡ xs
body_push xs c =
    let len : length (xs ++ c ∷ []) - 1 ≡ length xs = omega (arith, length-append xs (c ∷ [])) in
    rw len (take-append_seam xs (c ∷ []))

-- ---- what its characters are

escape_behind : (b : ℕ) (rest : List ℕ) → (b == 34 || b == 39 || b == 92) ≡ true → escape (b ∷ rest) ≡ (1, Some b)
unfolding escape simple_escape
escape_behind b rest e =
    let digit : is_digit b 8 ≡ false = grind (arith, nat_tests) in
    let x : (b == 120) ≡ false = grind (arith, nat_tests) in
    let simple : (b == 39 || b == 34 || b == 63 || b == 92) ≡ true = grind (arith, nat_tests) in
    rw (digit, x, simple) refl

byte_of : (a b c n : ℕ) → a < 8 → b < 8 → c < 8 → (a * 8 + b) * 8 + c ≡ n → n < 256
    → byte_value 8 (octal_digit a ∷ octal_digit b ∷ octal_digit c ∷ []) ≡ Some n
byte_of a b c n la lb lc e lt =
    let t : nat_lt n 256 ≡ true = lt-ltb n 256 lt in
    let e' : ((0 * 8 + a) * 8 + b) * 8 + c ≡ n = omega arith in
    rw (octal_digit_value a la, octal_digit_value b lb, octal_digit_value c lc, e', t) refl

escape_octal : (a b c n : ℕ) (rest : List ℕ) → a < 8 → b < 8 → c < 8 → (a * 8 + b) * 8 + c ≡ n → n < 256
    → escape (octal_digit a ∷ octal_digit b ∷ octal_digit c ∷ rest) ≡ (3, Some n)
unfolding escape
escape_octal a b c n rest la lb lc e lt =
    rw (octal_digit_passes a la, octal_digit_passes b lb, octal_digit_passes c lc) (ap (λ v. (3, v)) (byte_of a b c n la lb lc e lt))

-- a character that is this byte, and the characters behind it
abbrev then_at : ℕ → ℕ → ℕ → List ℕ → List Character
then_at offset b size rest = character offset (Some b) ∷ characters (offset + size) 0 rest

character_byte : (offset b : ℕ) (rest : List ℕ) → b < 256 → Written b
    → characters offset 0 (escaped b ++ rest) ≡ then_at offset b (length (escaped b)) rest
unfolding characters
character_byte offset b rest lt (behind e w) =
    let two : offset + 2 ≡ suc (suc offset) = omega arith in
    rw (w, two, escape_behind b rest e) refl
character_byte offset b rest lt (itself e f g ten w) =
    let one : offset + 1 ≡ suc offset = omega arith in
    rw (w, one, g) refl
character_byte offset b rest lt (octal w) =
    let four : offset + 4 ≡ suc (suc (suc (suc offset))) = omega arith in
    rw (w, four, escape_octal (b / 64) (b / 8 % 8) (b % 8) b rest (omega arith) (omega arith) (omega arith) (omega arith) lt) refl

value_byte : (offset b : ℕ) (cs : List Character) (vs : List ℕ) → values cs ≡ Ok vs
    → values (character offset (Some b) ∷ cs) ≡ Ok (b ∷ vs)
unfolding values
value_byte offset b cs vs e = ap (valued offset (Some b)) e

abbrev pub AreBytes : List ℕ → Type 0
AreBytes = AllByRecursion (λ b. b < 2 ^ 8)

values_all : (offset : ℕ) (bytes : List ℕ) → AreBytes bytes → values (characters offset 0 (flat_map escaped bytes)) ≡ Ok bytes
unfolding characters values
values_all offset [] are = refl
values_all offset (b ∷ bs) are =
    ap values (character_byte offset b (flat_map escaped bs) are.0 (written b))
    ∙ value_byte offset b (characters (offset + length (escaped b)) 0 (flat_map escaped bs)) bs
    (values_all (offset + length (escaped b)) bs are.1)

-- ---- strings, constants and header names

pub double : IsQuote 34
double = record { newline = refl; same = refl; backslash = refl; plain = λ b e f. e; digit = λ d. grind (arith, nat_tests) }

pub single : IsQuote 39
single = record { newline = refl; same = refl; backslash = refl; plain = λ b e f. f; digit = λ d. grind (arith, nat_tests) }

pub spells_string : (bytes : List ℕ) → AreBytes bytes → spelled false (quoted 34 bytes) ≡ Some (Token (k.Str bytes))
unfolding spelled
spells_string bytes are = rw (shape_all 34 bytes double, body_push (flat_map escaped bytes) 34, values_all 1 bytes are) refl

one_more : (b : ℕ) → b < 256 → characters 1 0 (flat_map escaped (b ∷ [])) ≡ character 1 (Some b) ∷ []
unfolding characters
one_more b lt = character_byte 1 b [] lt (written b)

pub spells_constant : (b : ℕ) → b < 256 → spelled false (quoted 39 (b ∷ [])) ≡ Some (Token (k.CharConst b))
unfolding spelled
spells_constant b lt = rw (shape_all 39 (b ∷ []) single, body_push (flat_map escaped (b ∷ [])) 39, one_more b lt) refl

header_step : (b : ℕ) (bs : List ℕ) (v w : Bool) → (b == 10) ≡ v → (b == 62) ≡ w → not (v || w) ≡ true
    → shape 62 false false (b ∷ bs) ≡ shape 62 false false bs
unfolding shape
header_step b bs true w e f out = absurd cc
header_step b bs false true e f out = absurd cc
header_step b bs false false e f out = rw (e, f) refl

shape_header : (name : List ℕ) → list_all in_header name ≡ true → shape 62 false false (name ++ 62 ∷ []) ≡ Some closed
unfolding shape
shape_header [] all = refl
shape_header (b ∷ bs) all =
    let parts = and_parts (in_header b) (list_all in_header bs) all in
    header_step b (bs ++ 62 ∷ []) (b == 10) (b == 62) refl refl parts.0 ∙ shape_header bs parts.1

pub spells_header : (name : List ℕ) → list_all in_header name ≡ true
    → spelled true (60 ∷ name ++ 62 ∷ []) ≡ Some (Token (k.HeaderName name))
unfolding spelled
spells_header name all = rw (shape_header name all, body_push name 62) refl
