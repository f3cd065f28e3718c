-- What a byte string that is a token has: a kind of a lexed token, and no newline.
use Rattle.std.proofs.Common.{◌≡◌, ℕ, suc, ◌+◌, ◌-◌, ◌*◌, ◌^◌, ◌<◌, ◌≤◌, ◌==◌, ◌&&◌, not, nat_lt, Bool, true, false, if◌then◌else◌, List, [], ◌∷◌, length, take, drop, Option, Some, None, option_map, Result, Ok, Err, refl, ap, ◌∙◌, subst, arith}
use Rattle.std.specs.List.{list_all, prefix_len, take_while}
use Rattle.std.specs.Char.{digit_value, is_digit, is_ascii_digit}
use Rattle.std.specs.Str.Parse.{digits_value, digits_value_after}
use Rattle.std.proofs.lemmas.Bool.{ltb-true, and_parts, eqb-true}
use Rattle.std.proofs.lemmas.Bool.Decides.{nat_tests}
use Rattle.fc_base.specs.declared.rules.Rule.TheVariants.{OpenText, LeftOutLiteral, BigNumber}
use Rattle.c_tokens.specs.declared.puncts.Punct.{Punct}
use Rattle.c_tokens.specs.declared.puncts.Punct.TheVariants as p
use Rattle.c_tokens.specs.declared.tokens.TokenKind.{TokenKind}
use Rattle.c_tokens.specs.declared.tokens.TokenKind.TheVariants as k
use Rattle.c_tokens.specs.declared.pieces.Piece.{Piece}
use Rattle.c_tokens.specs.declared.pieces.Piece.TheVariants.{Space, Newline, Token, Refused}
use Rattle.c_tokens.specs.Bytes.{is_space, is_newline, begins_name, goes_on, is_empty}
use Rattle.c_tokens.specs.Puncts.{punct_spelling, punctuator}
use Rattle.c_tokens.specs.Numbers.{in_number, all_in_number, is_ll, is_u, is_l, suffix_of, number_kind, integer, integer_in, is_hexadecimal, begins_zero, number}
use Rattle.c_tokens.specs.Literals.{Shape, closed, unclosed, shape, Character, characters, values, body_of, string_of, constant_of, one_character, string, constant, header, literal_piece}
use Rattle.c_tokens.specs.Pieces.{alone, word, is_prefixed, number_from, comment, punct_piece, after_slash, after_dot, spelled, in_header, IsLexedKind}
use Rattle.c_tokens.proofs.PunctLaw.{punct_text}

abbrev pub on_line : List ℕ → Bool
on_line = list_all (λ b. not (is_newline b))

pub record Facts (text : List ℕ) (kind : TokenKind) : Type 0 where
  pub lexed : IsLexedKind kind
  pub line : on_line text ≡ true

facts_at : (text : List ℕ) (a b : TokenKind) → a ≡ b → Facts text a → Facts text b
facts_at text a b e f = let P : TokenKind → Type 0 = λ kind. Facts text kind in subst P e f

same_kind : (a b : TokenKind) → Some (Token a) ≡ Some (Token b) → a ≡ b
same_kind a b e = cc

-- ---- words

word_on : (b : ℕ) → goes_on b ≡ true → not (is_newline b) ≡ true
word_on b e = grind (arith, nat_tests)

words_on : (bs : List ℕ) → list_all goes_on bs ≡ true → on_line bs ≡ true
words_on [] all = refl
words_on (b ∷ bs) all =
    let parts = and_parts (goes_on b) (list_all goes_on bs) all in
    rw (word_on b parts.0) (words_on bs parts.1)

letter_on : (b : ℕ) → begins_name b ≡ true → not (is_newline b) ≡ true
letter_on b e = grind (arith, nat_tests)

word_facts : (b : ℕ) (bs : List ℕ) (kind : TokenKind) (v w : Bool) → list_all goes_on bs ≡ v → is_prefixed (b ∷ bs) ≡ w
    → begins_name b ≡ true → word b bs ≡ Some (Token kind) → Facts (b ∷ bs) kind
word_facts b bs kind true w e f letter is =
    let is' : Some (Token (k.Name (b ∷ bs))) ≡ Some (Token kind) = rw e at is in
    facts_at (b ∷ bs) (k.Name (b ∷ bs)) kind (same_kind (k.Name (b ∷ bs)) kind is')
    (record { lexed = rw letter e; line = rw (letter_on b letter) (words_on bs e) })
word_facts b bs kind false true e f letter is =
    let no_token : Some (Refused LeftOutLiteral 0) ≡ Some (Token kind) = rw (e, f) at is in absurd cc
word_facts b bs kind false false e f letter is = let nothing : None ≡ Some (Token kind) = rw (e, f) at is in absurd cc

-- ---- punctuators

spelling_on : (punct : Punct) → on_line (punct_spelling punct) ≡ true
spelling_on p.LeftBracket = refl
spelling_on _ = refl

punct_found : (text : List ℕ) (kind : TokenKind) (o : Option Punct) → punctuator text ≡ o
    → option_map (λ p. Token (k.Punct p)) o ≡ Some (Token kind) → Facts text kind
punct_found text kind None e is = absurd cc
punct_found text kind (Some punct) e is =
    facts_at text (k.Punct punct) kind (same_kind (k.Punct punct) kind is)
    (record { lexed = tt; line = ap on_line (punct_text text punct e) ∙ spelling_on punct })

punct_facts : (text : List ℕ) (kind : TokenKind) → punct_piece text ≡ Some (Token kind) → Facts text kind
punct_facts text kind is = punct_found text kind (punctuator text) refl is

-- ---- comments

comment_step : (star : Bool) (b : ℕ) (bs : List ℕ) (kind : TokenKind) (v : Bool) → (star && b == 47) ≡ v
    → (comment (b == 42) bs ≡ Some (Token kind) → ⊥) → comment star (b ∷ bs) ≡ Some (Token kind) → ⊥
unfolding comment
comment_step star b [] kind true e so is = let piece : Some Space ≡ Some (Token kind) = rw e at is in cc
comment_step star b (c ∷ bs) kind true e so is = let piece : None ≡ Some (Token kind) = rw e at is in cc
comment_step star b bs kind false e so is = so (rw e at is)

comment_none : (star : Bool) (bs : List ℕ) (kind : TokenKind) → comment star bs ≡ Some (Token kind) → ⊥
unfolding comment
comment_none star [] kind is = cc
comment_none star (b ∷ bs) kind is = comment_step star b bs kind (star && b == 47) refl (comment_none (b == 42) bs kind) is

line_none : (v : Bool) (kind : TokenKind) → (if v then Some Space else None) ≡ Some (Token kind) → ⊥
line_none true kind is = cc
line_none false kind is = cc

slash_step : (b : ℕ) (bs : List ℕ) (kind : TokenKind) (v w : Bool) → (b == 47) ≡ v → (b == 42) ≡ w
    → after_slash (b ∷ bs) ≡ Some (Token kind) → Facts (47 ∷ b ∷ bs) kind
slash_step b bs kind true w e f is = absurd (line_none (list_all (λ c. not (is_newline c)) bs) kind (rw e at is))
slash_step b bs kind false true e f is = absurd (comment_none false bs kind (rw (e, f) at is))
slash_step b bs kind false false e f is = punct_facts (47 ∷ b ∷ bs) kind (rw (e, f) at is)

slash_facts : (bs : List ℕ) (kind : TokenKind) → after_slash bs ≡ Some (Token kind) → Facts (47 ∷ bs) kind
slash_facts [] kind is = punct_facts (47 ∷ []) kind is
slash_facts (b ∷ bs) kind is = slash_step b bs kind (b == 47) (b == 42) refl refl is

-- ---- numbers

number_on : (before b : ℕ) → in_number before b ≡ true → not (is_newline b) ≡ true
number_on before b e = grind (arith, nat_tests)

numbers_on : (before : ℕ) (bs : List ℕ) → all_in_number before bs ≡ true → on_line bs ≡ true
numbers_on before [] all = refl
numbers_on before (b ∷ bs) all =
    let parts = and_parts (in_number before b) (all_in_number b bs) all in
    rw (number_on before b parts.0) (numbers_on b bs parts.1)

suffix_pick : (v x : Bool) (n : ℕ) (rest : Option (Bool × ℕ)) (s : Bool × ℕ) → n ≤ 2 → (rest ≡ Some s → s.1 ≤ 2)
    → (if v then Some (x, n) else rest) ≡ Some s → s.1 ≤ 2
suffix_pick true x n rest s le so is =
    let pair : (x, n) ≡ s = cc in
    let same : n ≡ s.1 = ap (λ (r : Bool × ℕ). r.1) pair in
    rw (← same) le
suffix_pick false x n rest s le so is = so is

suffix_none : (s : Bool × ℕ) → None ≡ Some s → s.1 ≤ 2
suffix_none s is = absurd cc

suffix_longs : (text : List ℕ) (s : Bool × ℕ) → suffix_of text ≡ Some s → s.1 ≤ 2
unfolding suffix_of
suffix_longs [] s is = suffix_pick true false 0 None s (omega arith) (suffix_none s) is
suffix_longs (a ∷ []) s is =
    suffix_pick (is_u a) true 0 _ s (omega arith) (suffix_pick (is_l a) false 1 None s (omega arith) (suffix_none s)) is
suffix_longs (a ∷ b ∷ []) s is =
    suffix_pick (is_u a && is_l b) true 1 _ s (omega arith)
    (suffix_pick (is_l a && is_u b) true 1 _ s (omega arith) (suffix_pick (is_ll a b) false 2 None s (omega arith) (suffix_none s))) is
suffix_longs (a ∷ b ∷ c ∷ []) s is =
    suffix_pick (is_u a && is_ll b c) true 2 _ s (omega arith)
    (suffix_pick (is_ll a b && is_u c) true 2 None s (omega arith) (suffix_none s)) is
suffix_longs (a ∷ b ∷ c ∷ d ∷ ds) s is = absurd cc

digits_grow : (n : ℕ) (ds : List ℕ) → n ≤ digits_value_after 10 n ds
digits_grow n [] = omega arith
digits_grow n (d ∷ ds) = let so = digits_grow (n * 10 + digit_value d) ds in omega (arith, so)

digit_positive : (d : ℕ) → is_digit d 10 ≡ true → (d == 48) ≡ false → 0 < digit_value d
digit_positive d e f = grind (arith, nat_tests)

positive_step : (a : ℕ) (rest : List ℕ) (v : Bool) → is_digit a 10 ≡ v → (a == 48) ≡ false
    → is_empty (take_while (λ b. is_digit b 10) (a ∷ rest)) ≡ false → 0 < digits_value 10 (take_while (λ b. is_digit b 10) (a ∷ rest))
positive_step a rest true e other some =
    let one : 1 + prefix_len (λ b. is_digit b 10) rest ≡ suc (prefix_len (λ b. is_digit b 10) rest) = omega arith in
    let grow = digits_grow (0 * 10 + digit_value a) (take (prefix_len (λ b. is_digit b 10) rest) rest) in
    let more = digit_positive a e other in
    rw (e, one) (omega (arith, grow, more))
positive_step a rest false e other some = let none : true ≡ false = rw e at some in absurd cc

positive : (text : List ℕ) → begins_zero text ≡ false → is_empty (take_while (λ b. is_digit b 10) text) ≡ false
    → 0 < digits_value 10 (take_while (λ b. is_digit b 10) text)
positive [] other some = absurd cc
positive (a ∷ rest) other some = positive_step a rest (is_digit a 10) refl other some

lexed_at : (a b : TokenKind) → a ≡ b → IsLexedKind a → IsLexedKind b
lexed_at a b e h = let P : TokenKind → Type 0 = λ kind. IsLexedKind kind in subst P e h

token_kind : (a b : TokenKind) → Token a ≡ Token b → a ≡ b
token_kind a b e = cc

integer_step : (base : ℕ) (digits text : List ℕ) (s : Bool × ℕ) (kind : TokenKind) (v w : Bool) → is_empty digits ≡ v
    → nat_lt (digits_value base digits) (2 ^ 64) ≡ w → suffix_of text ≡ Some s
    → ((base == 10) ≡ true → is_empty digits ≡ false → 0 < digits_value base digits) → integer base digits (Some s) ≡ Token kind
    → IsLexedKind kind
integer_step base digits text s kind true w e f suffix pos is =
    let no_token : Refused LeftOutLiteral 0 ≡ Token kind = rw e at is in absurd cc
integer_step base digits text s kind false true e f suffix pos is =
    let is' : Token (k.Number (digits_value base digits) (number_kind base s)) ≡ Token kind = rw (e, f) at is in
    lexed_at (k.Number (digits_value base digits) (number_kind base s)) kind
    (token_kind (k.Number (digits_value base digits) (number_kind base s)) kind is')
    (ltb-true (digits_value base digits) (2 ^ 64) f, suffix_longs text s suffix, λ t. pos t e)
integer_step base digits text s kind false false e f suffix pos is =
    let no_token : Refused BigNumber 0 ≡ Token kind = rw (e, f) at is in absurd cc

integer_facts : (base : ℕ) (digits text : List ℕ) (o : Option (Bool × ℕ)) (kind : TokenKind) → suffix_of text ≡ o
    → ((base == 10) ≡ true → is_empty digits ≡ false → 0 < digits_value base digits) → integer base digits o ≡ Token kind
    → IsLexedKind kind
integer_facts base digits text None kind suffix pos is = absurd cc
integer_facts base digits text (Some s) kind suffix pos is =
    integer_step base digits text s kind (is_empty digits) (nat_lt (digits_value base digits) (2 ^ 64)) refl refl suffix pos is

in_base : (base : ℕ) (body : List ℕ) (kind : TokenKind)
    → ((base == 10) ≡ true → is_empty (take_while (λ b. is_digit b base) body) ≡ false
    → 0 < digits_value base (take_while (λ b. is_digit b base) body)) → integer_in base body ≡ Token kind → IsLexedKind kind
in_base base body kind pos is =
    integer_facts base (take_while (λ b. is_digit b base) body) (drop (prefix_len (λ b. is_digit b base) body) body)
    (suffix_of (drop (prefix_len (λ b. is_digit b base) body) body)) kind refl pos is

number_step : (text : List ℕ) (kind : TokenKind) (v w : Bool) → is_hexadecimal text ≡ v → begins_zero text ≡ w → number text ≡ Token kind
    → IsLexedKind kind
unfolding number
number_step text kind true w e f is = in_base 16 (drop 2 text) kind (λ t. absurd cc) (rw e at is)
number_step text kind false true e f is = in_base 8 text kind (λ t. absurd cc) (rw (e, f) at is)
number_step text kind false false e f is = in_base 10 text kind (λ t some. positive text f some) (rw (e, f) at is)

number_facts : (text : List ℕ) (before : ℕ) (bs : List ℕ) (kind : TokenKind) (v : Bool) → all_in_number before bs ≡ v
    → number_from text before bs ≡ Some (Token kind) → IsLexedKind kind × (on_line bs ≡ true)
number_facts text before bs kind true e is =
    let is' : Some (number text) ≡ Some (Token kind) = rw e at is in
    let token : number text ≡ Token kind = cc in
    (number_step text kind (is_hexadecimal text) (begins_zero text) refl refl token, numbers_on before bs e)
number_facts text before bs kind false e is = let nothing : None ≡ Some (Token kind) = rw e at is in absurd cc

digit_on : (b : ℕ) → is_ascii_digit b ≡ true → not (is_newline b) ≡ true
digit_on b e = grind (arith, nat_tests)

digits_facts : (b : ℕ) (bs : List ℕ) (kind : TokenKind) → is_ascii_digit b ≡ true → number_from (b ∷ bs) b bs ≡ Some (Token kind)
    → Facts (b ∷ bs) kind
digits_facts b bs kind digit is =
    let facts = number_facts (b ∷ bs) b bs kind (all_in_number b bs) refl is in
    record { lexed = facts.0; line = rw (digit_on b digit) facts.1 }

dot_step : (b : ℕ) (bs : List ℕ) (kind : TokenKind) (v : Bool) → is_ascii_digit b ≡ v → after_dot (b ∷ bs) ≡ Some (Token kind)
    → Facts (46 ∷ b ∷ bs) kind
dot_step b bs kind true e is =
    let facts = number_facts (46 ∷ b ∷ bs) b bs kind (all_in_number b bs) refl (rw e at is) in
    record { lexed = facts.0; line = rw (digit_on b e) facts.1 }
dot_step b bs kind false e is = punct_facts (46 ∷ b ∷ bs) kind (rw e at is)

dot_facts : (bs : List ℕ) (kind : TokenKind) → after_dot bs ≡ Some (Token kind) → Facts (46 ∷ bs) kind
dot_facts [] kind is = punct_facts (46 ∷ []) kind is
dot_facts (b ∷ bs) kind is = dot_step b bs kind (is_ascii_digit b) refl is

-- ---- literals

shape_step : (close : ℕ) (escapes escaped : Bool) (b : ℕ) (bs : List ℕ) (s : Shape) (v w : Bool) → (b == 10) ≡ v
    → (b == close && not escaped) ≡ w
    → (shape close escapes (escapes && b == 92 && not escaped) bs ≡ Some s → on_line bs ≡ true)
    → shape close escapes escaped (b ∷ bs) ≡ Some s → on_line (b ∷ bs) ≡ true
unfolding shape
shape_step close escapes escaped b bs s true w e f so is = let nothing : None ≡ Some s = rw e at is in absurd cc
shape_step close escapes escaped b [] s false true e f so is = rw e refl
shape_step close escapes escaped b (c ∷ cs) s false true e f so is = let nothing : None ≡ Some s = rw (e, f) at is in absurd cc
shape_step close escapes escaped b bs s false false e f so is = rw e (so (rw (e, f) at is))

shape_on : (close : ℕ) (escapes escaped : Bool) (bs : List ℕ) (s : Shape) → shape close escapes escaped bs ≡ Some s → on_line bs ≡ true
unfolding shape
shape_on close escapes escaped [] s is = refl
shape_on close escapes escaped (b ∷ bs) s is =
    shape_step close escapes escaped b bs s (b == 10) (b == close && not escaped) refl refl
    (shape_on close escapes (escapes && b == 92 && not escaped) bs s) is

-- a literal that is a token is closed
literal_found : (close : ℕ) (escapes : Bool) (of : Shape → List ℕ → Piece) (bs : List ℕ) (kind : TokenKind) (o : Option Shape)
    → of unclosed bs ≡ Refused OpenText 0 → shape close escapes false bs ≡ o
    → option_map (λ s. of s bs) o ≡ Some (Token kind)
    → (of closed bs ≡ Token kind) × (shape close escapes false bs ≡ Some closed) × (on_line bs ≡ true)
literal_found close escapes of bs kind None unclosed_is e is = absurd cc
literal_found close escapes of bs kind (Some unclosed) unclosed_is e is =
    let refused : Some (Refused OpenText 0) ≡ Some (Token kind) = rw unclosed_is at is in absurd cc
literal_found close escapes of bs kind (Some closed) unclosed_is e is =
    ((let token : of closed bs ≡ Token kind = cc in token), e, shape_on close escapes false bs closed e)

string_kind : (r : Result (List ℕ) ℕ) (kind : TokenKind) → string_of r ≡ Token kind → IsLexedKind kind
string_kind (Ok bytes) kind is = lexed_at (k.Str bytes) kind (token_kind (k.Str bytes) kind is) tt
string_kind (Err offset) kind is = absurd cc

character_kind : (offset : ℕ) (value : Option ℕ) (kind : TokenKind) → one_character offset value ≡ Token kind → IsLexedKind kind
character_kind offset None kind is = absurd cc
character_kind offset (Some b) kind is = lexed_at (k.CharConst b) kind (token_kind (k.CharConst b) kind is) tt

constant_kind : (cs : List Character) (kind : TokenKind) → constant_of cs ≡ Token kind → IsLexedKind kind
constant_kind [] kind is = absurd cc
constant_kind (c ∷ []) kind is = character_kind c.offset c.value kind is
constant_kind (c ∷ d ∷ cs) kind is = absurd cc

string_facts : (bs : List ℕ) (kind : TokenKind) → literal_piece 34 true string bs ≡ Some (Token kind) → Facts (34 ∷ bs) kind
string_facts bs kind is =
    let found = literal_found 34 true string bs kind (shape 34 true false bs) refl refl is in
    record { lexed = string_kind (values (characters 1 0 (body_of bs))) kind found.0; line = found.2 }

constant_facts : (bs : List ℕ) (kind : TokenKind) → literal_piece 39 true constant bs ≡ Some (Token kind) → Facts (39 ∷ bs) kind
constant_facts bs kind is =
    let found = literal_found 39 true constant bs kind (shape 39 true false bs) refl refl is in
    record { lexed = constant_kind (characters 1 0 (body_of bs)) kind found.0; line = found.2 }

header_step : (b c : ℕ) (cs : List ℕ) (v w : Bool) → (b == 10) ≡ v → (b == 62) ≡ w
    → (shape 62 false false (c ∷ cs) ≡ Some closed → list_all in_header (take (length (c ∷ cs) - 1) (c ∷ cs)) ≡ true)
    → shape 62 false false (b ∷ c ∷ cs) ≡ Some closed → list_all in_header (take (length (b ∷ c ∷ cs) - 1) (b ∷ c ∷ cs)) ≡ true
unfolding shape
header_step b c cs true w e f so is = let nothing : None ≡ Some closed = rw e at is in absurd cc
header_step b c cs false true e f so is = let nothing : None ≡ Some closed = rw (e, f) at is in absurd cc
header_step b c cs false false e f so is =
    let size : length (b ∷ c ∷ cs) - 1 ≡ suc (length (c ∷ cs) - 1) = omega arith in
    rw (size, e, f) (so (rw (e, f) at is))

header_body : (bs : List ℕ) → shape 62 false false bs ≡ Some closed → list_all in_header (body_of bs) ≡ true
unfolding shape
header_body [] is = refl
header_body (b ∷ []) is = refl
header_body (b ∷ c ∷ cs) is = header_step b c cs (b == 10) (b == 62) refl refl (header_body (c ∷ cs)) is

header_facts : (bs : List ℕ) (kind : TokenKind) → literal_piece 62 false header bs ≡ Some (Token kind) → Facts (60 ∷ bs) kind
header_facts bs kind is =
    let found = literal_found 62 false header bs kind (shape 62 false false bs) refl refl is in
    facts_at (60 ∷ bs) (k.HeaderName (body_of bs)) kind (token_kind (k.HeaderName (body_of bs)) kind found.0)
    (record { lexed = header_body bs found.1; line = found.2 })

-- ---- all tokens

facts_from : (b n : ℕ) (bs : List ℕ) (kind : TokenKind) → (b == n) ≡ true → Facts (n ∷ bs) kind → Facts (b ∷ bs) kind
facts_from b n bs kind e f = let same : b ≡ n = eqb-true b n e in rw same f

alone_none : (piece : Piece) (bs : List ℕ) (kind : TokenKind) → (piece ≡ Token kind → ⊥) → alone piece bs ≡ Some (Token kind) → ⊥
alone_none piece [] kind other is = other (let same : piece ≡ Token kind = cc in same)
alone_none piece (b ∷ bs) kind other is = cc

quote_facts : (after_include : Bool) (b : ℕ) (bs : List ℕ) (kind : TokenKind) (v w x : Bool) → (b == 34) ≡ v → (b == 39) ≡ w
    → (b == 60 && after_include) ≡ x
    → (if b == 34 then literal_piece 34 true string bs
    else (if b == 39 then literal_piece 39 true constant bs
    else (if b == 60 && after_include then literal_piece 62 false header bs else punct_piece (b ∷ bs)))) ≡ Some (Token kind)
    → Facts (b ∷ bs) kind
quote_facts after_include b bs kind true w x e f g is = facts_from b 34 bs kind e (string_facts bs kind (rw e at is))
quote_facts after_include b bs kind false true x e f g is = facts_from b 39 bs kind f (constant_facts bs kind (rw (e, f) at is))
quote_facts after_include b bs kind false false true e f g is =
    let parts = and_parts (b == 60) after_include g in
    facts_from b 60 bs kind parts.0 (header_facts bs kind (rw (e, f, g) at is))
quote_facts after_include b bs kind false false false e f g is = punct_facts (b ∷ bs) kind (rw (e, f, g) at is)

facts_step : (after_include : Bool) (b : ℕ) (bs : List ℕ) (kind : TokenKind) (v w x y z t : Bool) → is_space b ≡ v → is_newline b ≡ w
    → begins_name b ≡ x → is_ascii_digit b ≡ y → (b == 46) ≡ z → (b == 47) ≡ t
    → spelled after_include (b ∷ bs) ≡ Some (Token kind) → Facts (b ∷ bs) kind
unfolding spelled
facts_step after_include b bs kind true w x y z t c d e f g h is = absurd (alone_none Space bs kind (λ same. cc) (rw c at is))
facts_step after_include b bs kind false true x y z t c d e f g h is = absurd (alone_none Newline bs kind (λ same. cc) (rw (c, d) at is))
facts_step after_include b bs kind false false true y z t c d e f g h is =
    word_facts b bs kind (list_all goes_on bs) (is_prefixed (b ∷ bs)) refl refl e (rw (c, d, e) at is)
facts_step after_include b bs kind false false false true z t c d e f g h is = digits_facts b bs kind f (rw (c, d, e, f) at is)
facts_step after_include b bs kind false false false false true t c d e f g h is =
    facts_from b 46 bs kind g (dot_facts bs kind (rw (c, d, e, f, g) at is))
facts_step after_include b bs kind false false false false false true c d e f g h is =
    facts_from b 47 bs kind h (slash_facts bs kind (rw (c, d, e, f, g, h) at is))
facts_step after_include b bs kind false false false false false false c d e f g h is =
    quote_facts after_include b bs kind (b == 34) (b == 39) (b == 60 && after_include) refl refl refl (rw (c, d, e, f, g, h) at is)

pub token_facts : (after_include : Bool) (text : List ℕ) (kind : TokenKind) → spelled after_include text ≡ Some (Token kind)
    → Facts text kind
unfolding spelled
token_facts after_include [] kind is = absurd cc
token_facts after_include (b ∷ bs) kind is =
    facts_step after_include b bs kind (is_space b) (is_newline b) (begins_name b) (is_ascii_digit b) (b == 46)
    (b == 47) refl refl refl refl refl refl is
