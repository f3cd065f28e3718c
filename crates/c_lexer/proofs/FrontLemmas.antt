-- The longest pieces, by their first bytes.
use Rattle.std.proofs.Common.{◌≡◌, ℕ, zero, suc, ◌+◌, ◌<◌, ◌==◌, ◌&&◌, not, nat_lt, Bool, true, false, if◌then◌else◌, List, [], ◌∷◌, length, take, drop, Option, Some, None, option_map, refl, sym, ap, ◌∙◌, arith}
use Rattle.std.specs.List.{prefix_len, list_all}
use Rattle.std.specs.Option.{option_or}
use Rattle.std.specs.Char.{is_ascii_digit}
use Rattle.std.proofs.lemmas.Bool.{eqb-true}
use Rattle.std.proofs.lemmas.Bool.Decides.{nat_tests}
use Rattle.fc_base.specs.declared.rules.Rule.TheVariants.{LeftOutLiteral}
use Rattle.c_tokens.specs.declared.tokens.TokenKind.TheVariants as k
use Rattle.c_tokens.specs.declared.puncts.Punct.{Punct}
use Rattle.c_tokens.specs.declared.pieces.Piece.{Piece}
use Rattle.c_tokens.specs.declared.pieces.Piece.TheVariants.{Space, Newline, Token, Refused}
use Rattle.c_tokens.specs.Bytes.{is_space, is_newline, begins_name, goes_on, is_quote}
use Rattle.c_tokens.specs.Numbers.{number}
use Rattle.c_tokens.specs.Literals.{Shape, string, constant, header, literal_piece}
use Rattle.c_tokens.specs.Pieces.{alone, is_prefixed, word, number_from, comment, punct_piece, after_slash, after_dot, spelled}
use Rattle.c_lexer.specs.Longest.{further, longest}
use Rattle.c_lexer.specs.Runs.{one_byte, two_bytes, three_bytes, literal_front, with_length}
use Rattle.c_lexer.specs.Fronts.{punct_front, first_operator, word_of, first_word, first_number, first_dot, first_slash, first_other, first_piece}
use Rattle.c_lexer.proofs.PunctTree.{by_bytes, by_bytes_is}
use Rattle.c_lexer.proofs.Longest.{longest_same, longest_first, longest_run, longest_all, longest_number, longest_literal, longest_comment, EndsAt, after_run, past_run}

pub word_is : (text rest : List ℕ) (n : ℕ) → 0 < length text → rest ≡ drop 1 text → n ≡ prefix_len goes_on rest
    → Some (word_of (n + 1) text) ≡ first_word text
unfolding first_word
word_is [] rest n lt same e = absurd (omega arith)
word_is (b ∷ bs) rest n lt same e = let e' : n ≡ prefix_len goes_on bs = e ∙ ap (prefix_len goes_on) same in rw e' refl

-- ---- punctuators

abbrev token_of : Option Punct → Option Piece
token_of = option_map (λ p. Token (k.Punct p))

one_of : (a : Option Punct) → further {X = Piece} None (option_map (λ x. (0, x)) (token_of a)) ≡ option_map punct_front (with_length 1 a)
one_of None = refl
one_of (Some a) = refl

two_of : (a b : Option Punct)
    → further {X = Piece} None (further (token_of a) (option_map (λ x. (0, x)) (token_of b)))
    ≡ option_map punct_front (option_or (with_length 2 b) (with_length 1 a))
two_of None None = refl
two_of (Some a) None = refl
two_of None (Some b) = refl
two_of (Some a) (Some b) = refl

three_of : (a b c : Option Punct)
    → further {X = Piece} None (further (token_of a) (further (token_of b) (option_map (λ x. (0, x)) (token_of c))))
    ≡ option_map punct_front (option_or (with_length 3 c) (option_or (with_length 2 b) (with_length 1 a)))
three_of None None None = refl
three_of (Some a) None None = refl
three_of None (Some b) None = refl
three_of (Some a) (Some b) None = refl
three_of None None (Some c) = refl
three_of (Some a) None (Some c) = refl
three_of None (Some b) (Some c) = refl
three_of (Some a) (Some b) (Some c) = refl

abbrev by_bytes_piece : List ℕ → Option Piece
by_bytes_piece text = token_of (by_bytes text)

longest_by_bytes : (text : List ℕ) → longest by_bytes_piece text ≡ first_operator text
unfolding longest
longest_by_bytes [] = refl
longest_by_bytes (a ∷ []) = one_of (one_byte a)
longest_by_bytes (a ∷ b ∷ []) = two_of (one_byte a) (two_bytes a b)
longest_by_bytes (a ∷ b ∷ c ∷ rest) =
    ap (λ r. further None (further (token_of (one_byte a)) (further (token_of (two_bytes a b)) r)))
    (longest_first (λ front. by_bytes_piece (a ∷ b ∷ c ∷ front)) (λ d front. refl) rest)
    ∙ three_of (one_byte a) (two_bytes a b) (three_bytes a b c)

longest_operator : (text : List ℕ) → longest punct_piece text ≡ first_operator text
longest_operator text = longest_same punct_piece by_bytes_piece (λ front. ap token_of (by_bytes_is front)) text ∙ longest_by_bytes text

-- the longest one that begins with a byte
operator_front : (b : ℕ) (bs : List ℕ) → further None (longest (λ front. punct_piece (b ∷ front)) bs) ≡ first_operator (b ∷ bs)
unfolding longest
operator_front b bs =
    let none : punct_piece [] ≡ None = ap token_of (by_bytes_is []) in
    ap (λ (o : Option Piece). further o (longest (λ front. punct_piece (b ∷ front)) bs)) (sym none) ∙ longest_operator (b ∷ bs)

-- ---- identifiers

pub past_is : {X : Type 0} (g : List ℕ → Option X) (n : ℕ) (bs : List ℕ)
    → past_run g n bs ≡ (if nat_lt n (length bs) then g (take (suc n) bs) else None)
past_is g zero [] = refl
past_is g zero (b ∷ bs) = let t : nat_lt 0 (suc (length bs)) ≡ true = grind (arith, nat_tests) in rw t refl
past_is g (suc n) [] = let f : nat_lt (suc n) 0 ≡ false = grind (arith, nat_tests) in rw f refl
past_is g (suc n) (b ∷ bs) =
    let same : nat_lt (suc n) (suc (length bs)) ≡ nat_lt n (length bs) = grind (arith, nat_tests) in
    past_is (λ front. g (b ∷ front)) n bs ∙ rw same refl

abbrev prefixed : ℕ → List ℕ → Option Piece
prefixed b front = if is_prefixed (b ∷ front) then Some (Refused LeftOutLiteral 0) else None

not_eight : (c : ℕ) → goes_on c ≡ false → (c == 56) ≡ false
not_eight c out = grind (arith, nat_tests)

never : (x y : Bool) → (x && false && y) ≡ false
never true y = refl
never false y = refl

word_ends : (b : ℕ) → EndsAt goes_on (prefixed b)
word_ends b [] c d [] all out = rw (not_eight c out, never (b == 117) (is_quote d)) refl
word_ends b [] c d (e ∷ rest) all out = refl
word_ends b (x ∷ []) c d rest all out = refl
word_ends b (x ∷ y ∷ []) c d rest all out = refl
word_ends b (x ∷ y ∷ z ∷ front) c d rest all out = refl

word_joined : (b n : ℕ) (bs : List ℕ) (v w : Bool) → nat_lt n (length bs) ≡ v → is_prefixed (b ∷ take (suc n) bs) ≡ w
    → further {X = Piece} None
    (Some (after_run n (Token (k.Name (b ∷ take n bs))) (if nat_lt n (length bs) then prefixed b (take (suc n) bs) else None)))
    ≡ Some (word_of (n + 1) (b ∷ bs))
word_joined b n bs v w e f =
    let same : nat_lt (n + 1) (suc (length bs)) ≡ nat_lt n (length bs) = grind (arith, nat_tests) in
    let one : n + 1 ≡ suc n = omega arith in
    let two : suc n + 1 ≡ suc (suc n) = omega arith in
    rw (same, one, two) (joined v w e f)
  where
    joined : (v w : Bool) → nat_lt n (length bs) ≡ v → is_prefixed (b ∷ take (suc n) bs) ≡ w
        → further {X = Piece} None
        (Some (after_run n (Token (k.Name (b ∷ take n bs))) (if nat_lt n (length bs) then prefixed b (take (suc n) bs) else None)))
        ≡ Some (if nat_lt n (length bs) && is_prefixed (b ∷ take (suc n) bs) then (suc (suc n), Refused LeftOutLiteral 0)
        else (suc n, Token (k.Name (b ∷ take n bs))))
    joined true true e f = rw (e, f) refl
    joined true false e f = rw (e, f) refl
    joined false w e f = rw e refl

pub longest_word : (b : ℕ) (bs : List ℕ) → further None (longest (word b) bs) ≡ first_word (b ∷ bs)
unfolding first_word
longest_word b bs =
    ap (further None) (longest_run goes_on (λ front. Token (k.Name (b ∷ front))) (prefixed b) bs (word_ends b))
    ∙ ap (λ o. further None (Some (after_run (prefix_len goes_on bs) (Token (k.Name (b ∷ take (prefix_len goes_on bs) bs))) o)))
    (past_is (prefixed b) (prefix_len goes_on bs) bs)
    ∙ word_joined b (prefix_len goes_on bs) bs (nat_lt (prefix_len goes_on bs) (length bs))
    (is_prefixed (b ∷ take (suc (prefix_len goes_on bs)) bs)) refl refl

-- ---- numbers

pub longest_digits : (b : ℕ) (bs : List ℕ) → further None (longest (λ front. number_from (b ∷ front) b front) bs) ≡ first_number (b ∷ bs)
unfolding first_number
longest_digits b bs = ap (further None) (longest_number b (λ front. number (b ∷ front)) bs)

dot_step : (b : ℕ) (bs : List ℕ) (v : Bool) → is_ascii_digit b ≡ v → further None (longest after_dot (b ∷ bs)) ≡ first_dot (46 ∷ b ∷ bs)
unfolding longest first_dot
dot_step b bs true e =
    ap (λ r. further None (further (after_dot []) r))
    (longest_same (λ front. after_dot (b ∷ front)) (λ front. number_from (46 ∷ b ∷ front) b front) (λ front. rw e refl) bs
    ∙ longest_number b (λ front. number (46 ∷ b ∷ front)) bs)
    ∙ rw e refl
dot_step b bs false e =
    ap (λ r. further None (further (after_dot []) r))
    (longest_same (λ front. after_dot (b ∷ front)) (λ front. punct_piece (46 ∷ b ∷ front)) (λ front. rw e refl) bs)
    ∙ operator_front 46 (b ∷ bs) ∙ rw e refl

pub longest_dot : (bs : List ℕ) → further None (longest after_dot bs) ≡ first_dot (46 ∷ bs)
unfolding longest first_dot
longest_dot [] = operator_front 46 []
longest_dot (b ∷ bs) = dot_step b bs (is_ascii_digit b) refl

-- ---- comments

slash_step : (b : ℕ) (bs : List ℕ) (v w : Bool) → (b == 47) ≡ v → (b == 42) ≡ w
    → further None (longest after_slash (b ∷ bs)) ≡ first_slash (47 ∷ b ∷ bs)
unfolding longest first_slash
slash_step b bs true w e f =
    ap (λ r. further None (further (after_slash []) r))
    (longest_same (λ front. after_slash (b ∷ front)) (λ front. if list_all (λ c. not (is_newline c)) front then Some Space else None)
    (λ front. rw e refl) bs ∙ longest_all (λ c. not (is_newline c)) (λ front. Space) bs)
    ∙ rw e refl
slash_step b bs false true e f =
    ap (λ r. further None (further (after_slash []) r))
    (longest_same (λ front. after_slash (b ∷ front)) (comment false) (λ front. rw (e, f) refl) bs ∙ longest_comment false bs)
    ∙ rw (e, f) refl
slash_step b bs false false e f =
    ap (λ r. further None (further (after_slash []) r))
    (longest_same (λ front. after_slash (b ∷ front)) (λ front. punct_piece (47 ∷ b ∷ front)) (λ front. rw (e, f) refl) bs)
    ∙ operator_front 47 (b ∷ bs) ∙ rw (e, f) refl

pub longest_slash : (bs : List ℕ) → further None (longest after_slash bs) ≡ first_slash (47 ∷ bs)
unfolding longest first_slash
longest_slash [] = operator_front 47 []
longest_slash (b ∷ bs) = slash_step b bs (b == 47) (b == 42) refl refl

-- ---- all pieces

front_literal : (close : ℕ) (escapes : Bool) (of : Shape → List ℕ → Piece) (bs : List ℕ)
    → further None (longest (literal_piece close escapes of) bs) ≡ Some (literal_front close escapes of bs)
front_literal close escapes of bs = ap (further None) (longest_literal close escapes false of bs)

-- the rest of the text, behind a byte whose test of the whole is this
behind : (after_include : Bool) (b : ℕ) (bs : List ℕ) (f : List ℕ → Option Piece)
    → ((front : List ℕ) → spelled after_include (b ∷ front) ≡ f front)
    → longest (spelled after_include) (b ∷ bs) ≡ further None (longest f bs)
unfolding longest spelled
behind after_include b bs f e = ap (further None) (longest_same (λ front. spelled after_include (b ∷ front)) f e bs)

alone_front : (piece : Piece) (bs : List ℕ) → further None (longest (alone piece) bs) ≡ Some (1, piece)
alone_front piece bs = ap (further None) (longest_first (alone piece) (λ c front. refl) bs)

record IsOther (b : ℕ) : Type 0 where
  space : is_space b ≡ false
  newline : is_newline b ≡ false
  letter : begins_name b ≡ false
  digit : is_ascii_digit b ≡ false

header_step : (after_include : Bool) (b : ℕ) (bs : List ℕ) (v : Bool) → (b == 60 && after_include) ≡ v → IsOther b → (b == 46) ≡ false
    → (b == 47) ≡ false → (b == 34) ≡ false → (b == 39) ≡ false
    → longest (spelled after_include) (b ∷ bs) ≡ first_other after_include (b ∷ bs)
unfolding spelled first_other
header_step after_include b bs true e other f g h i =
    behind after_include b bs (literal_piece 62 false header)
    (λ front. rw (other.space, other.newline, other.letter, other.digit, f, g, h, i, e) refl) ∙ front_literal 62 false header bs
    ∙ rw (f, g, h, i, e) refl
header_step after_include b bs false e other f g h i =
    behind after_include b bs (λ front. punct_piece (b ∷ front))
    (λ front. rw (other.space, other.newline, other.letter, other.digit, f, g, h, i, e) refl) ∙ operator_front b bs
    ∙ rw (f, g, h, i, e) refl

quote_step : (after_include : Bool) (b : ℕ) (bs : List ℕ) (v w : Bool) → (b == 34) ≡ v → (b == 39) ≡ w → IsOther b → (b == 46) ≡ false
    → (b == 47) ≡ false
    → longest (spelled after_include) (b ∷ bs) ≡ first_other after_include (b ∷ bs)
unfolding spelled first_other
quote_step after_include b bs true w h i other f g =
    behind after_include b bs (literal_piece 34 true string)
    (λ front. rw (other.space, other.newline, other.letter, other.digit, f, g, h) refl) ∙ front_literal 34 true string bs
    ∙ rw (f, g, h) refl
quote_step after_include b bs false true h i other f g =
    behind after_include b bs (literal_piece 39 true constant)
    (λ front. rw (other.space, other.newline, other.letter, other.digit, f, g, h, i) refl) ∙ front_literal 39 true constant bs
    ∙ rw (f, g, h, i) refl
quote_step after_include b bs false false h i other f g = header_step after_include b bs (b == 60 && after_include) refl other f g h i

other_step : (after_include : Bool) (b : ℕ) (bs : List ℕ) (v w : Bool) → (b == 46) ≡ v → (b == 47) ≡ w → IsOther b
    → longest (spelled after_include) (b ∷ bs) ≡ first_other after_include (b ∷ bs)
unfolding spelled first_other
other_step after_include b bs true w f g other =
    behind after_include b bs after_dot (λ front. rw (other.space, other.newline, other.letter, other.digit, f) refl)
    ∙ longest_dot bs ∙ rw f (ap (λ n. first_dot (n ∷ bs)) (sym (eqb-true b 46 f)))
other_step after_include b bs false true f g other =
    behind after_include b bs after_slash (λ front. rw (other.space, other.newline, other.letter, other.digit, f, g) refl)
    ∙ longest_slash bs ∙ rw (f, g) (ap (λ n. first_slash (n ∷ bs)) (sym (eqb-true b 47 g)))
other_step after_include b bs false false f g other = quote_step after_include b bs (b == 34) (b == 39) refl refl other f g

piece_step : (after_include : Bool) (b : ℕ) (bs : List ℕ) (v w x y : Bool) → is_space b ≡ v → is_newline b ≡ w → begins_name b ≡ x
    → is_ascii_digit b ≡ y
    → longest (spelled after_include) (b ∷ bs) ≡ first_piece after_include (b ∷ bs)
unfolding spelled first_piece
piece_step after_include b bs true w x y d e f g = behind after_include b bs (alone Space) (λ front. rw d refl) ∙ alone_front Space bs
    ∙ rw d refl
piece_step after_include b bs false true x y d e f g = behind after_include b bs (alone Newline) (λ front. rw (d, e) refl)
    ∙ alone_front Newline bs ∙ rw (d, e) refl
piece_step after_include b bs false false true y d e f g = behind after_include b bs (word b) (λ front. rw (d, e, f) refl)
    ∙ longest_word b bs ∙ rw (d, e, f) refl
piece_step after_include b bs false false false true d e f g =
    behind after_include b bs (λ front. number_from (b ∷ front) b front) (λ front. rw (d, e, f, g) refl) ∙ longest_digits b bs
    ∙ rw (d, e, f, g) refl
piece_step after_include b bs false false false false d e f g =
    other_step after_include b bs (b == 46) (b == 47) refl refl (record { space = d; newline = e; letter = f; digit = g })
    ∙ rw (d, e, f, g) refl

-- the longest piece is the one that the code computes
pub longest_piece : (after_include : Bool) (bs : List ℕ) → longest (spelled after_include) bs ≡ first_piece after_include bs
unfolding longest spelled first_piece
longest_piece after_include [] = refl
longest_piece after_include (b ∷ bs) =
    piece_step after_include b bs (is_space b) (is_newline b) (begins_name b) (is_ascii_digit b) refl refl refl refl
