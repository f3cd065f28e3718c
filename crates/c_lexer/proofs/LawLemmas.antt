-- Laws of lexed texts.
use Rattle.std.proofs.Common.{◌≡◌, ℕ, zero, suc, ◌+◌, ◌-◌, ◌≤◌, ◌==◌, not, Bool, true, false, List, [], ◌∷◌, ◌++◌, length, take, drop, Option, Some, None, option_map, Result, Ok, Err, refl, ap, ◌∙◌, arith}
use Rattle.std.specs.Prelude.{slice_get, nat_lt, codes}
use Rattle.std.specs.Result.{IfOk}
use Rattle.std.specs.List.{All, AllByRecursion}
use Rattle.std.proofs.lemmas.List.Elements.{All-from_recursion}
use Rattle.std.proofs.lemmas.List.{length-map}
use Rattle.std.proofs.Math.Bool.{and-false}
use Rattle.std.proofs.lemmas.Bool.{and_parts, not-true}
use Rattle.fc_base.specs.declared.refusals.Place.{Place}
use Rattle.fc_base.specs.declared.refusals.Refusal.{Refusal}
use Rattle.fc_base.specs.declared.refusals.Fault.{Fault}
use Rattle.fc_base.specs.Answers.{Answers}
use Rattle.c_tokens.specs.declared.puncts.Punct.TheVariants as p
use Rattle.c_tokens.specs.declared.tokens.Token.{Token}
use Rattle.c_tokens.specs.declared.tokens.TokenKind.{TokenKind}
use Rattle.c_tokens.specs.declared.tokens.TokenKind.TheVariants as k
use Rattle.c_tokens.specs.declared.pieces.Piece.{Piece}
use Rattle.c_tokens.specs.declared.pieces.Piece.TheVariants.{Space, Newline, Token as TokenPiece, Refused}
use Rattle.c_headers.specs.declared.headers.HeaderId.{HeaderId}
use Rattle.c_headers.specs.declared.headers.HeaderId.TheVariants as h
use Rattle.c_tokens.specs.Pieces.{spelled, IsLexedKind, Spells}
use Rattle.c_tokens.proofs.TokenFacts.{token_facts, on_line}
use Rattle.c_headers.specs.Headers.{header_name}
use Rattle.c_tokens.specs.Puncts.{include_line}
use Rattle.c_lexer.specs.Runs.{operator, one_byte, with_assign, doubled}
use Rattle.c_tokens.specs.Literals.{shape}
use Rattle.c_lexer.specs.Fronts.{first_piece, first_other, first_word}
use Rattle.c_lexer.specs.Places.{Cell, cell_at, place_at, placed, bytes_of}
use Rattle.c_lexer.specs.Joined.{begins_line, joined}
use Rattle.c_lexer.proofs.Joining.{placed_is}
use Rattle.c_lexer.specs.Longest.{longest, further, IsLongest, LongestFront}
use Rattle.c_tokens.specs.Tokens.{token_limit}
use Rattle.c_lexer.specs.Outcomes.{Scanned, token_at, is_first, opens_header, unless_refused, unless_over, outcome_of}
use Rattle.c_lexer.specs.Lexed.{nothing_left, token_then, with_piece, with_longest, scan, lexed}
use Rattle.c_lexer.specs.Respelled.{include_tokens, first_token, IsReadAs}
use Rattle.c_lexer.proofs.Longest.{longest_tells}
use Rattle.c_lexer.proofs.FrontLemmas.{longest_piece}

-- ---- the kinds of tokens

abbrev pub HasLexedKind : Token → Type 0
HasLexedKind t = IsLexedKind t.kind

longest_kind : (after_include : Bool) (bs : List ℕ) (n : ℕ) (kind : TokenKind) → IsLongest (spelled after_include) bs n (TokenPiece kind)
    → IsLexedKind kind
longest_kind after_include bs n kind tells = (token_facts after_include (take n bs) kind tells.is).lexed

piece_kinds : (after_include : Bool) (bs : List ℕ) (n : ℕ) (line : List TokenKind) (spaced : Bool) (place : Place) (cells : List Cell)
    (piece : Piece) (rest : List TokenKind → Bool → Scanned) → IsLongest (spelled after_include) bs n piece
    → ((line : List TokenKind) (spaced : Bool) → AllByRecursion HasLexedKind (rest line spaced).tokens)
    → AllByRecursion HasLexedKind (with_piece line spaced place cells piece rest).tokens
piece_kinds after_include bs n line spaced place cells Space rest tells all = all line true
piece_kinds after_include bs n line spaced place cells Newline rest tells all = all [] true
piece_kinds after_include bs n line spaced place cells (TokenPiece kind) rest tells all =
    (longest_kind after_include bs n kind tells, all (kind ∷ line) false)
piece_kinds after_include bs n line spaced place cells (Refused rule offset) rest tells all = tt

front_kinds : (after_include : Bool) (bs : List ℕ) (line : List TokenKind) (spaced : Bool) (place : Place) (cells : List Cell)
    (r : Option (ℕ × Piece)) (rest : List TokenKind → Bool → ℕ → Scanned) → LongestFront (spelled after_include) bs r
    → ((line : List TokenKind) (spaced : Bool) (size : ℕ) → AllByRecursion HasLexedKind (rest line spaced size).tokens)
    → AllByRecursion HasLexedKind (with_longest line spaced place cells r rest).tokens
front_kinds after_include bs line spaced place cells None rest tells all = tt
front_kinds after_include bs line spaced place cells (Some r) rest tells all =
    piece_kinds after_include bs r.0 line spaced place cells r.1 (λ line spaced. rest line spaced r.0) tells
    (λ line spaced. all line spaced r.0)

cut_kinds : (line : List TokenKind) (spaced : Bool) (left : ℕ) (cells : List Cell)
    → AllByRecursion HasLexedKind (scan line spaced left cells).tokens
unfolding scan
cut_kinds line spaced left [] = tt
cut_kinds line spaced (suc left) (c ∷ cs) = cut_kinds line spaced left cs
cut_kinds line spaced zero (c ∷ cs) =
    front_kinds (opens_header line) (bytes_of (c ∷ cs)) line spaced c.place (c ∷ cs)
    (longest (spelled (opens_header line)) (bytes_of (c ∷ cs))) (λ line spaced size. scan line spaced (size - 1) cs)
    (longest_tells (spelled (opens_header line)) (bytes_of (c ∷ cs))) (λ line spaced size. cut_kinds line spaced (size - 1) cs)

outcome_kinds : (tokens : List Token) (o : Option Token) (refusal : Option Refusal) (ts : List Token) → AllByRecursion HasLexedKind tokens
    → unless_over o (unless_refused tokens refusal) ≡ Ok ts → AllByRecursion HasLexedKind ts
outcome_kinds tokens None None ts all is = let same : tokens ≡ ts = cc in rw (← same) all
outcome_kinds tokens None (Some r) ts all is = absurd cc
outcome_kinds tokens (Some t) refusal ts all is = absurd cc

lexed_kinds : (bytes : List ℕ) (ts : List Token) → lexed bytes ≡ Ok ts → All HasLexedKind ts
unfolding lexed
lexed_kinds bytes ts is =
    let c = scan [] false 0 (placed bytes) in
    All-from_recursion HasLexedKind ts (outcome_kinds c.tokens (slice_get c.tokens token_limit) c.refusal ts
    (cut_kinds [] false 0 (placed bytes)) is)

pub kinds_given : {V : Type 0} (see : V → List Token) (r : Result V Fault) (bytes : List ℕ) → Answers see r (λ out. lexed bytes ≡ out)
    → IfOk r (λ v. All HasLexedKind (see v))
kinds_given see (Ok v) bytes is = lexed_kinds bytes (see v) is
kinds_given see (Err f) bytes is = tt

-- ---- a text that is one token

longest_whole : {X : Type 0} (f : List ℕ → Option X) (bs : List ℕ) (x : X) → f bs ≡ Some x → longest f bs ≡ Some (length bs, x)
unfolding longest
longest_whole {X = X} f [] x e = ap (λ (o : Option X). option_map (λ x. (0, x)) o) e
longest_whole f (b ∷ bs) x e = ap (further (f [])) (longest_whole (λ front. f (b ∷ front)) bs x e)

no_newline : (b : ℕ) → not (b == 10) ≡ true → (b == 10) ≡ false
no_newline b e = not-true (b == 10) e

not_joined : (bs : List ℕ) → on_line bs ≡ true → begins_line bs ≡ false
not_joined [] all = refl
not_joined (b ∷ bs) all = no_newline b (and_parts (not (b == 10)) (on_line bs) all).0

placed_first : (b : ℕ) (bs : List ℕ) (line col : ℕ) → on_line (b ∷ bs) ≡ true
    → joined false line col (b ∷ bs) ≡ cell_at b line col ∷ joined false line (col + 1) bs
unfolding joined
placed_first b bs line col all =
    let parts = and_parts (not (b == 10)) (on_line bs) all in
    rw (not_joined bs parts.1, and-false (b == 92), no_newline b parts.0) refl

placed_bytes : (bs : List ℕ) (line col : ℕ) → on_line bs ≡ true → bytes_of (joined false line col bs) ≡ bs
unfolding joined
placed_bytes [] line col all = refl
placed_bytes (b ∷ bs) line col all =
    let parts = and_parts (not (b == 10)) (on_line bs) all in
    ap bytes_of (placed_first b bs line col all) ∙ ap (λ (xs : List ℕ). b ∷ xs) (placed_bytes bs line (col + 1) parts.1)

cut_over : (line : List TokenKind) (spaced : Bool) (left : ℕ) (cells : List Cell) → length cells ≤ left
    → scan line spaced left cells ≡ nothing_left
unfolding scan
cut_over line spaced left [] le = refl
cut_over line spaced zero (c ∷ cs) le = absurd (omega arith)
cut_over line spaced (suc left) (c ∷ cs) le = cut_over line spaced left cs (omega arith)

-- the cut of one token that goes to the end
cut_one : (line : List TokenKind) (spaced : Bool) (row col : ℕ) (b : ℕ) (bs : List ℕ) (kind : TokenKind) → on_line (b ∷ bs) ≡ true
    → spelled (opens_header line) (b ∷ bs) ≡ Some (TokenPiece kind)
    → scan line spaced 0 (joined false row col (b ∷ bs))
    ≡ token_then (token_at (record { line = row; col = col }) (is_first line) spaced kind) nothing_left
unfolding scan
cut_one line spaced row col b bs kind all is =
    let parts = and_parts (not (b == 10)) (on_line bs) all in
    let bytes = placed_bytes bs row (col + 1) parts.1 in
    let size : length (joined false row (col + 1) bs) ≤ length bs = placed_length row col bs bytes in
    let pred : suc (length bs) - 1 ≡ length bs = omega arith in
    ap (scan line spaced 0) (placed_first b bs row col all)
    ∙ rw (
      bytes,
      longest_whole (spelled (opens_header line)) (b ∷ bs) (TokenPiece kind) is,
      pred,
      cut_over (kind ∷ line) false (length bs) (joined false row (col + 1) bs) size,
    ) refl
  where
    placed_length : (row col : ℕ) (bs : List ℕ) → bytes_of (joined false row (col + 1) bs) ≡ bs
        → length (joined false row (col + 1) bs) ≤ length bs
    placed_length row col bs e = omega (arith, ap length e, length-map (joined false row (col + 1) bs) (λ c. c.byte))

one_token : (text : List ℕ) (kind : TokenKind) → spelled false text ≡ Some (TokenPiece kind) → on_line text ≡ true
    → lexed text ≡ Ok (first_token kind)
unfolding spelled lexed
one_token [] kind is all = absurd cc
one_token (b ∷ bs) kind is all = ap outcome_of (ap (scan [] false 0) (placed_is (b ∷ bs)) ∙ cut_one [] false 1 1 b bs kind all is)

pub reads_one : (text : List ℕ) (kind : TokenKind) → spelled false text ≡ Some (TokenPiece kind) → lexed text ≡ Ok (first_token kind)
reads_one text kind is = one_token text kind is (token_facts false text kind is).line

-- ---- an inclusion

cut_step : (line : List TokenKind) (spaced : Bool) (c : Cell) (cs : List Cell) (n : ℕ) (piece : Piece)
    → longest (spelled (opens_header line)) (bytes_of (c ∷ cs)) ≡ Some (suc n, piece)
    → scan line spaced 0 (c ∷ cs) ≡ with_piece line spaced c.place (c ∷ cs) piece (λ line spaced. scan line spaced n cs)
unfolding scan
cut_step line spaced c cs n piece e = let pred : suc n - 1 ≡ n = omega arith in rw (e, pred) refl

abbrev include_kind : TokenKind
include_kind = k.Name (codes "include")

abbrev hash_kind : TokenKind
hash_kind = k.Punct p.Hash

hash_first : (bs : List ℕ) → longest (spelled false) (35 ∷ 105 ∷ 110 ∷ bs) ≡ Some (1, TokenPiece hash_kind)
unfolding first_piece first_other operator one_byte with_assign doubled
hash_first bs = longest_piece false (35 ∷ 105 ∷ 110 ∷ bs)

include_first : (bs : List ℕ) → longest (spelled false) (codes "include " ++ bs) ≡ Some (7, TokenPiece include_kind)
unfolding first_piece first_word
include_first bs = longest_piece false (codes "include " ++ bs) ∙ rw (and-false (nat_lt 7 (length (codes "include " ++ bs)))) refl

space_first : (after_include : Bool) (bs : List ℕ) → longest (spelled after_include) (32 ∷ bs) ≡ Some (1, Space)
unfolding first_piece
space_first after_include bs = longest_piece after_include (32 ∷ bs)

-- the cells of `#include ` and of what stands behind it
abbrev include_cells : List Cell → List Cell
include_cells cs =
    cell_at 35 1 1 ∷ cell_at 105 1 2 ∷ cell_at 110 1 3 ∷ cell_at 99 1 4 ∷ cell_at 108 1 5 ∷ cell_at 117 1 6 ∷ cell_at 100 1 7
    ∷ cell_at 101 1 8 ∷ cell_at 32 1 9 ∷ cs

include_placed : (text : List ℕ) → joined false 1 1 (codes "#include " ++ text) ≡ include_cells (joined false 1 10 text)
unfolding joined
include_placed text = refl

cut_include : (cs : List Cell) → scan [] false 0 (include_cells cs)
    ≡ token_then (token_at (place_at 1 1) true false hash_kind)
    (token_then (token_at (place_at 1 2) false false include_kind) (scan (include_kind ∷ hash_kind ∷ []) true 0 cs))
unfolding scan
cut_include cs =
    cut_step [] false (cell_at 35 1 1) (drop 1 (include_cells cs)) 0 (TokenPiece hash_kind)
    (hash_first (bytes_of (drop 3 (include_cells cs))))
    ∙ ap (token_then (token_at (place_at 1 1) true false hash_kind))
    (cut_step (hash_kind ∷ []) false (cell_at 105 1 2) (drop 2 (include_cells cs)) 6 (TokenPiece include_kind) (include_first (bytes_of cs))
    ∙ ap (token_then (token_at (place_at 1 2) false false include_kind))
    (cut_step (include_kind ∷ hash_kind ∷ []) false (cell_at 32 1 9) cs 0 Space (space_first true (bytes_of cs))))

header_text : (text name : List ℕ) → spelled true text ≡ Some (TokenPiece (k.HeaderName name)) → on_line text ≡ true
    → lexed (codes "#include " ++ text) ≡ Ok (include_tokens name)
unfolding spelled lexed
header_text [] name is all = absurd cc
header_text (b ∷ bs) name is all =
    ap outcome_of
    (ap (scan [] false 0) (placed_is (codes "#include " ++ (b ∷ bs)) ∙ include_placed (b ∷ bs)) ∙ cut_include (joined false 1 10 (b ∷ bs))
    ∙ ap (λ c. token_then (token_at (place_at 1 1) true false hash_kind) (token_then (token_at (place_at 1 2) false false include_kind) c))
    (cut_one (include_kind ∷ hash_kind ∷ []) true 1 10 b bs (k.HeaderName name) all is))

reads_header : (text name : List ℕ) → spelled true text ≡ Some (TokenPiece (k.HeaderName name))
    → lexed (codes "#include " ++ text) ≡ Ok (include_tokens name)
reads_header text name is = header_text text name is (token_facts true text (k.HeaderName name) is).line

-- each known header's name between its brackets
header_spelled : (h : HeaderId) → spelled true (60 ∷ header_name h ++ 62 ∷ []) ≡ Some (TokenPiece (k.HeaderName (header_name h)))
unfolding spelled shape
header_spelled h.String = refl
header_spelled h.Strings = refl
header_spelled h.Stdio = refl
header_spelled h.Stdlib = refl
header_spelled h.Stddef = refl
header_spelled h.Stdint = refl
header_spelled h.Unistd = refl

line_as : (h : HeaderId) → include_line h ≡ codes "#include " ++ (60 ∷ header_name h ++ 62 ∷ [])
line_as h.String = refl
line_as h.Strings = refl
line_as h.Stdio = refl
line_as h.Stdlib = refl
line_as h.Stddef = refl
line_as h.Stdint = refl
line_as h.Unistd = refl

pub spelling_read : (text : List ℕ) (kind : TokenKind) → Spells text kind → IsReadAs text kind
spelling_read text (k.Header h) is = rw (is, line_as h) (reads_header (60 ∷ header_name h ++ 62 ∷ []) (header_name h) (header_spelled h))
spelling_read text (k.HeaderName name) is = reads_header text name is
spelling_read text (k.Name name) is = reads_one text (k.Name name) is
spelling_read text (k.Number value kind) is = reads_one text (k.Number value kind) is
spelling_read text (k.CharConst b) is = reads_one text (k.CharConst b) is
spelling_read text (k.Str bytes) is = reads_one text (k.Str bytes) is
spelling_read text (k.Punct punct) is = reads_one text (k.Punct punct) is
