-- Piece after piece, as the loop goes.
use Rattle.std.proofs.Common.{◌≡◌, ℕ, zero, suc, ◌+◌, ◌-◌, ◌<◌, ◌≤◌, ◌&&◌, Bool, true, false, if◌then◌else◌, List, [], ◌∷◌, length, drop, get_or, Option, Some, None, Ok, Err, refl, sym, ap, ◌∙◌, add-zero, arith}
use Rattle.std.specs.Prelude.{slice_get}
use Rattle.std.proofs.lemmas.List.{append-nil, drop-drop, length-drop, get_or-drop, drop_all}
use Rattle.std.proofs.Math.Bool.{and-true, and-false}
use Rattle.fc_base.specs.declared.refusals.Place.{Place}
use Rattle.fc_base.specs.declared.refusals.Refusal.{Refusal}
use Rattle.fc_base.specs.declared.refusals.Fault.{Fault}
use Rattle.fc_base.specs.declared.refusals.Fault.TheVariants as fault
use Rattle.fc_base.specs.Answers.{Fails}
use Rattle.fc_base.specs.declared.rules.Rule.TheVariants.{BadByte}
use Rattle.c_tokens.specs.declared.tokens.Token.{Token}
use Rattle.c_tokens.specs.declared.tokens.TokenKind.{TokenKind}
use Rattle.c_tokens.specs.declared.pieces.Piece.{Piece}
use Rattle.c_tokens.specs.declared.pieces.Piece.TheVariants.{Space, Newline, Token as TokenPiece, Refused}
use Rattle.c_tokens.specs.Pieces.{spelled}
use Rattle.c_lexer.specs.declared.reader.Line.TheVariants.{Start, Hash, Include, Other}
use Rattle.c_lexer.specs.declared.reader.State.{State}
use Rattle.c_lexer.specs.Places.{Cell, bytes_of, places_of}
use Rattle.c_lexer.specs.Longest.{longest, LongestFront}
use Rattle.c_tokens.specs.Tokens.{is_hash, token_limit}
use Rattle.c_lexer.specs.Outcomes.{Scanned, token_at, is_include, is_first, opens_header, unless_refused, outcome_of}
use Rattle.c_lexer.specs.Lexed.{nothing_left, refused_at, token_then, with_piece, with_longest, scan}
use Rattle.c_lexer.specs.Fronts.{first_piece}
use Rattle.c_lexer.specs.Reading.{line_of, line_after, is_start, is_after_include, state, read_piece, read_front, read, after_all}
use Rattle.c_lexer.proofs.Longest.{longest_tells, some_left}
use Rattle.c_lexer.proofs.FrontLemmas.{longest_piece}

-- ---- the state of a line

start_is : (line : List TokenKind) → is_first line ≡ is_start (line_of line)
start_is [] = refl
start_is (a ∷ []) = cases (is_hash a)
  where
    cases : (v : Bool) → false ≡ is_start (if v then Hash else Other)
    cases true = refl
    cases false = refl
start_is (a ∷ b ∷ []) = cases (is_include a && is_hash b)
  where
    cases : (v : Bool) → false ≡ is_start (if v then Include else Other)
    cases true = refl
    cases false = refl
start_is (a ∷ b ∷ c ∷ cs) = refl

header_is : (line : List TokenKind) → opens_header line ≡ is_after_include (line_of line)
header_is [] = refl
header_is (a ∷ []) = cases (is_hash a)
  where
    cases : (v : Bool) → false ≡ is_after_include (if v then Hash else Other)
    cases true = refl
    cases false = refl
header_is (a ∷ b ∷ []) = cases (is_include a && is_hash b)
  where
    cases : (v : Bool) → v ≡ is_after_include (if v then Include else Other)
    cases true = refl
    cases false = refl
header_is (a ∷ b ∷ c ∷ cs) = refl

hash_more : (kind : TokenKind) (v w : Bool) → is_include kind ≡ w
    → (if is_include kind && v then Include else Other) ≡ line_after (if v then Hash else Other) kind
hash_more kind true w e = rw (and-true (is_include kind)) refl
hash_more kind false w e = rw (and-false (is_include kind)) refl

line_more : (kind : TokenKind) (line : List TokenKind) → line_of (kind ∷ line) ≡ line_after (line_of line) kind
line_more kind [] = refl
line_more kind (a ∷ []) = hash_more kind (is_hash a) (is_include kind) refl
line_more kind (a ∷ b ∷ []) = cases (is_include a && is_hash b)
  where
    cases : (v : Bool) → Other ≡ line_after (if v then Include else Other) kind
    cases true = refl
    cases false = refl
line_more kind (a ∷ b ∷ c ∷ cs) = refl

-- ---- the cut is the reading

piece_same : (line : List TokenKind) (spaced : Bool) (c : Cell) (cs : List Cell) (piece : Piece) (rest : List TokenKind → Bool → Scanned)
    (rest' : State → Scanned)
    → ((line : List TokenKind) (spaced : Bool) → rest line spaced ≡ rest' (state (line_of line) spaced))
    → with_piece line spaced c.place (c ∷ cs) piece rest ≡ read_piece (state (line_of line) spaced) c.place (places_of (c ∷ cs)) piece rest'
piece_same line spaced c cs Space rest rest' e = e line true
piece_same line spaced c cs Newline rest rest' e = e [] true
piece_same line spaced c cs (TokenPiece kind) rest rest' e =
    rw (start_is line) (ap (token_then (token_at c.place (is_start (line_of line)) spaced kind))
    (e (kind ∷ line) false ∙ ap (λ l. rest' (state l false)) (line_more kind line)))
piece_same line spaced c cs (Refused rule offset) rest rest' e = refl

front_same : (line : List TokenKind) (spaced : Bool) (c : Cell) (cs : List Cell) (r : Option (ℕ × Piece))
    (rest : List TokenKind → Bool → ℕ → Scanned) (rest' : State → ℕ → Scanned)
    → ((line : List TokenKind) (spaced : Bool) (size : ℕ) → rest line spaced size ≡ rest' (state (line_of line) spaced) size)
    → with_longest line spaced c.place (c ∷ cs) r rest ≡ read_front (state (line_of line) spaced) c.place (places_of (c ∷ cs)) r rest'
front_same line spaced c cs None rest rest' e = refl
front_same line spaced c cs (Some r) rest rest' e =
    piece_same line spaced c cs r.1 (λ line spaced. rest line spaced r.0) (λ s. rest' s r.0) (λ line spaced. e line spaced r.0)

pub cut_is : (line : List TokenKind) (spaced : Bool) (left : ℕ) (cells : List Cell)
    → scan line spaced left cells ≡ read (state (line_of line) spaced) left (bytes_of cells) (places_of cells)
unfolding scan read
cut_is line spaced left [] = refl
cut_is line spaced (suc left) (c ∷ cs) = cut_is line spaced left cs
cut_is line spaced zero (c ∷ cs) =
    front_same line spaced c cs (longest (spelled (opens_header line)) (bytes_of (c ∷ cs)))
    (λ line spaced size. scan line spaced (size - 1) cs) (λ s size. read s (size - 1) (bytes_of cs) (places_of cs))
    (λ line spaced size. cut_is line spaced (size - 1) cs)
    ∙ ap (λ r. read_front (state (line_of line) spaced) c.place (places_of (c ∷ cs)) r
    (λ s size. read s (size - 1) (bytes_of cs) (places_of cs)))
    (ap (λ v. longest (spelled v) (bytes_of (c ∷ cs))) (header_is line)
    ∙ longest_piece (is_after_include (line_of line)) (bytes_of (c ∷ cs)))

-- ---- one piece of the reading

read_nil : (s : State) (left : ℕ) (bs : List ℕ) → read s left bs [] ≡ nothing_left
unfolding read
read_nil s left [] = refl
read_nil s left (b ∷ bs) = refl

read_left : (s : State) (left : ℕ) (bs : List ℕ) (ps : List Place) → read s left bs ps ≡ read s 0 (drop left bs) (drop left ps)
unfolding read
read_left s zero bs ps = refl
read_left s (suc left) [] ps = refl
read_left s (suc left) (b ∷ bs) [] = sym (read_nil s 0 (drop left bs))
read_left s (suc left) (b ∷ bs) (p ∷ ps) = read_left s left bs ps

rest_same : (s : State) (place : Place) (places : List Place) (piece : Piece) (f g : State → Scanned) → ((s : State) → f s ≡ g s)
    → read_piece s place places piece f ≡ read_piece s place places piece g
rest_same s place places Space f g e = e (state s.line true)
rest_same s place places Newline f g e = e (state Start true)
rest_same s place places (TokenPiece kind) f g e =
    ap (token_then (token_at place (is_start s.line) s.spaced kind)) (e (state (line_after s.line kind) false))
rest_same s place places (Refused rule offset) f g e = refl

-- what comes behind a piece of this size
abbrev pub rest_of : List ℕ → List Place → ℕ → State → Scanned
rest_of bs ps size s = read s 0 (drop size bs) (drop size ps)

read_some : (s : State) (bs : List ℕ) (ps : List Place) (d : Place) (size : ℕ) (piece : Piece) → 0 < length bs → length ps ≡ length bs
    → 1 ≤ size → first_piece (is_after_include s.line) bs ≡ Some (size, piece)
    → read s 0 bs ps ≡ read_piece s (get_or ps 0 d) ps piece (rest_of bs ps size)
unfolding read
read_some s [] ps d size piece lt same ge e = absurd (omega arith)
read_some s (b ∷ bs) [] d size piece lt same ge e = absurd (omega arith)
read_some s (b ∷ bs) (p ∷ ps) d zero piece lt same ge e = absurd (omega arith)
read_some s (b ∷ bs) (p ∷ ps) d (suc size) piece lt same ge e =
    let pred : suc size - 1 ≡ size = omega arith in
    rw (e, pred) (rest_same s p (p ∷ ps) piece (λ s. read s size bs ps) (rest_of (b ∷ bs) (p ∷ ps) (suc size))
    (λ s. read_left s size bs ps))

read_none : (s : State) (bs : List ℕ) (ps : List Place) (d : Place) → 0 < length bs → length ps ≡ length bs
    → first_piece (is_after_include s.line) bs ≡ None → read s 0 bs ps ≡ refused_at BadByte (get_or ps 0 d)
unfolding read
read_none s [] ps d lt same e = absurd (omega arith)
read_none s (b ∷ bs) [] d lt same e = absurd (omega arith)
read_none s (b ∷ bs) (p ∷ ps) d lt same e = rw e refl

-- ---- a piece is not empty and stays within the text

at_least : (n size len : ℕ) → suc n ≡ size → suc n ≤ len → (1 ≤ size) × (size ≤ len)
at_least n size len same within = (omega arith, omega arith)

bounds : (after_include : Bool) (bs : List ℕ) (r : Option (ℕ × Piece)) → LongestFront (spelled after_include) bs r
    → (size : ℕ) (piece : Piece) → r ≡ Some (size, piece) → (1 ≤ size) × (size ≤ length bs)
unfolding spelled
bounds after_include bs None tells size piece e = absurd cc
bounds after_include bs (Some (zero, x)) tells size piece e = let none : None ≡ Some x = tells.is in absurd cc
bounds after_include bs (Some (suc n, x)) tells size piece e =
    let pair : (suc n, x) ≡ (size, piece) = cc in
    let same : suc n ≡ size = ap (λ (r : ℕ × Piece). r.0) pair in
    at_least n size (length bs) same tells.within

pub piece_bounds : (after_include : Bool) (bs : List ℕ) (size : ℕ) (piece : Piece) → first_piece after_include bs ≡ Some (size, piece)
    → (1 ≤ size) × (size ≤ length bs)
piece_bounds after_include bs size piece e =
    bounds after_include bs (longest (spelled after_include) bs) (longest_tells (spelled after_include) bs) size piece
    (longest_piece after_include bs ∙ e)

-- ---- the loop

past_end : {A : Type 0} (xs : List A) (n : ℕ) → length xs ≤ n → slice_get xs n ≡ None
past_end [] n le = refl
past_end (x ∷ xs) zero le = absurd (omega arith)
past_end (x ∷ xs) (suc n) le = past_end xs n (omega arith)

none_over : (tokens : List Token) (refusal : Option Refusal) → length tokens ≤ token_limit
    → outcome_of (after_all tokens (record { tokens = []; refusal = refusal })) ≡ unless_refused tokens refusal
none_over tokens refusal few = rw (append-nil tokens, past_end tokens token_limit few) refl

same_left : (bytes : List ℕ) (places : List Place) (at : ℕ) → length places ≡ length bytes
    → length (drop at places) ≡ length (drop at bytes)
same_left bytes places at same = omega (arith, length-drop at bytes, length-drop at places)

first_place : (places : List Place) (at : ℕ) (d : Place) → get_or (drop at places) 0 d ≡ get_or places at d
first_place places at d = get_or-drop at places 0 d ∙ ap (λ (i : ℕ). get_or places i d) (add-zero at)

module _ (bytes rest : List ℕ) (places fronts : List Place) (at : ℕ) (s : State) (after_include : Bool)
    (front : Option (ℕ × Piece)) (d : Place)
    (lt : at < length bytes) (same : length places ≡ length bytes) (rest_is : rest ≡ drop at bytes)
    (line_is : after_include ≡ is_after_include s.line) (front_is : front ≡ first_piece after_include rest) where
  front_at : first_piece (is_after_include s.line) (drop at bytes) ≡ front
  front_at = sym (front_is ∙ ap (first_piece after_include) rest_is ∙ ap (λ v. first_piece v (drop at bytes)) line_is)

  pub bad_byte : front ≡ None → (tokens : List Token) (total : Scanned) → length tokens ≤ token_limit
      → after_all tokens (read s 0 (drop at bytes) (drop at places)) ≡ total
      → outcome_of total ≡ Err (record { rule = BadByte; place = get_or places at d })
  bad_byte none tokens total few owed =
      let cut_at : read s 0 (drop at bytes) (drop at places) ≡ refused_at BadByte (get_or places at d) =
      read_none s (drop at bytes) (drop at places) d (some_left bytes at lt) (same_left bytes places at same) (front_at ∙ none)
      ∙ ap (refused_at BadByte) (first_place places at d) in
      ap outcome_of (sym owed ∙ ap (after_all tokens) cut_at)
      ∙ none_over tokens (Some (record { rule = BadByte; place = get_or places at d })) few

  pub size_bounds : (size : ℕ) (piece : Piece) → front ≡ Some (size, piece) → (1 ≤ size) × (at + size ≤ length bytes)
  size_bounds size piece some =
      let b = piece_bounds (is_after_include s.line) (drop at bytes) size piece (front_at ∙ some) in
      (b.0, (let le = b.1 in omega (arith, length-drop at bytes)))

  piece_at : (size : ℕ) (piece : Piece) → front ≡ Some (size, piece) → fronts ≡ drop at places
      → read s 0 (drop at bytes) (drop at places) ≡ read_piece s (get_or places at d) fronts piece (rest_of bytes places (at + size))
  piece_at size piece some fronts_is =
      let b = piece_bounds (is_after_include s.line) (drop at bytes) size piece (front_at ∙ some) in
      read_some s (drop at bytes) (drop at places) d size piece (some_left bytes at lt) (same_left bytes places at same) b.0
      (front_at ∙ some)
      ∙ rest_same s (get_or (drop at places) 0 d) (drop at places) piece (rest_of (drop at bytes) (drop at places) size)
      (rest_of bytes places (at + size))
      (λ s. rw (drop-drop size at bytes, drop-drop size at places) refl)
      ∙ rw (first_place places at d, ← fronts_is) refl

  pub piece_refused : (size : ℕ) (piece : Piece) (f : Fault) (tokens : List Token) (total : Scanned) → front ≡ Some (size, piece)
      → fronts ≡ drop at places
      → Fails f (λ out. (rest : State → Scanned) → outcome_of (after_all tokens (read_piece s (get_or places at d) fronts piece rest))
      ≡ out) → after_all tokens (read s 0 (drop at bytes) (drop at places)) ≡ total → Fails f (λ out. outcome_of total ≡ out)
  piece_refused size piece fault.NoMemory tokens total some fronts_is adds owed = tt
  piece_refused size piece (fault.Refused refusal) tokens total some fronts_is adds owed =
      ap outcome_of (sym owed ∙ ap (after_all tokens) (piece_at size piece some fronts_is)) ∙ adds (rest_of bytes places (at + size))

  pub piece_added : (size : ℕ) (piece : Piece) (s' : State) (tokens tokens' : List Token) (total : Scanned) → front ≡ Some (size, piece)
      → fronts ≡ drop at places
      → ((rest : State → Scanned) → after_all tokens' (rest s') ≡ after_all tokens (read_piece s (get_or places at d) fronts piece rest))
      → after_all tokens (read s 0 (drop at bytes) (drop at places)) ≡ total
      → after_all tokens' (read s' 0 (drop (at + size) bytes) (drop (at + size) places)) ≡ total
  piece_added size piece s' tokens tokens' total some fronts_is adds owed =
      adds (rest_of bytes places (at + size)) ∙ ap (after_all tokens) (sym (piece_at size piece some fronts_is)) ∙ owed

pub all_read : (bytes : List ℕ) (places : List Place) (at : ℕ) (s : State) (tokens : List Token) (total : Scanned) → length bytes ≤ at
    → length tokens ≤ token_limit
    → after_all tokens (read s 0 (drop at bytes) (drop at places)) ≡ total → outcome_of total ≡ Ok tokens
unfolding read
all_read bytes places at s tokens total le few owed =
    let none : read s 0 (drop at bytes) (drop at places) ≡ nothing_left = rw (drop_all at bytes le) refl in
    ap outcome_of (sym owed ∙ ap (after_all tokens) none) ∙ none_over tokens None few
