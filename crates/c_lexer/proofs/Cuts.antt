-- A source has one cut, and `scan` is its reading.
use Rattle.std.proofs.Common.{◌≡◌, ℕ, zero, suc, ◌-◌, ◌<◌, ◌≤◌, Bool, false, List, [], ◌∷◌, ◌++◌, length, take, drop, Option, Some, None, Result, Ok, Err, ◌⊎◌, inl, inr, refl, sym, ap, subst, ◌∙◌, append_assoc, arith}
use Rattle.std.proofs.lemmas.Bool.{cases_order}
use Rattle.std.proofs.lemmas.List.{append-nil, take-append-drop, length-take-le, length-drop, length-map}
use Rattle.fc_base.specs.declared.refusals.Refusal.{Refusal}
use Rattle.fc_base.specs.declared.refusals.Fault.{Fault}
use Rattle.fc_base.specs.declared.refusals.Fault.TheVariants as fault
use Rattle.fc_base.specs.Answers.{Fails, Answers}
use Rattle.c_tokens.specs.declared.tokens.Token.{Token}
use Rattle.c_tokens.specs.declared.tokens.TokenKind.{TokenKind}
use Rattle.c_tokens.specs.declared.pieces.Piece.{Piece}
use Rattle.c_tokens.specs.declared.pieces.Piece.TheVariants.{Space, Newline, Token as TokenPiece, Refused}
use Rattle.c_tokens.specs.Pieces.{spelled}
use Rattle.c_lexer.specs.Places.{Cell, placed, bytes_of}
use Rattle.c_lexer.specs.Longest.{longest, IsLongest, TakesNone, LongestFront}
use Rattle.c_lexer.specs.Outcomes.{Scanned, outcome_of}
use Rattle.c_lexer.specs.Lexed.{with_piece, with_longest, scan, lexed}
use Rattle.c_lexer.specs.Reading.{after_all}
use Rattle.c_lexer.specs.Cuts.{Stretch, cells_of, text_of, on_line, line_behind, is_blank, ends_blank, spelled_behind, is_refused, IsEachLongest, Ends, at_end, bad_byte, refused, token_in, tokens_of, IsLexed}
use Rattle.c_lexer.proofs.Longest.{longest_tells}

-- ---- the longest front is one

abbrev some_front : {X : Type 0} → ℕ → X → Option (ℕ × X)
some_front n x = Some (n, x)

module _ {X : Type 0} (f : List ℕ → Option X) (bs : List ℕ) where
  not_longer : (n m : ℕ) (x y : X) → n < m → IsLongest f bs n x → IsLongest f bs m y → ⊥
  not_longer n m x y lt a b = let none : Some y ≡ None = sym b.is ∙ a.longer m lt b.within in absurd cc

  same_front : (n m : ℕ) (x y : X) → IsLongest f bs n x → IsLongest f bs m y → some_front n x ≡ some_front m y
  same_front n m x y a b = cases (cases_order n m)
    where
      cases : (n ≡ m) ⊎ ((n < m) ⊎ (m < n)) → some_front n x ≡ some_front m y
      cases (inl e) =
          let is : Some x ≡ Some y = sym a.is ∙ ap (λ (k : ℕ). f (take k bs)) e ∙ b.is in
          let same : x ≡ y = cc in
          rw (e, same) refl
      cases (inr (inl lt)) = absurd (not_longer n m x y lt a b)
      cases (inr (inr lt)) = absurd (not_longer m n y x lt b a)

  front_is : (n : ℕ) (x : X) (r : Option (ℕ × X)) → IsLongest f bs n x → LongestFront f bs r → r ≡ Some (n, x)
  front_is n x None a tells = let none : Some x ≡ None = sym a.is ∙ tells n a.within in absurd cc
  front_is n x (Some r) a tells = same_front r.0 n r.1 x tells a

  pub longest_is : (n : ℕ) (x : X) → IsLongest f bs n x → longest f bs ≡ Some (n, x)
  longest_is n x a = front_is n x (longest f bs) a (longest_tells f bs)

  none_is : (r : Option (ℕ × X)) → TakesNone f bs → LongestFront f bs r → r ≡ None
  none_is None none tells = refl
  none_is (Some r) none tells = let is = tells.is in let no = none r.0 tells.within in absurd cc

  pub longest_is_none : TakesNone f bs → longest f bs ≡ None
  longest_is_none none = none_is (longest f bs) none (longest_tells f bs)

-- ---- the cut goes over each stretch

cut_past : (line : List TokenKind) (spaced : Bool) (done rest : List Cell)
    → scan line spaced (length done) (done ++ rest) ≡ scan line spaced 0 rest
unfolding scan
cut_past line spaced [] rest = refl
cut_past line spaced (c ∷ done) rest = cut_past line spaced done rest

-- one piece, with what comes behind it
piece_cut : (before : List Stretch) (s : Stretch) (cells : List Cell) (rest : List TokenKind → Bool → Scanned) (piece : Piece)
    → is_refused piece ≡ false
    → with_piece (line_behind before) (ends_blank before) s.first.place cells piece rest
    ≡ after_all (token_in before s.first.place piece) (rest (on_line piece (line_behind before)) (is_blank piece))
piece_cut before s cells rest Space kept = refl
piece_cut before s cells rest Newline kept = refl
piece_cut before s cells rest (TokenPiece kind) kept = refl
piece_cut before s cells rest (Refused rule offset) kept = absurd cc

stretch_cut : (before : List Stretch) (s : Stretch) (rest : List Cell) → is_refused s.piece ≡ false
    → IsLongest (spelled_behind before) (bytes_of (cells_of s ++ rest)) (length (cells_of s)) s.piece
    → scan (line_behind before) (ends_blank before) 0 (cells_of s ++ rest)
    ≡ after_all (token_in before s.first.place s.piece) (scan (line_behind (s ∷ before)) (ends_blank (s ∷ before)) 0 rest)
unfolding scan line_behind
stretch_cut before s rest kept is =
    let pred : suc (length s.more) - 1 ≡ length s.more = omega arith in
    ap (λ r. with_longest (line_behind before) (ends_blank before) s.first.place (cells_of s ++ rest) r
    (λ line spaced size. scan line spaced (size - 1) (s.more ++ rest)))
    (longest_is (spelled_behind before) (bytes_of (cells_of s ++ rest)) (length (cells_of s)) s.piece is)
    ∙ piece_cut before s (cells_of s ++ rest) (λ line spaced. scan line spaced (suc (length s.more) - 1) (s.more ++ rest)) s.piece kept
    ∙ rw pred (ap (after_all (token_in before s.first.place s.piece))
    (cut_past (on_line s.piece (line_behind before)) (is_blank s.piece) s.more rest))

both_fronts : (a b : List Token) (c : Scanned) → after_all a (after_all b c) ≡ after_all (a ++ b) c
both_fronts a b c = ap (λ (ts : List Token). record { tokens = ts; refusal = c.refusal }) (sym (append_assoc a b c.tokens))

-- the cut behind the stretches, with their tokens before it, is the cut of the whole
cut_behind : (stretches : List Stretch) (rest : List Cell) → IsEachLongest stretches rest
    → scan [] false 0 (text_of stretches ++ rest)
    ≡ after_all (tokens_of stretches) (scan (line_behind stretches) (ends_blank stretches) 0 rest)
unfolding text_of line_behind tokens_of
cut_behind [] rest each = refl
cut_behind (s ∷ before) rest each =
    ap (scan [] false 0) (append_assoc (text_of before) (cells_of s) rest)
    ∙ cut_behind before (cells_of s ++ rest) each.0
    ∙ ap (after_all (tokens_of before)) (stretch_cut before s rest each.1 each.2)
    ∙ both_fronts (tokens_of before) (token_in before s.first.place s.piece)
    (scan (line_behind (s ∷ before)) (ends_blank (s ∷ before)) 0 rest)

cut_end : (before : List Stretch) (rest : List Cell) (refusal : Option Refusal) → Ends before rest refusal
    → scan (line_behind before) (ends_blank before) 0 rest ≡ record { tokens = []; refusal = refusal }
unfolding scan
cut_end before _ _ at_end = refl
cut_end before _ _ (bad_byte c cs none) =
    ap (λ r. with_longest (line_behind before) (ends_blank before) c.place (c ∷ cs) r (λ line spaced size. scan line spaced (size - 1) cs))
    (longest_is_none (spelled_behind before) (bytes_of (c ∷ cs)) none)
cut_end before _ _ (refused c cs n rule offset is) =
    ap (λ r. with_longest (line_behind before) (ends_blank before) c.place (c ∷ cs) r (λ line spaced size. scan line spaced (size - 1) cs))
    (longest_is (spelled_behind before) (bytes_of (c ∷ cs)) n (Refused rule offset) is)

no_more : (tokens : List Token) (refusal : Option Refusal)
    → after_all tokens (record { tokens = []; refusal = refusal }) ≡ record { tokens = tokens; refusal = refusal }
no_more tokens refusal = ap (λ (ts : List Token). record { tokens = ts; refusal = refusal }) (append-nil tokens)

cut_whole : (bytes : List ℕ) (stretches : List Stretch) (rest : List Cell) (refusal : Option Refusal)
    → text_of stretches ++ rest ≡ placed bytes → IsEachLongest stretches rest → Ends stretches rest refusal
    → lexed bytes ≡ outcome_of (record { tokens = tokens_of stretches; refusal = refusal })
unfolding lexed
cut_whole bytes stretches rest refusal text each end =
    ap outcome_of
    (ap (scan [] false 0) (sym text) ∙ cut_behind stretches rest each
    ∙ ap (after_all (tokens_of stretches)) (cut_end stretches rest refusal end) ∙ no_more (tokens_of stretches) refusal)

pub lexed_only : (bytes : List ℕ) (outcome : Result (List Token) Refusal) → IsLexed bytes outcome → outcome ≡ lexed bytes
lexed_only bytes outcome is = is.gives ∙ sym (cut_whole bytes is.stretches is.rest is.refusal is.text is.longest is.end)

-- ---- each source has a cut

-- a cut that goes on from stretches to the end
record CutFrom (text : List Cell) : Type 0 where
  stretches : List Stretch
  rest : List Cell
  refusal : Option Refusal
  text_is : text_of stretches ++ rest ≡ text
  each : IsEachLongest stretches rest
  end : Ends stretches rest refusal

next_cells : (c : Cell) (cs : List Cell) (n : ℕ) → (c ∷ take n cs) ++ drop n cs ≡ c ∷ cs
next_cells c cs n = ap (λ (xs : List Cell). c ∷ xs) (take-append-drop n cs)

module _ (text : List Cell) where
  stopped : (before : List Stretch) (rest : List Cell) (refusal : Option Refusal) → text_of before ++ rest ≡ text
      → IsEachLongest before rest → Ends before rest refusal → CutFrom text
  stopped before rest refusal text_is each end =
      record { stretches = before; rest = rest; refusal = refusal; text_is = text_is; each = each; end = end }

  -- one stretch more
  module _ (before : List Stretch) (c : Cell) (cs : List Cell) (text_is : text_of before ++ c ∷ cs ≡ text)
      (each : IsEachLongest before (c ∷ cs))
      (more : (s : Stretch) (rest : List Cell) → length rest ≤ length cs → text_of (s ∷ before) ++ rest ≡ text
      → IsEachLongest (s ∷ before) rest → CutFrom text) where
    taken : (n : ℕ) (piece : Piece) → is_refused piece ≡ false → IsLongest (spelled_behind before) (bytes_of (c ∷ cs)) (suc n) piece
        → CutFrom text
    unfolding text_of
    taken n piece kept is =
        let s : Stretch = record { first = c; more = take n cs; piece = piece } in
        let same : cells_of s ++ drop n cs ≡ c ∷ cs = next_cells c cs n in
        let within : suc n ≤ length (bytes_of (c ∷ cs)) = is.within in
        let size : length (take n cs) ≡ n = length-take-le n cs (omega (arith, within, length-map cs (λ c. c.byte))) in
        more s (drop n cs) (omega (arith, length-drop n cs))
        (append_assoc (text_of before) (cells_of s) (drop n cs) ∙ ap (λ (xs : List Cell). text_of before ++ xs) same ∙ text_is) (
          subst (IsEachLongest before) (sym same) each,
          kept,
          subst (λ (xs : List Cell). IsLongest (spelled_behind before) (bytes_of xs) (length (cells_of s)) piece) (sym same)
              (subst (λ (k : ℕ). IsLongest (spelled_behind before) (bytes_of (c ∷ cs)) k piece) (sym (ap suc size)) is),
        )

    piece_at : (n : ℕ) (piece : Piece) → IsLongest (spelled_behind before) (bytes_of (c ∷ cs)) n piece → CutFrom text
    unfolding spelled
    piece_at zero piece is = let none : None ≡ Some piece = is.is in absurd cc
    piece_at (suc n) Space is = taken n Space refl is
    piece_at (suc n) Newline is = taken n Newline refl is
    piece_at (suc n) (TokenPiece kind) is = taken n (TokenPiece kind) refl is
    piece_at (suc n) (Refused rule offset) is = stopped before (c ∷ cs) _ text_is each (refused c cs (suc n) rule offset is)

    front_at : (r : Option (ℕ × Piece)) → LongestFront (spelled_behind before) (bytes_of (c ∷ cs)) r → CutFrom text
    front_at None none = stopped before (c ∷ cs) _ text_is each (bad_byte c cs none)
    front_at (Some r) is = piece_at r.0 r.1 is

  cut_on : (bound : ℕ) (before : List Stretch) (cells : List Cell) → length cells ≤ bound → text_of before ++ cells ≡ text
      → IsEachLongest before cells → CutFrom text
  cut_on bound before [] few text_is each = stopped before [] None text_is each at_end
  cut_on zero before (c ∷ cs) few text_is each = absurd (omega arith)
  cut_on (suc bound) before (c ∷ cs) few text_is each =
      front_at before c cs text_is each (λ s rest less. cut_on bound (s ∷ before) rest (omega arith))
      (longest (spelled_behind before) (bytes_of (c ∷ cs))) (longest_tells (spelled_behind before) (bytes_of (c ∷ cs)))

pub lexed_is : (bytes : List ℕ) → IsLexed bytes (lexed bytes)
unfolding text_of
lexed_is bytes =
    let text = placed bytes in
    let found = cut_on text (length text) [] text (omega arith) refl tt in
    record {
      stretches = found.stretches;
      rest = found.rest;
      refusal = found.refusal;
      text = found.text_is;
      longest = found.each;
      end = found.end;
      gives = cut_whole bytes found.stretches found.rest found.refusal found.text_is found.each found.end;
    }

-- ---- what a call gives

lexed_as : (bytes : List ℕ) (outcome : Result (List Token) Refusal) → lexed bytes ≡ outcome → IsLexed bytes outcome
lexed_as bytes outcome e = subst (IsLexed bytes) e (lexed_is bytes)

fault_as : (f : Fault) (bytes : List ℕ) → Fails {Y = List Token} f (λ out. lexed bytes ≡ out) → Fails f (IsLexed bytes)
fault_as fault.NoMemory bytes is = tt
fault_as (fault.Refused refusal) bytes is = lexed_as bytes (Err refusal) is

pub given_as : {V : Type 0} (see : V → List Token) (r : Result V Fault) (bytes : List ℕ) → Answers see r (λ out. lexed bytes ≡ out)
    → Answers see r (IsLexed bytes)
given_as see (Ok v) bytes is = lexed_as bytes (Ok (see v)) is
given_as see (Err f) bytes is = fault_as f bytes is
