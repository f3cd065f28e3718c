-- The tokens of a text, with what its line holds so far as one of four states: what the code computes.
use Rattle.std.specs.Prelude.{◌≡◌, ℕ, zero, suc, ◌-◌, ◌≤◌, ◌&&◌, Bool, true, false, if◌then◌else◌, List, [], ◌∷◌, ◌++◌, length, slice_index_or, Option, Some, None, Result, Ok, Err}
use Rattle.fc_base.specs.declared.refusals.Place.{Place}
use Rattle.fc_base.specs.declared.refusals.Fault.{Fault}
use Rattle.fc_base.specs.Answers.{Fails}
use Rattle.fc_base.specs.declared.rules.Rule.TheVariants.{BadByte}
use Rattle.c_tokens.specs.declared.tokens.Token.{Token}
use Rattle.c_tokens.specs.declared.tokens.TokenKind.{TokenKind}
use Rattle.c_tokens.specs.declared.pieces.Piece.{Piece}
use Rattle.c_tokens.specs.declared.pieces.Piece.TheVariants.{Space, Newline, Token as TokenPiece, Refused}
use Rattle.c_lexer.specs.declared.reader.Line.{Line}
use Rattle.c_lexer.specs.declared.reader.Line.TheVariants.{Start, Hash, Include, Other}
use Rattle.c_lexer.specs.declared.reader.State.{State}
use Rattle.c_tokens.specs.Tokens.{is_hash, token_limit}
use Rattle.c_lexer.specs.Outcomes.{Scanned, token_at, is_include, outcome_of}
use Rattle.c_lexer.specs.Lexed.{nothing_left, refused_at, token_then}
use Rattle.c_lexer.specs.Fronts.{first_piece}

-- the state of a line with these tokens, the last one first
abbrev pub line_of : List TokenKind → Line
line_of [] = Start
line_of (a ∷ []) = if is_hash a then Hash else Other
line_of (a ∷ b ∷ []) = if is_include a && is_hash b then Include else Other
line_of (a ∷ b ∷ c ∷ cs) = Other

-- the state behind one more token
abbrev pub line_after : Line → TokenKind → Line
line_after Start kind = if is_hash kind then Hash else Other
line_after Hash kind = if is_include kind then Include else Other
line_after Include kind = Other
line_after Other kind = Other

abbrev pub is_start : Line → Bool
is_start Start = true
is_start line = false

abbrev pub is_after_include : Line → Bool
is_after_include Include = true
is_after_include line = false

abbrev pub state : Line → Bool → State
state line spaced = record { line = line; spaced = spaced }

abbrev pub read_piece : State → Place → List Place → Piece → (State → Scanned) → Scanned
read_piece s place places Space rest = rest (state s.line true)
read_piece s place places Newline rest = rest (state Start true)
read_piece s place places (TokenPiece kind) rest =
    token_then (token_at place (is_start s.line) s.spaced kind) (rest (state (line_after s.line kind) false))
read_piece s place places (Refused rule offset) rest = refused_at rule (slice_index_or places offset place)

abbrev pub read_front : State → Place → List Place → Option (ℕ × Piece) → (State → ℕ → Scanned) → Scanned
read_front s place places None rest = refused_at BadByte place
read_front s place places (Some front) rest = read_piece s place places front.1 (λ s. rest s front.0)

unfoldable pub read : State → ℕ → List ℕ → List Place → Scanned
read s left [] places = nothing_left
read s left (b ∷ bs) [] = nothing_left
read s (suc left) (b ∷ bs) (p ∷ ps) = read s left bs ps
read s zero (b ∷ bs) (p ∷ ps) =
    read_front s p (p ∷ ps) (first_piece (is_after_include s.line) (b ∷ bs)) (λ s size. read s (size - 1) bs ps)

-- the tokens from before and then those of the rest
abbrev pub after_all : List Token → Scanned → Scanned
after_all front c = record { tokens = front ++ c.tokens; refusal = c.refusal }

-- What a call that adds a piece to these tokens leaves: with any rest behind it, the same tokens; or a refusal that is
-- the outcome.
abbrev pub Adds : Result State Fault → List Token → List Token → ((State → Scanned) → Scanned) → Type 0
Adds (Ok s) old new with = ((rest : State → Scanned) → after_all new (rest s) ≡ after_all old (with rest)) × (length new ≤ token_limit)
Adds (Err fault) old new with = Fails fault (λ out. (rest : State → Scanned) → outcome_of (after_all old (with rest)) ≡ out)
