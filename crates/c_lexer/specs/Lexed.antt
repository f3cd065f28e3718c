-- The outcome that a source is lexed as, as a function that goes over the text once. `IsLexed` in Cuts says what it is.
use Rattle.std.specs.Prelude.{ℕ, zero, suc, ◌-◌, Bool, true, false, List, [], ◌∷◌, slice_index_or, Option, Some, None, Result}
use Rattle.fc_base.specs.declared.refusals.Place.{Place}
use Rattle.fc_base.specs.declared.refusals.Refusal.{Refusal}
use Rattle.fc_base.specs.declared.rules.Rule.{Rule}
use Rattle.fc_base.specs.declared.rules.Rule.TheVariants.{BadByte}
use Rattle.c_tokens.specs.declared.tokens.Token.{Token}
use Rattle.c_tokens.specs.declared.tokens.TokenKind.{TokenKind}
use Rattle.c_tokens.specs.declared.pieces.Piece.{Piece}
use Rattle.c_tokens.specs.declared.pieces.Piece.TheVariants.{Space, Newline, Token as TokenPiece, Refused}
use Rattle.c_tokens.specs.Pieces.{spelled}
use Rattle.c_lexer.specs.Places.{Cell, placed, bytes_of, places_of}
use Rattle.c_lexer.specs.Longest.{longest}
use Rattle.c_lexer.specs.Outcomes.{Scanned, is_first, opens_header, token_at, outcome_of}

abbrev pub nothing_left : Scanned
nothing_left = record { tokens = []; refusal = None }

abbrev pub refused_at : Rule → Place → Scanned
refused_at rule place = record { tokens = []; refusal = Some (record { rule = rule; place = place }) }

abbrev pub token_then : Token → Scanned → Scanned
token_then t c = record { tokens = t ∷ c.tokens; refusal = c.refusal }

-- What a piece at the front of these cells makes of the tokens behind it, which depends on the tokens on its line before
-- and on whether white space or a comment stands right before.
abbrev pub with_piece : List TokenKind → Bool → Place → List Cell → Piece → (List TokenKind → Bool → Scanned) → Scanned
with_piece line spaced place cells Space rest = rest line true
with_piece line spaced place cells Newline rest = rest [] true
with_piece line spaced place cells (TokenPiece kind) rest =
    token_then (token_at place (is_first line) spaced kind) (rest (kind ∷ line) false)
with_piece line spaced place cells (Refused rule offset) rest =
    refused_at rule (slice_index_or (places_of cells) offset place)

abbrev pub with_longest : List TokenKind → Bool → Place → List Cell → Option (ℕ × Piece) → (List TokenKind → Bool → ℕ → Scanned) → Scanned
with_longest line spaced place cells None rest = refused_at BadByte place
with_longest line spaced place cells (Some piece) rest =
    with_piece line spaced place cells piece.1 (λ line spaced. rest line spaced piece.0)

-- The cells cut into pieces, each the longest at its place. `line`: the tokens on the line before, the last one first.
-- `left`: the bytes left of the piece before.
unfoldable pub scan : List TokenKind → Bool → ℕ → List Cell → Scanned
scan line spaced left [] = nothing_left
scan line spaced (suc left) (c ∷ cs) = scan line spaced left cs
scan line spaced zero (c ∷ cs) =
    with_longest line spaced c.place (c ∷ cs) (longest (spelled (opens_header line)) (bytes_of (c ∷ cs)))
    (λ line spaced size. scan line spaced (size - 1) cs)

unfoldable pub lexed : List ℕ → Result (List Token) Refusal
lexed bytes = outcome_of (scan [] false 0 (placed bytes))
