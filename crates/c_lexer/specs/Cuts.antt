-- What a source is lexed as, said of a cut of its whole text (C11 6.4p4). `lexed` is the one outcome.
use Rattle.std.specs.Prelude.{◌≡◌, ℕ, Bool, true, false, List, [], ◌∷◌, ◌++◌, length, slice_index_or, Option, Some, None, Result}
use Rattle.fc_base.specs.declared.refusals.Place.{Place}
use Rattle.fc_base.specs.declared.refusals.Refusal.{Refusal}
use Rattle.fc_base.specs.declared.rules.Rule.{Rule}
use Rattle.fc_base.specs.declared.rules.Rule.TheVariants.{BadByte}
use Rattle.c_tokens.specs.declared.tokens.Token.{Token}
use Rattle.c_tokens.specs.declared.tokens.TokenKind.{TokenKind}
use Rattle.c_tokens.specs.declared.pieces.Piece.{Piece}
use Rattle.c_tokens.specs.declared.pieces.Piece.TheVariants.{Space, Newline, Token as TokenPiece, Refused}
use Rattle.c_tokens.specs.Pieces.{spelled}
use Rattle.c_lexer.specs.Places.{Cell, placed, bytes_of, places_of}
use Rattle.c_lexer.specs.Longest.{IsLongest, TakesNone}
use Rattle.c_lexer.specs.Outcomes.{outcome_of, opens_header, is_first, token_at}

-- A stretch of the text, never empty, and the piece that it is. A list of stretches begins with the last one, so that
-- those before a stretch are the rest of the list.
pub record Stretch : Type 0 where
  pub first : Cell
  pub more : List Cell
  pub piece : Piece

abbrev pub cells_of : Stretch → List Cell
cells_of s = s.first ∷ s.more

-- the text that stretches make, joined
unfoldable pub text_of : List Stretch → List Cell
text_of [] = []
text_of (s ∷ before) = text_of before ++ cells_of s

-- ---- what stands before a place

-- what a piece makes of the tokens on its line
abbrev pub on_line : Piece → List TokenKind → List TokenKind
on_line Space line = line
on_line Newline line = []
on_line (TokenPiece kind) line = kind ∷ line
on_line (Refused rule offset) line = line

-- the tokens behind the last newline, the last one first
unfoldable pub line_behind : List Stretch → List TokenKind
line_behind [] = []
line_behind (s ∷ before) = on_line s.piece (line_behind before)

-- white space, a newline too, or a comment
abbrev pub is_blank : Piece → Bool
is_blank Space = true
is_blank Newline = true
is_blank piece = false

-- white space or a comment stands last
abbrev pub ends_blank : List Stretch → Bool
ends_blank [] = false
ends_blank (s ∷ before) = is_blank s.piece

-- what a byte string spells behind these stretches
abbrev pub spelled_behind : List Stretch → List ℕ → Option Piece
spelled_behind before = spelled (opens_header (line_behind before))

-- ---- the cut

abbrev pub is_refused : Piece → Bool
is_refused (Refused rule offset) = true
is_refused piece = false

-- Each stretch is the longest piece at the front of what remains of the text there, and none is a refused spelling.
abbrev pub IsEachLongest : List Stretch → List Cell → Type 0
IsEachLongest [] rest = Unit {0}
IsEachLongest (s ∷ before) rest =
    IsEachLongest before (cells_of s ++ rest) × (is_refused s.piece ≡ false)
    × IsLongest (spelled_behind before) (bytes_of (cells_of s ++ rest)) (length (cells_of s)) s.piece

-- Behind the stretches no text remains, or no piece exists, or the longest one is a refused spelling.
pub data Ends (before : List Stretch) : List Cell → Option Refusal → Type 0 where
  at_end : Ends before [] None
  bad_byte : (c : Cell) (cs : List Cell) → TakesNone (spelled_behind before) (bytes_of (c ∷ cs))
      → Ends before (c ∷ cs) (Some (record { rule = BadByte; place = c.place }))
  refused : (c : Cell) (cs : List Cell) (n : ℕ) (rule : Rule) (offset : ℕ)
      → IsLongest (spelled_behind before) (bytes_of (c ∷ cs)) n (Refused rule offset)
      → Ends before (c ∷ cs) (Some (record { rule = rule; place = slice_index_or (places_of (c ∷ cs)) offset c.place }))

-- ---- its tokens

-- A token has the place of its first byte, starts its line where no token stands before it there, and is spaced where
-- white space or a comment stands right before it.
abbrev pub token_in : List Stretch → Place → Piece → List Token
token_in before place (TokenPiece kind) = token_at place (is_first (line_behind before)) (ends_blank before) kind ∷ []
token_in before place piece = []

unfoldable pub tokens_of : List Stretch → List Token
tokens_of [] = []
tokens_of (s ∷ before) = tokens_of before ++ token_in before s.first.place s.piece

-- The text with its lines joined is cut into its longest pieces, up to its end or the first refusal. The stretches stand
-- from the last one on: those of `a /**/b` are `b`, `/**/`, the space and `a`, nothing is left and nothing refused, and
-- the tokens are `a`, which starts its line, and `b`, which is spaced.
pub record IsLexed (bytes : List ℕ) (outcome : Result (List Token) Refusal) : Type 0 where
  pub stretches : List Stretch
  pub rest : List Cell
  pub refusal : Option Refusal
  pub text : text_of stretches ++ rest ≡ placed bytes
  pub longest : IsEachLongest stretches rest
  pub end : Ends stretches rest refusal
  pub gives : outcome ≡ outcome_of (record { tokens = tokens_of stretches; refusal = refusal })
