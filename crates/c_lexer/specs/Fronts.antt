-- The longest piece at the front of a text, by its first bytes: what the code computes.
use Rattle.std.specs.Prelude.{ℕ, suc, ◌+◌, ◌==◌, ◌&&◌, not, nat_lt, Bool, true, false, if◌then◌else◌, List, [], ◌∷◌, length, take, Option, Some, None, option_map}
use Rattle.std.specs.List.{prefix_len}
use Rattle.std.specs.Char.{is_ascii_digit}
use Rattle.std.specs.Str.{byte}
use Rattle.fc_base.specs.declared.rules.Rule.TheVariants.{OpenComment, LeftOutLiteral}
use Rattle.c_tokens.specs.declared.tokens.TokenKind.TheVariants as k
use Rattle.c_tokens.specs.declared.pieces.Piece.{Piece}
use Rattle.c_tokens.specs.declared.pieces.Piece.TheVariants.{Space, Newline, Token, Refused}
use Rattle.c_tokens.specs.declared.puncts.Punct.{Punct}
use Rattle.c_tokens.specs.Bytes.{is_space, is_newline, begins_name, goes_on}
use Rattle.c_tokens.specs.Numbers.{number}
use Rattle.c_tokens.specs.Literals.{Shape, closed, unclosed, string, constant, header}
use Rattle.c_tokens.specs.Pieces.{is_prefixed}
use Rattle.c_lexer.specs.Runs.{number_len, comment_end, literal_front, first_punct}

abbrev pub punct_front : ℕ × Punct → ℕ × Piece
punct_front r = (r.0, Token (k.Punct r.1))

abbrev pub first_operator : List ℕ → Option (ℕ × Piece)
first_operator bs = option_map punct_front (first_punct bs)

-- behind these bytes stands a quote that makes them a prefix
abbrev pub begins_literal : ℕ → List ℕ → Bool
begins_literal size text = nat_lt size (length text) && is_prefixed (take (size + 1) text)

-- an identifier of these bytes, or the front of a prefixed literal
abbrev pub word_of : ℕ → List ℕ → ℕ × Piece
word_of size text =
    if begins_literal size text then (size + 1, Refused LeftOutLiteral 0) else (size, Token (k.Name (take size text)))

unfoldable pub first_word : List ℕ → Option (ℕ × Piece)
first_word [] = None
first_word (b ∷ bs) = Some (word_of (prefix_len goes_on bs + 1) (b ∷ bs))

unfoldable pub first_number : List ℕ → Option (ℕ × Piece)
first_number [] = None
first_number (b ∷ bs) = Some (suc (number_len b bs), number (b ∷ take (number_len b bs) bs))

unfoldable pub first_dot : List ℕ → Option (ℕ × Piece)
first_dot [] = None
first_dot (a ∷ []) = first_operator (a ∷ [])
first_dot (a ∷ b ∷ bs) =
    if is_ascii_digit b then Some (suc (suc (number_len b bs)), number (a ∷ b ∷ take (number_len b bs) bs))
    else first_operator (a ∷ b ∷ bs)

abbrev pub comment_piece : Shape → Piece
comment_piece closed = Space
comment_piece unclosed = Refused OpenComment 0

unfoldable pub first_slash : List ℕ → Option (ℕ × Piece)
first_slash [] = None
first_slash (a ∷ []) = first_operator (a ∷ [])
first_slash (a ∷ b ∷ bs) =
    if b == byte "/" then Some (suc (suc (prefix_len (λ c. not (is_newline c)) bs)), Space)
    else (if b == byte "*" then Some (suc (suc (comment_end false bs).0), comment_piece (comment_end false bs).1)
    else first_operator (a ∷ b ∷ bs))

-- what begins with another byte than white space, a letter or a digit
unfoldable pub first_other : Bool → List ℕ → Option (ℕ × Piece)
first_other after_include [] = None
first_other after_include (b ∷ bs) =
    if b == byte "." then first_dot (b ∷ bs)
    else (if b == byte "/" then first_slash (b ∷ bs)
    else (if b == byte "\"" then Some (literal_front (byte "\"") true string bs)
    else (if b == byte "'" then Some (literal_front (byte "'") true constant bs)
    else (if b == byte "<" && after_include then Some (literal_front (byte ">") false header bs)
    else first_operator (b ∷ bs)))))

unfoldable pub first_piece : Bool → List ℕ → Option (ℕ × Piece)
first_piece after_include [] = None
first_piece after_include (b ∷ bs) =
    if is_space b then Some (1, Space)
    else (if is_newline b then Some (1, Newline)
    else (if begins_name b then first_word (b ∷ bs)
    else (if is_ascii_digit b then first_number (b ∷ bs)
    else first_other after_include (b ∷ bs))))
