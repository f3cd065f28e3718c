-- What a byte string is as a whole (C11 6.4), by its first bytes. A spelling that is refused is a piece too, so that
-- the longest piece decides.
use Rattle.std.specs.Prelude.{◌≡◌, ℕ, ◌^◌, ◌<◌, ◌≤◌, Bool, true, false, not, ◌==◌, ◌&&◌, ◌||◌, IsTrue, if◌then◌else◌, List, [], ◌∷◌, ◌++◌, codes, Option, Some, None, option_map}
use Rattle.std.specs.List.{list_all, AllByRecursion}
use Rattle.std.specs.Char.{is_ascii_digit}
use Rattle.std.specs.Str.{byte}
use Rattle.fc_base.specs.declared.rules.Rule.TheVariants.{OpenComment, LeftOutLiteral}
use Rattle.c_tokens.specs.declared.tokens.TokenKind.{TokenKind}
use Rattle.c_tokens.specs.declared.tokens.TokenKind.TheVariants as k
use Rattle.c_tokens.specs.declared.pieces.Piece.{Piece}
use Rattle.c_tokens.specs.declared.pieces.Piece.TheVariants.{Space, Newline, Token, Refused}
use Rattle.c_tokens.specs.Bytes.{is_space, is_newline, begins_name, goes_on, is_quote, is_empty}
use Rattle.c_tokens.specs.Numbers.{all_in_number, number}
use Rattle.c_tokens.specs.Literals.{literal_piece, string, constant, header}
use Rattle.c_tokens.specs.Puncts.{punctuator, include_line}

-- a byte that is a piece by itself
abbrev pub alone : Piece → List ℕ → Option Piece
alone piece bs = if is_empty bs then Some piece else None

-- a prefix L, u, U or u8 and a quote
abbrev pub is_prefixed : List ℕ → Bool
is_prefixed [] = false
is_prefixed (a ∷ []) = false
is_prefixed (a ∷ q ∷ []) = (a == byte "L" || a == byte "u" || a == byte "U") && is_quote q
is_prefixed (a ∷ e ∷ q ∷ []) = a == byte "u" && e == byte "8" && is_quote q
is_prefixed (a ∷ b ∷ c ∷ d ∷ ds) = false

-- an identifier, or the front of a prefixed literal
abbrev pub word : ℕ → List ℕ → Option Piece
word b bs =
    if list_all goes_on bs then Some (Token (k.Name (b ∷ bs)))
    else (if is_prefixed (b ∷ bs) then Some (Refused LeftOutLiteral 0) else None)

-- a preprocessing number whose last byte so far is this one
abbrev pub number_from : List ℕ → ℕ → List ℕ → Option Piece
number_from text before bs = if all_in_number before bs then Some (number text) else None

-- What stands behind `/*`: bytes and then, for the first time, `*/`; or bytes without it. `star`: behind a `*`.
unfoldable pub comment : Bool → List ℕ → Option Piece
comment star [] = Some (Refused OpenComment 0)
comment star (b ∷ bs) = if star && b == byte "/" then alone Space bs else comment (b == byte "*") bs

-- `*/` stands nowhere in the text.
abbrev pub HasNoEnd : List ℕ → Type 0
HasNoEnd text = (before behind : List ℕ) → before ++ (codes "*/" ++ behind) ≡ text → ⊥

-- what stands behind `/*` in a comment: any text and `*/`, which stands nowhere before
pub record IsClosed (bs : List ℕ) : Type 0 where
  pub text : List ℕ
  pub ends : text ++ codes "*/" ≡ bs
  pub first : HasNoEnd (text ++ codes "*")

abbrev pub punct_piece : List ℕ → Option Piece
punct_piece text = option_map (λ p. Token (k.Punct p)) (punctuator text)

-- behind a slash: a comment to the end of the line, a comment up to `*/`, or an operator
abbrev pub after_slash : List ℕ → Option Piece
after_slash [] = punct_piece (byte "/" ∷ [])
after_slash (b ∷ bs) =
    if b == byte "/" then (if list_all (λ c. not (is_newline c)) bs then Some Space else None)
    else (if b == byte "*" then comment false bs
    else punct_piece (byte "/" ∷ b ∷ bs))

-- behind a dot: a number or a punctuator
abbrev pub after_dot : List ℕ → Option Piece
after_dot [] = punct_piece (byte "." ∷ [])
after_dot (b ∷ bs) = if is_ascii_digit b then number_from (byte "." ∷ b ∷ bs) b bs else punct_piece (byte "." ∷ b ∷ bs)

-- What the byte string is as a whole. After `#` and `include` a `<` opens a header name.
unfoldable pub spelled : Bool → List ℕ → Option Piece
spelled after_include [] = None
spelled after_include (b ∷ bs) =
    if is_space b then alone Space bs
    else (if is_newline b then alone Newline bs
    else (if begins_name b then word b bs
    else (if is_ascii_digit b then number_from (b ∷ bs) b bs
    else (if b == byte "." then after_dot bs
    else (if b == byte "/" then after_slash bs
    else (if b == byte "\"" then literal_piece (byte "\"") true string bs
    else (if b == byte "'" then literal_piece (byte "'") true constant bs
    else (if b == byte "<" && after_include then literal_piece (byte ">") false header bs
    else punct_piece (b ∷ bs)))))))))

-- ---- the kinds of lexed tokens

abbrev pub is_name : List ℕ → Bool
is_name [] = false
is_name (b ∷ bs) = begins_name b && list_all goes_on bs

-- no newline and no `>`
abbrev pub in_header : ℕ → Bool
in_header b = not (is_newline b || b == byte ">")

-- The kinds that a lexed token has, and that of an inclusion. A decimal literal begins with another digit than 0.
abbrev pub IsLexedKind : TokenKind → Type 0
IsLexedKind (k.Name text) = IsTrue (is_name text)
IsLexedKind (k.Number value kind) = (value < 2 ^ 64) × (kind.longs ≤ 2) × (IsTrue kind.decimal → 0 < value)
IsLexedKind (k.CharConst b) = Unit {0}
IsLexedKind (k.Str bytes) = Unit {0}
IsLexedKind (k.Punct p) = Unit {0}
IsLexedKind (k.HeaderName text) = IsTrue (list_all in_header text)
IsLexedKind (k.Header h) = Unit {0}

-- the numbers between the quotes are bytes
abbrev pub HasBytes : TokenKind → Type 0
HasBytes (k.CharConst b) = b < 2 ^ 8
HasBytes (k.Str bytes) = AllByRecursion (λ b. b < 2 ^ 8) bytes
HasBytes kind = Unit {0}

abbrev pub is_header_name : TokenKind → Bool
is_header_name (k.HeaderName name) = true
is_header_name kind = false

-- The text spells the kind: as a whole it is a token of this kind, a header name where one may stand. An inclusion is
-- spelled as its line.
abbrev pub Spells : List ℕ → TokenKind → Type 0
Spells text (k.Header h) = text ≡ include_line h
Spells text kind = spelled (is_header_name kind) text ≡ Some (Token kind)
