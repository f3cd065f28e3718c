-- Character constants, string literals and header names (C11 6.4.4.4, 6.4.5 and 6.4.7).
use Rattle.std.specs.Prelude.{◌≡◌, ℕ, zero, suc, ◌+◌, ◌-◌, Bool, false, not, ◌==◌, ◌&&◌, ◌||◌, nat_lt, if◌then◌else◌, List, [], ◌∷◌, ◌++◌, length, take, Option, Some, None, option_map, Result, Ok, Err}
use Rattle.std.specs.List.{take_while}
use Rattle.std.specs.Char.{is_digit}
use Rattle.std.specs.Str.{byte}
use Rattle.std.specs.Str.Parse.{digits_value}
use Rattle.fc_base.specs.declared.rules.Rule.TheVariants.{OpenText, BadEscape, LeftOutLiteral}
use Rattle.c_tokens.specs.declared.tokens.TokenKind.TheVariants.{CharConst, Str, HeaderName}
use Rattle.c_tokens.specs.declared.pieces.Piece.{Piece}
use Rattle.c_tokens.specs.declared.pieces.Piece.TheVariants.{Token, Refused}
use Rattle.c_tokens.specs.Bytes.{is_empty}

-- ---- where a literal ends

pub data Shape : Type 0 where
  closed : Shape
  unclosed : Shape

-- What stands behind the opening byte of a literal: bytes and then, for the first time, the closing byte; or bytes
-- without it, to which a literal comes down that meets a newline or the end. Where a backslash escapes, the byte
-- behind one closes nothing. `escaped`: such a byte comes next.
unfoldable pub shape : ℕ → Bool → Bool → List ℕ → Option Shape
shape close escapes escaped [] = Some unclosed
shape close escapes escaped (b ∷ bs) =
    if b == byte "\n" then None
    else (if b == close && not escaped then (if is_empty bs then Some closed else None)
    else shape close escapes (escapes && b == byte "\\" && not escaped) bs)

-- What stands behind the quote of a string literal or character constant, as C11 6.4.4.4 and 6.4.5 have it: a byte other
-- than the quote, the backslash and the newline, or a backslash and a byte that is no newline, and so on up to the quote;
-- without a quote it is unclosed.
pub data HasShape (quote : ℕ) : Shape → List ℕ → Type 0 where
  ends : HasShape quote closed (quote ∷ [])
  runs_out : HasShape quote unclosed []
  backslash_last : HasShape quote unclosed (byte "\\" ∷ [])
  plain_byte : {s : Shape} {b : ℕ} {bs : List ℕ} → (b == byte "\n") ≡ false → (b == quote) ≡ false → (b == byte "\\") ≡ false
      → HasShape quote s bs → HasShape quote s (b ∷ bs)
  escaped_byte : {s : Shape} {b : ℕ} {bs : List ℕ} → (b == byte "\n") ≡ false → HasShape quote s bs
      → HasShape quote s (byte "\\" ∷ b ∷ bs)

-- ---- escape sequences

-- `\'`, `\"`, `\?`, `\\`, `\a`, `\b`, `\f`, `\n`, `\r`, `\t` and `\v`
unfoldable pub simple_escape : ℕ → Option ℕ
simple_escape b =
    if b == byte "'" || b == byte "\"" || b == byte "?" || b == byte "\\" then Some b
    else (if b == byte "a" then Some 7
    else (if b == byte "b" then Some 8
    else (if b == byte "f" then Some 12
    else (if b == byte "n" then Some 10
    else (if b == byte "r" then Some 13
    else (if b == byte "t" then Some 9
    else (if b == byte "v" then Some 11
    else None)))))))

-- the number that the digits write, where there is a digit and the number is a byte
abbrev pub byte_value : ℕ → List ℕ → Option ℕ
byte_value base digits =
    if is_empty digits then None
    else (if nat_lt (digits_value base digits) 256 then Some (digits_value base digits) else None)

abbrev pub octal_digits : List ℕ → List ℕ
octal_digits bs = take_while (λ b. is_digit b 8) (take 3 bs)

abbrev pub hexadecimal_digits : List ℕ → List ℕ
hexadecimal_digits bs = take_while (λ b. is_digit b 16) bs

-- The escape sequence behind a backslash: one to three octal digits, x and hexadecimal digits, or one byte. How many
-- bytes it has there, and its value, none where it is not allowed.
unfoldable pub escape : List ℕ → ℕ × Option ℕ
escape [] = (0, None)
escape (b ∷ bs) =
    if is_digit b 8 then (length (octal_digits (b ∷ bs)), byte_value 8 (octal_digits (b ∷ bs)))
    else (if b == byte "x" then (suc (length (hexadecimal_digits bs)), byte_value 16 (hexadecimal_digits bs))
    else (1, simple_escape b))

-- ---- the characters between the quotes

-- A byte that stands for itself or an escape sequence: the place of its first byte in the literal, and its value.
pub record Character : Type 0 where
  pub offset : ℕ
  pub value : Option ℕ

abbrev pub character : ℕ → Option ℕ → Character
character offset value = record { offset = offset; value = value }

-- The characters of a body whose first byte has this place in the literal. `left`: the bytes left of an escape sequence.
unfoldable pub characters : ℕ → ℕ → List ℕ → List Character
characters offset left [] = []
characters offset (suc left) (b ∷ bs) = characters (suc offset) left bs
characters offset zero (b ∷ bs) =
    if b == byte "\\" then character offset (escape bs).1 ∷ characters (suc offset) (escape bs).0 bs
    else character offset (Some b) ∷ characters (suc offset) 0 bs

-- One character by itself, with what stands behind it: a byte that is no backslash, or a backslash and as many bytes as
-- the escape sequence there has.
pub data IsCharacter (behind : List ℕ) : List ℕ → Option ℕ → Type 0 where
  plain : (b : ℕ) → (b == byte "\\") ≡ false → IsCharacter behind (b ∷ []) (Some b)
  escaped : (sequence : List ℕ) → length sequence ≡ (escape (sequence ++ behind)).0
      → IsCharacter behind (byte "\\" ∷ sequence) (escape (sequence ++ behind)).1

-- A body is its characters joined, and each stands where those before it end.
pub data AreCharacters : ℕ → List ℕ → List Character → Type 0 where
  none : {offset : ℕ} → AreCharacters offset [] []
  more : {offset : ℕ} {text behind : List ℕ} {value : Option ℕ} {cs : List Character} → IsCharacter behind text value
      → AreCharacters (offset + length text) behind cs → AreCharacters offset (text ++ behind) (character offset value ∷ cs)

abbrev pub valued : ℕ → Option ℕ → Result (List ℕ) ℕ → Result (List ℕ) ℕ
valued offset None rest = Err offset
valued offset (Some v) (Ok vs) = Ok (v ∷ vs)
valued offset (Some v) (Err e) = Err e

-- the values, or the place of the first character that has none
unfoldable pub values : List Character → Result (List ℕ) ℕ
values [] = Ok []
values (c ∷ cs) = valued c.offset c.value (values cs)

-- ---- literals

-- a literal's bytes behind the opening one, without the closing one
abbrev pub body_of : List ℕ → List ℕ
body_of bs = take (length bs - 1) bs

abbrev pub string_of : Result (List ℕ) ℕ → Piece
string_of (Ok bytes) = Token (Str bytes)
string_of (Err offset) = Refused BadEscape offset

abbrev pub one_character : ℕ → Option ℕ → Piece
one_character offset None = Refused BadEscape offset
one_character offset (Some b) = Token (CharConst b)

-- a character constant has one character
abbrev pub constant_of : List Character → Piece
constant_of [] = Refused LeftOutLiteral 0
constant_of (c ∷ []) = one_character c.offset c.value
constant_of (c ∷ d ∷ cs) = Refused LeftOutLiteral 0

abbrev pub string : Shape → List ℕ → Piece
string unclosed bs = Refused OpenText 0
string closed bs = string_of (values (characters 1 0 (body_of bs)))

abbrev pub constant : Shape → List ℕ → Piece
constant unclosed bs = Refused OpenText 0
constant closed bs = constant_of (characters 1 0 (body_of bs))

abbrev pub header : Shape → List ℕ → Piece
header unclosed bs = Refused OpenText 0
header closed bs = Token (HeaderName (body_of bs))

-- what these bytes are behind the opening byte of a literal
abbrev pub literal_piece : ℕ → Bool → (Shape → List ℕ → Piece) → List ℕ → Option Piece
literal_piece close escapes of bs = option_map (λ s. of s bs) (shape close escapes false bs)
