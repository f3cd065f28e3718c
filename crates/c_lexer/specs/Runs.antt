-- What the scanning functions give.
use Rattle.std.specs.Prelude.{ℕ, suc, ◌==◌, ◌&&◌, ◌^◌, not, nat_lt, Bool, true, false, if◌then◌else◌, List, [], ◌∷◌, take, Option, Some, None, option_map}
use Rattle.std.specs.Option.{option_or}
use Rattle.std.specs.Char.{is_digit}
use Rattle.std.specs.Str.{byte}
use Rattle.c_tokens.specs.Bytes.{goes_on, is_newline}
use Rattle.c_tokens.specs.Numbers.{in_number}
use Rattle.c_tokens.specs.Literals.{Shape, closed, unclosed, escape}
use Rattle.c_tokens.specs.declared.puncts.Punct.{Punct}
use Rattle.c_tokens.specs.declared.puncts.Punct.TheVariants as p
use Rattle.c_tokens.specs.declared.pieces.Piece.{Piece}
use Rattle.c_lexer.specs.declared.bytes.Class.{Class}
use Rattle.c_lexer.specs.declared.bytes.Class.TheVariants.{Word, Digit}

-- the class has the byte
abbrev pub is_in : Class → ℕ → Bool
is_in Word = goes_on
is_in (Digit base) = λ b. is_digit b base

-- how many bytes go on in a preprocessing number behind this one
unfoldable pub number_len : ℕ → List ℕ → ℕ
number_len before [] = 0
number_len before (b ∷ bs) = if in_number before b then suc (number_len b bs) else 0

-- one more byte
abbrev pub one_more : ℕ × Shape → ℕ × Shape
one_more r = (suc r.0, r.1)

-- how far a literal goes behind its opening byte
unfoldable pub literal_end : ℕ → Bool → Bool → List ℕ → ℕ × Shape
literal_end close escapes escaped [] = (0, unclosed)
literal_end close escapes escaped (b ∷ bs) =
    if is_newline b then (0, unclosed)
    else (if b == close && not escaped then (1, closed)
    else one_more (literal_end close escapes (escapes && b == byte "\\" && not escaped) bs))

-- how far a comment goes behind `/*`
unfoldable pub comment_end : Bool → List ℕ → ℕ × Shape
comment_end star [] = (0, unclosed)
comment_end star (b ∷ bs) = if star && b == byte "/" then (1, closed) else one_more (comment_end (b == byte "*") bs)

-- the number, where it fits 64 bits
abbrev pub fits_64 : ℕ → Option ℕ
fits_64 n = if nat_lt n (2 ^ 64) then Some n else None

abbrev pub shape_of : Bool → Shape
shape_of true = closed
shape_of false = unclosed

-- what one byte spells: an operator
unfoldable pub operator : ℕ → Option Punct
operator a =
    if a == byte "+" then Some p.Plus
    else (if a == byte "-" then Some p.Minus
    else (if a == byte "*" then Some p.Star
    else (if a == byte "/" then Some p.Slash
    else (if a == byte "%" then Some p.Percent
    else (if a == byte "&" then Some p.Ampersand
    else (if a == byte "|" then Some p.Bar
    else (if a == byte "^" then Some p.Caret
    else (if a == byte "~" then Some p.Tilde
    else (if a == byte "!" then Some p.Exclamation
    else (if a == byte "<" then Some p.Less
    else (if a == byte ">" then Some p.Greater
    else (if a == byte "=" then Some p.Assign
    else None))))))))))))

-- what one byte spells: a bracket, a separator or an operator
unfoldable pub one_byte : ℕ → Option Punct
one_byte a =
    if a == byte "[" then Some p.LeftBracket
    else (if a == byte "]" then Some p.RightBracket
    else (if a == byte "(" then Some p.LeftParen
    else (if a == byte ")" then Some p.RightParen
    else (if a == byte "{" then Some p.LeftBrace
    else (if a == byte "}" then Some p.RightBrace
    else (if a == byte "." then Some p.Dot
    else (if a == byte "," then Some p.Comma
    else (if a == byte ";" then Some p.Semicolon
    else (if a == byte ":" then Some p.Colon
    else (if a == byte "?" then Some p.Question
    else (if a == byte "#" then Some p.Hash
    else operator a)))))))))))

-- what a byte and `=` spell
unfoldable pub with_assign : ℕ → Option Punct
with_assign a =
    if a == byte "+" then Some p.PlusAssign
    else (if a == byte "-" then Some p.MinusAssign
    else (if a == byte "*" then Some p.StarAssign
    else (if a == byte "/" then Some p.SlashAssign
    else (if a == byte "%" then Some p.PercentAssign
    else (if a == byte "&" then Some p.AmpersandAssign
    else (if a == byte "|" then Some p.BarAssign
    else (if a == byte "^" then Some p.CaretAssign
    else (if a == byte "!" then Some p.NotEqual
    else (if a == byte "<" then Some p.LessEqual
    else (if a == byte ">" then Some p.GreaterEqual
    else (if a == byte "=" then Some p.EqualEqual
    else None)))))))))))

-- what a byte spells that stands there twice
unfoldable pub doubled : ℕ → Option Punct
doubled a =
    if a == byte "+" then Some p.PlusPlus
    else (if a == byte "-" then Some p.MinusMinus
    else (if a == byte "&" then Some p.AndAnd
    else (if a == byte "|" then Some p.OrOr
    else (if a == byte "<" then Some p.ShiftLeft
    else (if a == byte ">" then Some p.ShiftRight
    else (if a == byte "#" then Some p.HashHash
    else None))))))

-- what two bytes spell
abbrev pub two_bytes : ℕ → ℕ → Option Punct
two_bytes a b =
    if b == byte "=" then with_assign a
    else (if a == b then doubled a
    else (if a == byte "-" && b == byte ">" then Some p.Arrow
    else None))

-- what three bytes spell: `...`, `<<=` and `>>=`
abbrev pub three_bytes : ℕ → ℕ → ℕ → Option Punct
three_bytes a b c =
    if a == byte "." && b == byte "." && c == byte "." then Some p.Ellipsis
    else (if a == byte "<" && b == byte "<" && c == byte "=" then Some p.ShiftLeftAssign
    else (if a == byte ">" && b == byte ">" && c == byte "=" then Some p.ShiftRightAssign
    else None))

-- the punctuators of one, two and three bytes at the front
abbrev pub first_one : List ℕ → Option Punct
first_one [] = None
first_one (a ∷ rest) = one_byte a

abbrev pub first_two : List ℕ → Option Punct
first_two [] = None
first_two (a ∷ []) = None
first_two (a ∷ b ∷ rest) = two_bytes a b

abbrev pub first_three : List ℕ → Option Punct
first_three [] = None
first_three (a ∷ []) = None
first_three (a ∷ b ∷ []) = None
first_three (a ∷ b ∷ c ∷ rest) = three_bytes a b c

abbrev pub with_length : ℕ → Option Punct → Option (ℕ × Punct)
with_length n = option_map (λ p. (n, p))

-- the longest punctuator at the front, with its length
abbrev pub first_punct : List ℕ → Option (ℕ × Punct)
first_punct bs = option_or (with_length 3 (first_three bs)) (option_or (with_length 2 (first_two bs)) (with_length 1 (first_one bs)))

-- the character at the front: how many bytes it has, and its value
abbrev pub first_character : List ℕ → ℕ × Option ℕ
first_character [] = (0, None)
first_character (b ∷ bs) = if b == byte "\\" then (suc (escape bs).0, (escape bs).1) else (1, Some b)

-- a literal behind its opening byte: how many bytes it has with that byte, and what it is
abbrev pub literal_front : ℕ → Bool → (Shape → List ℕ → Piece) → List ℕ → ℕ × Piece
literal_front close escapes of bs =
    (suc (literal_end close escapes false bs).0, of (literal_end close escapes false bs).1 (take (literal_end close escapes false bs).0 bs))
