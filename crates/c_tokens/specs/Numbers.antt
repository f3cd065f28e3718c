-- Preprocessing numbers and integer literals (C11 6.4.8 and 6.4.4.1).
use Rattle.std.specs.Prelude.{ℕ, ◌^◌, Bool, true, false, ◌==◌, ◌&&◌, ◌||◌, nat_lt, if◌then◌else◌, List, [], ◌∷◌, drop, Option, Some, None}
use Rattle.std.specs.List.{prefix_len, take_while}
use Rattle.std.specs.Char.{is_digit}
use Rattle.std.specs.Str.{byte}
use Rattle.std.specs.Str.Parse.{digits_value}
use Rattle.fc_base.specs.declared.rules.Rule.TheVariants.{BigNumber, LeftOutLiteral}
use Rattle.c_tokens.specs.declared.tokens.NumberKind.{NumberKind}
use Rattle.c_tokens.specs.declared.tokens.TokenKind.TheVariants.{Number}
use Rattle.c_tokens.specs.declared.pieces.Piece.{Piece}
use Rattle.c_tokens.specs.declared.pieces.Piece.TheVariants.{Token, Refused}
use Rattle.c_tokens.specs.Bytes.{goes_on, is_sign, is_exponent, is_empty}

-- the byte goes on in a preprocessing number behind this one: a letter, a digit, `_`, `.`, or a sign behind an exponent's letter
abbrev pub in_number : ℕ → ℕ → Bool
in_number before b = goes_on b || b == byte "." || (is_sign b && is_exponent before)

-- each of the bytes goes on in a preprocessing number, the first behind this one
abbrev pub all_in_number : ℕ → List ℕ → Bool
all_in_number before [] = true
all_in_number before (b ∷ bs) = in_number before b && all_in_number b bs

-- u or U; l or L; ll or LL
abbrev pub is_u : ℕ → Bool
is_u b = b == byte "u" || b == byte "U"

abbrev pub is_l : ℕ → Bool
is_l b = b == byte "l" || b == byte "L"

abbrev pub is_ll : ℕ → ℕ → Bool
is_ll a b = is_l a && a == b

-- C11's suffixes (none, u, l, ul, lu, ll, ull and llu): whether there is a u, and how many l
unfoldable pub suffix_of : List ℕ → Option (Bool × ℕ)
suffix_of [] = Some (false, 0)
suffix_of (a ∷ []) = if is_u a then Some (true, 0) else (if is_l a then Some (false, 1) else None)
suffix_of (a ∷ b ∷ []) =
    if is_u a && is_l b then Some (true, 1)
    else (if is_l a && is_u b then Some (true, 1)
    else (if is_ll a b then Some (false, 2)
    else None))
suffix_of (a ∷ b ∷ c ∷ []) =
    if is_u a && is_ll b c then Some (true, 2)
    else (if is_ll a b && is_u c then Some (true, 2)
    else None)
suffix_of (a ∷ b ∷ c ∷ d ∷ ds) = None

abbrev pub number_kind : ℕ → Bool × ℕ → NumberKind
number_kind base s = record { decimal = base == 10; unsigned = s.0; longs = s.1 }

-- Digits in a base and a suffix. A literal has a digit, and its value fits 64 bits.
abbrev pub integer : ℕ → List ℕ → Option (Bool × ℕ) → Piece
integer base digits None = Refused LeftOutLiteral 0
integer base digits (Some s) =
    if is_empty digits then Refused LeftOutLiteral 0
    else (if nat_lt (digits_value base digits) (2 ^ 64) then Token (Number (digits_value base digits) (number_kind base s))
    else Refused BigNumber 0)

-- the longest front of digits in the base, and what stands behind it
abbrev pub integer_in : ℕ → List ℕ → Piece
integer_in base body =
    integer base (take_while (λ b. is_digit b base) body) (suffix_of (drop (prefix_len (λ b. is_digit b base) body) body))

-- 0x or 0X
abbrev pub is_hexadecimal : List ℕ → Bool
is_hexadecimal [] = false
is_hexadecimal (a ∷ []) = false
is_hexadecimal (a ∷ b ∷ bs) = a == byte "0" && (b == byte "x" || b == byte "X")

abbrev pub begins_zero : List ℕ → Bool
begins_zero [] = false
begins_zero (a ∷ bs) = a == byte "0"

-- A preprocessing number, as a whole. `0` is an octal literal, as in C11.
unfoldable pub number : List ℕ → Piece
number text =
    if is_hexadecimal text then integer_in 16 (drop 2 text)
    else (if begins_zero text then integer_in 8 text
    else integer_in 10 text)
