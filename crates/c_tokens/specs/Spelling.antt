-- The spelling that is given for each kind.
use Rattle.std.specs.Prelude.{ℕ, ◌+◌, ◌/◌, ◌%◌, ◌==◌, ◌&&◌, ◌||◌, nat_le, Bool, if◌then◌else◌, List, [], ◌∷◌, ◌++◌, map, take, codes, decimal}
use Rattle.std.specs.List.{flat_map}
use Rattle.std.specs.Int.Digits.{digits_of}
use Rattle.std.specs.Str.{byte}
use Rattle.c_tokens.specs.declared.tokens.NumberKind.{NumberKind}
use Rattle.c_tokens.specs.declared.tokens.TokenKind.{TokenKind}
use Rattle.c_tokens.specs.declared.tokens.TokenKind.TheVariants as k
use Rattle.c_tokens.specs.Bytes.{is_quote}
use Rattle.c_tokens.specs.Puncts.{punct_spelling, include_line}

abbrev pub octal_digit : ℕ → ℕ
octal_digit d = byte "0" + d

-- decimal digits, or octal ones behind a zero
abbrev pub digits_text : Bool → ℕ → List ℕ
digits_text decimal_base value = if decimal_base then decimal value else byte "0" ∷ map octal_digit (digits_of 8 value)

abbrev pub suffix_text : Bool → ℕ → List ℕ
suffix_text unsigned longs = (if unsigned then codes "u" else []) ++ take longs (codes "ll")

abbrev pub number_text : ℕ → NumberKind → List ℕ
number_text value kind = digits_text kind.decimal value ++ suffix_text kind.unsigned kind.longs

-- what stands for a byte between quotes: a quote or backslash behind a backslash, another printable byte itself, any
-- other as three octal digits behind a backslash, so that no digit behind them is taken for a fourth
unfoldable pub escaped : ℕ → List ℕ
escaped b =
    if is_quote b || b == byte "\\" then byte "\\" ∷ b ∷ []
    else (if nat_le (byte " ") b && nat_le b (byte "~") then b ∷ []
    else byte "\\" ∷ octal_digit (b / 64) ∷ octal_digit (b / 8 % 8) ∷ octal_digit (b % 8) ∷ [])

abbrev pub quoted : ℕ → List ℕ → List ℕ
quoted quote bytes = quote ∷ flat_map escaped bytes ++ quote ∷ []

abbrev pub spelling_of : TokenKind → List ℕ
spelling_of (k.Name text) = text
spelling_of (k.Number value kind) = number_text value kind
spelling_of (k.CharConst b) = quoted (byte "'") (b ∷ [])
spelling_of (k.Str bytes) = quoted (byte "\"") bytes
spelling_of (k.Punct p) = punct_spelling p
spelling_of (k.HeaderName name) = codes "<" ++ name ++ codes ">"
spelling_of (k.Header h) = include_line h
