-- Classes of bytes (C11 5.2.1 and 6.4).
use Rattle.std.specs.Prelude.{ℕ, Bool, true, false, ◌==◌, ◌||◌, List, [], ◌∷◌}
use Rattle.std.specs.Char.{is_ascii_alphabetic, is_ascii_alphanumeric}
use Rattle.std.specs.Str.{byte}

-- space, tab, vertical tab and form feed; the newline is white space too, and has a test of its own
abbrev pub is_space : ℕ → Bool
is_space b = b == byte " " || b == byte "\t" || b == byte "\u{b}" || b == byte "\u{c}"

abbrev pub is_newline : ℕ → Bool
is_newline b = b == byte "\n"

-- a letter or the underscore (C11 6.4.2.1, nondigit)
abbrev pub begins_name : ℕ → Bool
begins_name b = is_ascii_alphabetic b || b == byte "_"

-- a letter, a digit or the underscore
abbrev pub goes_on : ℕ → Bool
goes_on b = is_ascii_alphanumeric b || b == byte "_"

abbrev pub is_quote : ℕ → Bool
is_quote b = b == byte "\"" || b == byte "'"

abbrev pub is_sign : ℕ → Bool
is_sign b = b == byte "+" || b == byte "-"

-- e, E, p or P
abbrev pub is_exponent : ℕ → Bool
is_exponent b = b == byte "e" || b == byte "E" || b == byte "p" || b == byte "P"

abbrev pub is_empty : List ℕ → Bool
is_empty [] = true
is_empty (b ∷ bs) = false
