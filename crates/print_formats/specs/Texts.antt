-- What a conversion prints of its argument (C11 7.21.6.1), which is handed over as 64 bits. A character is a byte.
use Rattle.std.specs.Prelude.{ℕ, ◌+◌, ◌-◌, ◌%◌, Bool, true, false, List, [], ◌∷◌, ◌++◌, length, replicate, if◌then◌else◌}
use Rattle.std.specs.Prelude.{ℤ, pos, negsuc, unsigned_abs}
use Rattle.std.specs.Fmt.{digits}
use Rattle.std.specs.Str.{byte}
use Rattle.fc_base.specs.declared.levels.Width.{Width}
use Rattle.fc_base.specs.declared.levels.Width.TheVariants.{W1, W2, W4, W8}
use Rattle.fc_base.specs.Widths.{extended}
use Rattle.c_arithmetic.specs.Arithmetic.{integer}
use Rattle.print_formats.specs.declared.conversions.Numeral.{Numeral}
use Rattle.print_formats.specs.declared.conversions.Numeral.TheVariants as numerals
use Rattle.print_formats.specs.declared.conversions.Options.{Options}
use Rattle.print_formats.specs.declared.conversions.Specifier.{Specifier}
use Rattle.print_formats.specs.declared.conversions.Specifier.TheVariants as specifiers
use Rattle.print_formats.specs.declared.conversions.Argument.{Argument}
use Rattle.print_formats.specs.declared.conversions.Argument.TheVariants as arguments

-- what a conversion's argument is, promoted: hh and h take an int too (p7)
abbrev pub argument_of : Specifier → Argument
argument_of (specifiers.Integer numeral W1) = arguments.Int
argument_of (specifiers.Integer numeral W2) = arguments.Int
argument_of (specifiers.Integer numeral W4) = arguments.Int
argument_of (specifiers.Integer numeral W8) = arguments.Long
argument_of specifiers.Character = arguments.Int
argument_of (specifiers.Text precision) = arguments.Text

-- ---- integers

abbrev pub is_signed : Numeral → Bool
is_signed numerals.Signed = true
is_signed numerals.Unsigned = false
is_signed numerals.Octal = false
is_signed numerals.Hexadecimal = false
is_signed numerals.UpperHexadecimal = false

abbrev pub base_of : Numeral → ℕ
base_of numerals.Signed = 10
base_of numerals.Unsigned = 10
base_of numerals.Octal = 8
base_of numerals.Hexadecimal = 16
base_of numerals.UpperHexadecimal = 16

abbrev pub is_upper : Numeral → Bool
is_upper numerals.Signed = false
is_upper numerals.Unsigned = false
is_upper numerals.Octal = false
is_upper numerals.Hexadecimal = false
is_upper numerals.UpperHexadecimal = true

-- the number that is printed: the argument converted to the type that the length modifier names, signed for d and i alone
abbrev pub printed_number : Numeral → Width → ℕ → ℤ
printed_number numeral of argument = integer (is_signed numeral) (extended argument of (is_signed numeral))

abbrev pub sign_of : ℤ → List ℕ
sign_of (pos n) = []
sign_of (negsuc n) = byte "-" ∷ []

abbrev pub digits_of : Numeral → ℤ → List ℕ
digits_of numeral z = digits (base_of numeral) (is_upper numeral) (unsigned_abs z)

-- ---- the field width (p4) and the flags (p6)

-- spaces before, or behind with the flag `-`; with the flag `0` alone, zeros between the sign and the digits
abbrev pub padded : Options → List ℕ → List ℕ → List ℕ
padded o sign body =
    let missing = o.width - (length sign + length body) in
    if o.left then sign ++ (body ++ replicate missing (byte " "))
    else (if o.zero then sign ++ (replicate missing (byte "0") ++ body)
    else replicate missing (byte " ") ++ (sign ++ body))

-- ---- the text of a conversion

abbrev pub number_text : Options → Numeral → Width → ℕ → List ℕ
number_text o numeral of argument =
    let z = printed_number numeral of argument in padded o (sign_of z) (digits_of numeral z)

abbrev pub character_text : Options → ℕ → List ℕ
character_text o argument = padded o [] (argument % 256 ∷ [])

-- of a string, up to its NUL or its precision
abbrev pub string_text : Options → List ℕ → List ℕ
string_text o string = padded o [] string
