-- A format as an automaton over its bytes (C11 7.21.6.1). Of C11's formats these are allowed: the flags `-` and `0`, each at most
-- once; a field width and, for `s` alone, a precision, both numbers up to 4,095; the length modifiers hh, h, l, ll and z, for
-- integers alone; the conversion specifiers d, i, u, x, X, o, c, s and %. The flag `0` stands with integers alone, as C11 leaves it
-- undefined for the others (p6). That other formats are refused is this project's own.
use Rattle.std.specs.Prelude.{ℕ, ◌+◌, ◌-◌, ◌*◌, ◌==◌, nat_lt, nat_le, Bool, true, false, ◌&&◌, ◌||◌, List, [], ◌∷◌, Option, None, Some, if◌then◌else◌}
use Rattle.std.specs.Str.{byte}
use Rattle.fc_base.specs.declared.levels.Width.{Width}
use Rattle.fc_base.specs.declared.levels.Width.TheVariants.{W1, W2, W4, W8}
use Rattle.print_formats.specs.declared.conversions.Numeral.{Numeral}
use Rattle.print_formats.specs.declared.conversions.Numeral.TheVariants as numerals
use Rattle.print_formats.specs.declared.conversions.LengthModifier.{LengthModifier}
use Rattle.print_formats.specs.declared.conversions.LengthModifier.TheVariants as modifiers
use Rattle.print_formats.specs.declared.conversions.Options.{Options}
use Rattle.print_formats.specs.declared.conversions.Specifier.{Specifier}
use Rattle.print_formats.specs.declared.conversions.Specifier.TheVariants as specifiers
use Rattle.print_formats.specs.declared.conversions.Directive.{Directive}
use Rattle.print_formats.specs.declared.conversions.Directive.TheVariants as directives
use Rattle.print_formats.specs.declared.automaton.FormatState.{FormatState}
use Rattle.print_formats.specs.declared.automaton.FormatState.TheVariants as states
use Rattle.print_formats.specs.declared.automaton.FormatStep.{FormatStep}
use Rattle.print_formats.specs.declared.automaton.FormatStep.TheVariants as steps

-- the greatest field width and precision
abbrev pub greatest : ℕ
greatest = 4095

abbrev pub is_digit : ℕ → Bool
is_digit b = nat_le (byte "0") b && nat_le b (byte "9")

-- the specifiers of integers (p8)
abbrev pub numeral_of : ℕ → Option Numeral
numeral_of b =
    if (b == byte "d") || (b == byte "i") then Some numerals.Signed
    else (if b == byte "u" then Some numerals.Unsigned
    else (if b == byte "o" then Some numerals.Octal
    else (if b == byte "x" then Some numerals.Hexadecimal
    else (if b == byte "X" then Some numerals.UpperHexadecimal
    else None))))

-- the length modifiers (p7): one that a letter begins, and one that a second letter makes of it
abbrev pub modifier_of : ℕ → Option LengthModifier
modifier_of b =
    if b == byte "h" then Some modifiers.H
    else (if b == byte "l" then Some modifiers.L
    else (if b == byte "z" then Some modifiers.Z
    else None))

abbrev pub doubled : LengthModifier → ℕ → Option LengthModifier
doubled modifiers.H b = if b == byte "h" then Some modifiers.Hh else None
doubled modifiers.L b = if b == byte "l" then Some modifiers.Ll else None
doubled modifiers.Hh b = None
doubled modifiers.Ll b = None
doubled modifiers.Z b = None

-- how many bytes of its argument the modifier takes: signed char and short, long, long long and size_t
abbrev pub modified_width : LengthModifier → Width
modified_width modifiers.Hh = W1
modified_width modifiers.H = W2
modified_width modifiers.L = W8
modified_width modifiers.Ll = W8
modified_width modifiers.Z = W8

-- ---- what one more byte does

abbrev pub ended : Options → Specifier → FormatStep
ended o s = steps.Ends (directives.Converted (record { options = o; specifier = s }))

abbrev pub ended_integer : Options → Width → ℕ → FormatStep
ended_integer o of b = elim (numeral_of b) [ Some numeral ↦ ended o (specifiers.Integer numeral of) | None ↦ steps.Malformed ]

abbrev pub ended_without_zero : Options → Specifier → FormatStep
ended_without_zero o s = if o.zero then steps.Malformed else ended o s

-- one more digit of a number
abbrev pub more_digits : ℕ → ℕ → ℕ
more_digits n b = n * 10 + (b - byte "0")

-- behind the flags and the field width: a precision, a length modifier or the specifier; without a modifier an integer is an int
abbrev pub behind_width : Options → ℕ → FormatStep
behind_width o b =
    if b == byte "." then steps.Goes (states.Precision o 0)
    else (if b == byte "c" then ended_without_zero o specifiers.Character
    else (if b == byte "s" then ended_without_zero o (specifiers.Text None)
    else elim (modifier_of b) [ Some m ↦ steps.Goes (states.Length o m) | None ↦ ended_integer o W4 b ]))

abbrev pub in_width : Options → ℕ → FormatStep
in_width o b =
    if is_digit b then
    (if nat_lt greatest (more_digits o.width b) then steps.Malformed
    else steps.Goes (states.Width (record o { width = more_digits o.width b })))
    else behind_width o b

-- a flag, `%%`, or what follows flags: a digit that isn't the flag `0` begins the field width
abbrev pub in_flags : Options → ℕ → FormatStep
in_flags o b =
    if b == byte "-" then (if o.left then steps.Malformed else steps.Goes (states.Flags (record o { left = true })))
    else (if b == byte "0" then (if o.zero then steps.Malformed else steps.Goes (states.Flags (record o { zero = true })))
    else (if b == byte "%" then (if o.left || o.zero then steps.Malformed else steps.Ends (directives.Ordinary b))
    else in_width o b))

abbrev pub in_precision : Options → ℕ → ℕ → FormatStep
in_precision o precision b =
    if is_digit b then
    (if nat_lt greatest (more_digits precision b) then steps.Malformed
    else steps.Goes (states.Precision o (more_digits precision b)))
    else (if b == byte "s" then ended_without_zero o (specifiers.Text (Some precision)) else steps.Malformed)

abbrev pub in_length : Options → LengthModifier → ℕ → FormatStep
in_length o m b = elim (doubled m b) [ Some n ↦ steps.Goes (states.Length o n) | None ↦ ended_integer o (modified_width m) b ]

abbrev pub step : FormatState → ℕ → FormatStep
step states.Outside b =
    if b == byte "%" then steps.Goes (states.Flags (record { left = false; zero = false; width = 0 }))
    else steps.Ends (directives.Ordinary b)
step (states.Flags o) b = in_flags o b
step (states.Width o) b = in_width o b
step (states.Precision o n) b = in_precision o n b
step (states.Length o m) b = in_length o m b

-- ---- a whole format

abbrev pub and_directive : Directive → Option (List Directive) → Option (List Directive)
and_directive d None = None
and_directive d (Some ds) = Some (d ∷ ds)

-- a format may end where no directive is open
abbrev pub at_end : FormatState → Option (List Directive)
at_end states.Outside = Some []
at_end (states.Flags o) = None
at_end (states.Width o) = None
at_end (states.Precision o n) = None
at_end (states.Length o m) = None

-- the directives of a format's bytes from a state on; none where it is no format
abbrev pub directives_from : FormatState → List ℕ → Option (List Directive)
directives_from s [] = at_end s
directives_from s (b ∷ bs) =
    elim (step s b) [ steps.Malformed ↦ None | steps.Goes t ↦ directives_from t bs | steps.Ends d ↦ and_directive d (directives_from states.Outside bs) ]

-- the directives of a format: its bytes before the first NUL
abbrev pub directives_of : List ℕ → Option (List Directive)
directives_of bs = directives_from states.Outside bs

-- the conversion specifications, in their order; each takes one argument
abbrev pub conversions_of : List Directive → List Specifier
conversions_of [] = []
conversions_of (directives.Ordinary b ∷ ds) = conversions_of ds
conversions_of (directives.Converted c ∷ ds) = c.specifier ∷ conversions_of ds
