-- The library's rows that print, each beside its function (C11 7.21.6, POSIX, glibc). `passed` is how many arguments follow the format,
-- and `size` is the destination's size for a checked form, 2^64 - 1 for the plain form. A format is read whole before its arguments'
-- bytes are. What is read to learn the request comes first, then the check, then the rest; nothing is shown before all is read.
use Rattle.std.specs.Prelude.{ℕ, zero, suc, ◌+◌, ◌-◌, ◌==◌, nat_le, true, false, ◌||◌, List, [], ◌∷◌, ◌++◌, length, take, Option, None, Some, if◌then◌else◌}
use Rattle.print_formats.specs.declared.conversions.Directive.{Directive}
use Rattle.print_formats.specs.declared.conversions.Directive.TheVariants as directives
use Rattle.print_formats.specs.declared.conversions.Options.{Options}
use Rattle.print_formats.specs.declared.conversions.Specifier.{Specifier}
use Rattle.print_formats.specs.declared.conversions.Specifier.TheVariants as specifiers
use Rattle.print_formats.specs.Formats.{directives_of, conversions_of}
use Rattle.print_formats.specs.Texts.{number_text, character_text, string_text}
use Rattle.library_meaning.specs.Scan.{Found}
use Rattle.library_meaning.specs.Rows.{Row, Gives, Malformed, Check, Ask, Text, Point, Show, Stretch, stretch, Given, Count}
use Rattle.library_meaning.specs.Table.{no_limit, minus_one, nul, within, cells_read, putting, int_of}

-- so many operands, from one on
abbrev pub operands : ℕ → ℕ → List ℕ
operands i zero = []
operands i (suc n) = i ∷ operands (i + 1) n

-- how many bytes of a string a conversion reads at most (7.21.6.1p8)
abbrev pub most_of : Option ℕ → ℕ
most_of None = no_limit
most_of (Some precision) = precision

-- the operands that are touched: strings of which a byte may be read
abbrev pub touches : ℕ → ℕ → List ℕ → List ℕ
touches most i more = if most == 0 then more else i ∷ more

abbrev pub touched_by : Specifier → ℕ → List ℕ → List ℕ
touched_by (specifiers.Integer numeral of) i more = more
touched_by specifiers.Character i more = more
touched_by (specifiers.Text precision) i more = touches (most_of precision) i more

abbrev pub touched_strings : List Directive → ℕ → List ℕ
touched_strings [] i = []
touched_strings (directives.Ordinary b ∷ ds) i = touched_strings ds i
touched_strings (directives.Converted c ∷ ds) i = touched_by c.specifier i (touched_strings ds (i + 1))

-- the text of a conversion of an operand, and what is read for it
abbrev pub converted : Options → Specifier → ℕ → (List ℕ → List Stretch → Row) → Row
converted o (specifiers.Integer numeral of) i next = Ask i (λ v. next (number_text o numeral of v) [])
converted o specifiers.Character i next = Ask i (λ v. next (character_text o v) [])
converted o (specifiers.Text precision) i next =
    Text nul (stretch i 0 (most_of precision)) (λ s. next (string_text o s.before) (stretch i 0 (cells_read s) ∷ []))

-- the text of directives, and what is read for it, behind what was printed and read before, from the operand on that the first
-- conversion takes
abbrev pub texts : List Directive → ℕ → List ℕ → List Stretch → (List ℕ → List Stretch → Row) → Row
texts [] i so from next = next so from
texts (directives.Ordinary b ∷ ds) i so from next = texts ds i (so ++ b ∷ []) from next
texts (directives.Converted c ∷ ds) i so from next =
    converted c.options c.specifier i (λ text reads. texts ds (i + 1) (so ++ text) (from ++ reads) next)

-- A format that is none, or has more conversions than arguments were passed, is malformed. All pointers of the strings that are read
-- are looked at before one is read, together with those of `also`: what else may not be dead, and what may not be null either
abbrev pub formatted : ℕ → Option (List Directive) → ℕ → List ℕ × List ℕ → List Stretch → (List ℕ → List Stretch → Row) → Row
formatted passed None i also from next = Malformed
formatted passed (Some ds) i also from next =
    if nat_le (length (conversions_of ds)) passed
    then Point (also.0 ++ touched_strings ds i) (also.1 ++ touched_strings ds i) (texts ds i [] from next)
    else Malformed

-- a print whose format is operand i
abbrev pub printed : ℕ → ℕ → List ℕ × List ℕ → (List ℕ → List Stretch → Row) → Row
printed passed i also next =
    Text nul (stretch i 0 no_limit) (λ f. formatted passed (directives_of f.before) (i + 1) also (stretch i 0 (cells_read f) ∷ []) next)

-- the length of a text, as an int
abbrev pub length_given : List ℕ → Given
length_given text = Count (int_of (length text))

-- a print on a descriptor, whose format is operand i
abbrev pub print_on : ℕ → ℕ → ℕ → Row
print_on descriptor passed i =
    printed passed i (operands (i + 1) passed, []) (λ text from. Show descriptor text (Gives (length_given text)))

-- printf(f, ..): C11 7.21.6.3
abbrev pub printf : ℕ → Row
printf passed = Check false (print_on 1 passed 0)

-- dprintf(fd, f, ..): POSIX. Another descriptor than 1 and 2 gives -1
abbrev pub dprintf : ℕ → Row
dprintf passed =
    Check false (Ask 0 (λ fd. if (int_of fd == 1) || (int_of fd == 2)
    then print_on (int_of fd) passed 1
    else Point (operands 1 (passed + 1)) [] (Gives minus_one)))

-- sprintf(d, f, ..): C11 7.21.6.6, `__sprintf_chk`; the text with its NUL is the request, so the strings are read before the check,
-- and all pointers of the call are looked at behind it
abbrev pub whole_into : ℕ → ℕ → List ℕ → List Stretch → Row
whole_into passed size text from =
    within size (length text + 1) (Point (0 ∷ operands 2 passed) (0 ∷ [])
    (putting true 0 (text ++ 0 ∷ []) from (Gives (length_given text))))

abbrev pub sprintf : ℕ → ℕ → Row
sprintf passed size = printed passed 1 ([], []) (whole_into passed size)

-- snprintf(d, n, f, ..): C11 7.21.6.5, `__snprintf_chk`; n is the request, before the format is read
abbrev pub cut_into : ℕ → List ℕ → List Stretch → Row
cut_into n text from =
    if n == 0 then Gives (length_given text) else putting true 0 (take (n - 1) text ++ 0 ∷ []) from (Gives (length_given text))

abbrev pub snprintf : ℕ → ℕ → Row
snprintf passed size =
    Ask 1 (λ n. within size n (printed passed 2 (0 ∷ operands 3 passed, if n == 0 then [] else 0 ∷ []) (cut_into n)))
