-- What a print comes to over the machine's bytes, directive by directive. These are reading functions: that the rows give the same is
-- proved in `proofs/Rows`. `args` are the arguments behind the format, and `j` is the next of them.
use Rattle.std.specs.Prelude.{ℕ, ◌+◌, max, nat_le, not, Bool, true, false, ◌&&◌, List, [], ◌∷◌, ◌++◌, length, get_or, Option, None, Some, Result, Ok, Err}
use Rattle.print_formats.specs.declared.conversions.Directive.{Directive}
use Rattle.print_formats.specs.declared.conversions.Directive.TheVariants as directives
use Rattle.print_formats.specs.declared.conversions.Conversion.{Conversion}
use Rattle.print_formats.specs.declared.conversions.Options.{Options}
use Rattle.print_formats.specs.declared.conversions.Specifier.{Specifier}
use Rattle.print_formats.specs.declared.conversions.Specifier.TheVariants as specifiers
use Rattle.print_formats.specs.Formats.{and_directive, conversions_of}
use Rattle.print_formats.specs.Texts.{number_text, character_text, string_text, printed_number, sign_of, digits_of}
use Rattle.library_meaning.specs.Scan.{Found, and_then, at_limit}
use Rattle.library_meaning.specs.Table.{cells_read}
use Rattle.library_meaning.specs.Prints.{most_of}
use Rattle.library_meaning.specs.OnBytes.{meets}
use Rattle.library_meaning.specs.declared.stops.HostStop.{HostStop}
use Rattle.host_bytes.specs.Texts.{byte_scan}

-- whether a format is one, and takes at most so many arguments, behind n conversions
abbrev pub accepted : ℕ → ℕ → Option (List Directive) → Bool
accepted passed n None = false
accepted passed n (Some ds) = nat_le (n + length (conversions_of ds)) passed

-- the directives of what is a format
abbrev pub listed : Option (List Directive) → List Directive
listed None = []
listed (Some ds) = ds

-- bytes that are printed as they are, before other directives
abbrev pub ordinary : List ℕ → Option (List Directive) → Option (List Directive)
ordinary [] o = o
ordinary (b ∷ bs) o = and_directive (directives.Ordinary b) (ordinary bs o)

abbrev pub ordinaries : List ℕ → List Directive → List Directive
ordinaries [] ds = ds
ordinaries (b ∷ bs) ds = directives.Ordinary b ∷ ordinaries bs ds

-- the string of a conversion, and what was found of it; nothing where it leaves memory
abbrev pub string_scan : List ℕ → ℕ → Option ℕ → Result Found HostStop
string_scan m v precision = byte_scan 0 m v (most_of precision)

abbrev pub found_part : Result Found HostStop → Found
found_part (Ok f) = f
found_part (Err e) = at_limit

-- how many characters a conversion has without its padding, or why it stops; and its length
abbrev pub counted : List ℕ → Specifier → ℕ → Result ℕ HostStop
counted m (specifiers.Integer numeral of) v =
    Ok (length (sign_of (printed_number numeral of v)) + length (digits_of numeral (printed_number numeral of v)))
counted m specifiers.Character v = Ok 1
counted m (specifiers.Text precision) v = and_then (string_scan m v precision) (λ s. Ok (length s.before))

abbrev pub conversion_length : List ℕ → Conversion → ℕ → Result ℕ HostStop
conversion_length m c v = and_then (counted m c.specifier v) (λ k. Ok (max c.options.width k))

-- its text
abbrev pub converted_text : List ℕ → Options → Specifier → ℕ → List ℕ
converted_text m o (specifiers.Integer numeral of) v = number_text o numeral of v
converted_text m o specifiers.Character v = character_text o v
converted_text m o (specifiers.Text precision) v = string_text o (found_part (string_scan m v precision)).before

abbrev pub conversion_text : List ℕ → Conversion → ℕ → List ℕ
conversion_text m c v = converted_text m c.options c.specifier v

-- how many bytes of memory it reads, from its argument on
abbrev pub conversion_reads : List ℕ → Specifier → ℕ → ℕ
conversion_reads m (specifiers.Integer numeral of) v = 0
conversion_reads m specifiers.Character v = 0
conversion_reads m (specifiers.Text precision) v = cells_read (found_part (string_scan m v precision))

-- the length of what directives print behind n bytes, or why they stop
abbrev pub measured : List ℕ → List ℕ → List Directive → ℕ → ℕ → Result ℕ HostStop
measured args m [] j n = Ok n
measured args m (directives.Ordinary b ∷ ds) j n = measured args m ds j (n + 1)
measured args m (directives.Converted c ∷ ds) j n =
    and_then (conversion_length m c (get_or args j 0)) (λ k. measured args m ds (j + 1) (n + k))

-- what they print, where they don't stop
abbrev pub shown : List ℕ → List ℕ → List Directive → ℕ → List ℕ
shown args m [] j = []
shown args m (directives.Ordinary b ∷ ds) j = b ∷ shown args m ds j
shown args m (directives.Converted c ∷ ds) j = conversion_text m c (get_or args j 0) ++ shown args m ds (j + 1)

-- whether the strings that they read are apart from n bytes at d
abbrev pub apart : List ℕ → List ℕ → ℕ → ℕ → List Directive → ℕ → Bool
apart args m d n [] j = true
apart args m d n (directives.Ordinary b ∷ ds) j = apart args m d n ds j
apart args m d n (directives.Converted c ∷ ds) j =
    not (meets d n (get_or args j 0) (conversion_reads m c.specifier (get_or args j 0))) && apart args m d n ds (j + 1)
