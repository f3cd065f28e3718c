-- The stretches that prints read, as rows name them.
use Rattle.std.specs.Prelude.{ℕ, ◌+◌, List, [], ◌∷◌, ◌++◌, get_or}
use Rattle.print_formats.specs.declared.conversions.Directive.{Directive}
use Rattle.print_formats.specs.declared.conversions.Directive.TheVariants as directives
use Rattle.print_formats.specs.declared.conversions.Specifier.{Specifier}
use Rattle.print_formats.specs.declared.conversions.Specifier.TheVariants as specifiers
use Rattle.library_meaning.specs.Rows.{Stretch, stretch}
use Rattle.print_texts.specs.Printing.{conversion_reads}

-- of a conversion of operand i, whose number is v
abbrev pub string_read : List ℕ → Specifier → ℕ → ℕ → List Stretch
string_read m (specifiers.Integer numeral of) i v = []
string_read m specifiers.Character i v = []
string_read m (specifiers.Text precision) i v = stretch i 0 (conversion_reads m (specifiers.Text precision) v) ∷ []

-- of directives, of which the first conversion takes argument j, which is operand i
abbrev pub strings_read : List ℕ → List ℕ → List Directive → ℕ → ℕ → List Stretch
strings_read args m [] i j = []
strings_read args m (directives.Ordinary b ∷ ds) i j = strings_read args m ds i j
strings_read args m (directives.Converted c ∷ ds) i j =
    string_read m c.specifier i (get_or args j 0) ++ strings_read args m ds (i + 1) (j + 1)
