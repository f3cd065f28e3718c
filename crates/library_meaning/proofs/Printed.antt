-- What holds of a print whatever its format and strings are.
use Rattle.std.proofs.Common.{ℕ, ◌+◌, Bool, true, false, List, [], ◌∷◌, ◌++◌, length, Option, None, Some}
use Rattle.std.specs.Prelude.{nat_le, if◌then◌else◌}
use Rattle.print_formats.specs.declared.conversions.Directive.{Directive}
use Rattle.print_formats.specs.declared.conversions.Directive.TheVariants as directives
use Rattle.print_formats.specs.declared.conversions.Options.{Options}
use Rattle.print_formats.specs.declared.conversions.Specifier.{Specifier}
use Rattle.print_formats.specs.declared.conversions.Specifier.TheVariants as specifiers
use Rattle.print_formats.specs.Formats.{directives_of, conversions_of}
use Rattle.library_meaning.specs.Prints.{converted, texts, formatted, printed}
use Rattle.library_meaning.specs.Rows.{Row, Malformed, Ask, Text, Point, Stretch}
use Rattle.library_meaning.specs.Scan.{Found}

pub if_keeps : (P : Row → Type 0) (t : Bool) (a b : Row) → P a → P b → P (if t then a else b)
if_keeps P true a b h k = h
if_keeps P false a b h k = k

module _ (P : Row → Type 0) (malformed : P Malformed)
    (asks : (i : ℕ) (next : ℕ → Row) → ((n : ℕ) → P (next n)) → P (Ask i next))
    (scans : (stops : ℕ → Bool) (from : Stretch) (next : Found → Row) → ((f : Found) → P (next f)) → P (Text stops from next))
    (points : (pointers touched : List ℕ) (next : Row) → P next → P (Point pointers touched next)) where
  abbrev Continues : (List ℕ → List Stretch → Row) → Type 0
  Continues next = (text : List ℕ) (from : List Stretch) → P (next text from)

  converted_keeps : (o : Options) (s : Specifier) (i : ℕ) (next : List ℕ → List Stretch → Row) → Continues next → P (converted o s i next)
  converted_keeps o (specifiers.Integer numeral of) i next h = asks i _ (λ v. h _ _)
  converted_keeps o specifiers.Character i next h = asks i _ (λ v. h _ _)
  converted_keeps o (specifiers.Text precision) i next h = scans _ _ _ (λ f. h _ _)

  texts_keep : (next : List ℕ → List Stretch → Row) → Continues next → (ds : List Directive) (i : ℕ) (so : List ℕ) (from : List Stretch) → P (texts ds i so from next)
  texts_keep next h [] i so from = h so from
  texts_keep next h (directives.Ordinary b ∷ ds) i so from = texts_keep next h ds i (so ++ b ∷ []) from
  texts_keep next h (directives.Converted c ∷ ds) i so from =
      converted_keeps c.options c.specifier i (λ text reads. texts ds (i + 1) (so ++ text) (from ++ reads) next) (λ text reads. texts_keep next h ds (i + 1) (so ++ text) (from ++ reads))

  formatted_keeps : (next : List ℕ → List Stretch → Row) → Continues next → (passed i : ℕ) (also : List ℕ × List ℕ) (from : List Stretch) (ds : Option (List Directive)) → P (formatted passed ds i also from next)
  formatted_keeps next h passed i also from None = malformed
  formatted_keeps next h passed i also from (Some ds) =
      if_keeps P (nat_le (length (conversions_of ds)) passed) _ _ (points _ _ _ (texts_keep next h ds i [] from)) malformed

  pub printed_keeps : (next : List ℕ → List Stretch → Row) → Continues next → (passed i : ℕ) (also : List ℕ × List ℕ) → P (printed passed i also next)
  printed_keeps next h passed i also = scans _ _ _ (λ f. formatted_keeps next h passed (i + 1) also _ (directives_of f.before))
