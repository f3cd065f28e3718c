-- A format that is read directive by directive.
use Rattle.std.specs.Prelude.{◌≡◌, ℕ, ◌-◌, ◌<◌, ◌≤◌, List, [], length, drop, get_or, None, Some, ⊤}
use Rattle.print_formats.specs.Formats.{directives_of, and_directive}
use Rattle.print_formats.specs.declared.conversions.Directive.{Directive}
use Rattle.print_formats.specs.declared.conversions.Directive.TheVariants as directives
use Rattle.print_formats.specs.declared.automaton.FormatStep.{FormatStep}
use Rattle.print_formats.specs.declared.automaton.FormatStep.TheVariants as steps
use Rattle.print_formats.specs.declared.directives.Next.{Next}
use Rattle.print_formats.specs.declared.directives.Next.TheVariants as next

-- a directive that prints a byte as it is prints the one that ends it
abbrev pub EndsWith : ℕ → Directive → Type 0
EndsWith b (directives.Ordinary c) = c ≡ b
EndsWith b (directives.Converted c) = ⊤

abbrev pub OrdinaryIs : ℕ → FormatStep → Type 0
OrdinaryIs b steps.Malformed = ⊤
OrdinaryIs b (steps.Goes s) = ⊤
OrdinaryIs b (steps.Ends d) = EndsWith b d

-- what stands at a place of a format: its end, no directive, or one and the place behind it
abbrev pub FoundAt : List ℕ → ℕ → Next → Type 0
FoundAt format at next.End = directives_of (drop at format) ≡ Some []
FoundAt format at next.Malformed = directives_of (drop at format) ≡ None
FoundAt format at (next.Directive directive behind) =
    (directives_of (drop at format) ≡ and_directive directive (directives_of (drop behind format))) × (at < behind) × (behind ≤ length format)
    × EndsWith (get_or format (behind - 1) 0) directive
