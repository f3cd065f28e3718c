-- A format that is read part by part.
use Rattle.std.specs.Prelude.{◌≡◌, ℕ, ◌-◌, ◌<◌, ◌≤◌, List, [], length, take, drop, None, Some}
use Rattle.print_formats.specs.Formats.{directives_of, and_directive}
use Rattle.print_formats.specs.declared.conversions.Directive.TheVariants as directives
use Rattle.print_texts.specs.Printing.{ordinary}
use Rattle.print_texts.specs.declared.parts.Part.{Part}
use Rattle.print_texts.specs.declared.parts.Part.TheVariants as parts

-- what stands at a place of a format
abbrev pub PartAt : List ℕ → ℕ → Part → Type 0
PartAt format at parts.End = directives_of (drop at format) ≡ Some []
PartAt format at parts.Malformed = directives_of (drop at format) ≡ None
PartAt format at (parts.Run from behind) =
    (directives_of (drop at format) ≡ ordinary (take (behind - from) (drop from format)) (directives_of (drop behind format)))
    × (at < behind) × (behind ≤ length format) × (at ≤ from) × (from < behind)
PartAt format at (parts.Converted conversion behind) =
    (directives_of (drop at format) ≡ and_directive (directives.Converted conversion) (directives_of (drop behind format)))
    × (at < behind) × (behind ≤ length format)
