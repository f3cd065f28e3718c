-- Bounds that the code's numbers hold.
use Rattle.std.specs.Prelude.{ℤ, ◌-ℤ◌, FitsSigned, ⊤}
use Rattle.std.specs.Int.{w64}
use Rattle.object_meaning.specs.declared.values.Tag.{Tag}
use Rattle.object_meaning.specs.declared.values.Tag.TheVariants.{Known, Bound, Unknown}

-- a bound less so many bytes is a number of the code
abbrev pub MovesWithin : Tag → ℤ → Type 0
MovesWithin Known d = ⊤
MovesWithin (Bound r) d = FitsSigned w64 (r -ℤ d)
MovesWithin Unknown d = ⊤
