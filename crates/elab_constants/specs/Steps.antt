-- The number of a pointer sum as the code hands it on.
use Rattle.std.specs.Prelude.{ℤ, pos, neg_ℤ, Bool, if◌then◌else◌}
use Rattle.elab_constants.specs.declared.steps.Steps.{Steps}

-- a number, or the same the other way
abbrev pub directed : Bool → ℤ → ℤ
directed back n = if back then neg_ℤ n else n

abbrev pub signed_count : Steps → ℤ
signed_count s = directed s.back (pos s.count)
