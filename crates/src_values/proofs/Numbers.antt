-- Offsets as the code's numbers.
use Rattle.std.proofs.Common.{◌≡◌, ℕ, ◌≤◌, ◌^◌, arith, w64}
use Rattle.std.specs.Prelude.{ℤ, ◌-ℤ◌}
use Rattle.std.proofs.lemmas.Int.{ints}
use Rattle.std.specs.Int.{cast_signed, cast_unsigned}
use Rattle.object_meaning.specs.Provenance.{IsWithin}

pub difference_is : (size : ℕ) (end offset z : ℤ) → size ≤ 2 ^ 32 → IsWithin size end → IsWithin size offset → end ≡ z
    → cast_signed w64 (cast_unsigned w64 (cast_signed w64 (cast_unsigned w64 end) -ℤ cast_signed w64 (cast_unsigned w64 offset)))
    ≡ z -ℤ offset
difference_is size end offset z few ends starts e = omega (arith, ints, ends, starts, e)
