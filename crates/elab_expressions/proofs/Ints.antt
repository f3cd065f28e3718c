-- An enumerator's value as an int's 64 bits.
use Rattle.std.proofs.Common.{◌≡◌, ℕ, ◌+◌, ◌-◌, ◌%◌, ◌^◌, ◌<◌, Bool, true, refl, sym, ap, ◌∙◌, arith, rules}
use Rattle.std.specs.Prelude.{ℤ, pos, negsuc, FitsSigned, nat_le, if◌then◌else◌}
use Rattle.std.specs.Int.{w32, w64, cast_signed, cast_unsigned}
use Rattle.std.proofs.Math.Nat.{mod-lt}
use Rattle.std.proofs.lemmas.Int.{ints, of_z-to_z, to_z-of_z}
use Rattle.fc_base.specs.declared.levels.Width.TheVariants.{W4}
use Rattle.fc_base.specs.Widths.{extended}
use Rattle.c_arithmetic.proofs.Values.{exact}
use Rattle.c_arithmetic.specs.Arithmetic.{converted, low_bits, Holds}
use Rattle.c_layout.specs.declared.types.CType.{the_lemmas}
use Rattle.c_layout.specs.Types.{int}
use Rattle.c_tree.specs.Conversions.{number_type}

int_number : number_type int ≡ record { width = W4; signed = true }
int_number = search (rules, the_lemmas)

holds : (z : ℤ) → FitsSigned w32 z → Holds (record { width = W4; signed = true }) z
holds (pos n) f = omega (arith, ints, f.sfits)
holds (negsuc n) f = (refl, omega (arith, ints, f.sfits))

below : (b : Bool) (n : ℕ) → n < 2 ^ 32 → (if b then n + (2 ^ 64 - 2 ^ 32) else n) < 2 ^ 64
below b n h = grind arith

fits : (n : ℕ) → extended n W4 true < 2 ^ 64
fits n = below (nat_le (2 ^ 31) (n % 2 ^ 32)) (n % 2 ^ 32) (mod-lt n (omega arith))

int_bits : (z : ℤ) → FitsSigned w32 z → cast_unsigned w64 z ≡ converted (number_type int) z
int_bits z f =
    ap (cast_unsigned w64) (sym (exact W4 true z (holds z f))) ∙ (of_z-to_z w64 (extended (low_bits z) W4 true) (fits (low_bits z))
    ∙ sym (ap (λ t. converted t z) int_number))

pub int_bits_are : (z y : ℤ) (n : ℕ) → FitsSigned w32 z → y ≡ cast_signed w32 (cast_unsigned w32 z)
    → n ≡ cast_unsigned w64 (cast_signed w64 (cast_unsigned w64 y)) → n ≡ converted (number_type int) z
int_bits_are z y n f e d =
    let back : y ≡ z = e ∙ to_z-of_z w32 z f in
    let below : cast_unsigned w64 y < 2 ^ 64 = omega (arith, ints, f.sfits, back) in
    d ∙ (of_z-to_z w64 (cast_unsigned w64 y) below ∙ (ap (cast_unsigned w64) back ∙ int_bits z f))
