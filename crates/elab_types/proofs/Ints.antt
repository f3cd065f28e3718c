-- Values converted to int.
use Rattle.std.proofs.Common.{◌≡◌, ℕ, pos, ◌-ℤ◌, ◌+◌, ◌-◌, ◌<◌, ◌≤◌, ◌%◌, ◌^◌, true, ◌&&◌, nat_le, if◌then◌else◌, refl, sym, ap, ◌∙◌, arith, rules, w32, w64}
use Rattle.std.proofs.lemmas.Int.{ints}
use Rattle.std.specs.Int.{cast_signed, cast_unsigned}
use Rattle.fc_base.specs.declared.levels.Width.TheVariants.{W4}
use Rattle.fc_base.specs.Widths.{extended}
use Rattle.c_arithmetic.specs.Arithmetic.{integer, converted}
use Rattle.c_arithmetic.proofs.Bits.{bits_of_integer}
use Rattle.c_layout.specs.declared.types.CType.{the_lemmas}
use Rattle.c_layout.specs.Types.{int}
use Rattle.c_tree.specs.Conversions.{number_type}
use Rattle.elab_meaning.specs.Declarations.{as_int}
use Rattle.elab_types.specs.declared.shapes.Bound.{Bound}
use Rattle.elab_types.specs.Shapes.{value_in}

int_number : number_type int ≡ record { width = W4; signed = true }
int_number = search (rules, the_lemmas)

-- the bits that a value has as an int
as_int_is : (b : Bound) → b.bits < 2 ^ 64 → as_int (value_in b) ≡ cast_signed w64 (extended b.bits W4 true)
as_int_is b h =
    ap (λ t. integer true (converted t (value_in b))) int_number
    ∙ ap (λ n. cast_signed w64 (extended n W4 true)) (bits_of_integer b.signed b.bits h)

low_bits_are : (n m : ℕ) → m ≡ n % 4294967296 → m < 2147483648 →
    cast_signed w32 m ≡ cast_signed w64 (if true && nat_le 2147483648 m then m + (2 ^ 64 - 4294967296) else m)
low_bits_are n m e h = grind (arith, ints)

high_bits_are : (n m : ℕ) → m ≡ n % 4294967296 → 2147483648 ≤ m →
    cast_signed w32 (cast_unsigned w32 (cast_signed w64 (cast_unsigned w64 (cast_signed w64 m -ℤ pos 4294967296))))
    ≡ cast_signed w64 (if true && nat_le 2147483648 m then m + (2 ^ 64 - 4294967296) else m)
high_bits_are n m e h = grind (arith, ints)

pub low_is : (b : Bound) → b.bits < 2 ^ 64 → b.bits % 4294967296 < 2147483648 →
    cast_signed w32 (b.bits % 4294967296) ≡ as_int (value_in b)
low_is b h k = low_bits_are b.bits _ refl k ∙ sym (as_int_is b h)

pub high_is : (b : Bound) → b.bits < 2 ^ 64 → 2147483648 ≤ b.bits % 4294967296 →
    cast_signed w32 (cast_unsigned w32 (cast_signed w64 (cast_unsigned w64 (cast_signed w64 (b.bits % 4294967296) -ℤ pos 4294967296))))
    ≡ as_int (value_in b)
high_is b h k = high_bits_are b.bits _ refl k ∙ sym (as_int_is b h)
