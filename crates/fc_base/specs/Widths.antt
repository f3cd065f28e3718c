-- The integers of each width, as 64-bit numbers (C11 6.3.1.3).
use Rattle.std.specs.Prelude.{ℕ, ◌+◌, ◌-◌, ◌%◌, ◌^◌, Bool, ◌&&◌, nat_le, if◌then◌else◌}
use Rattle.fc_base.specs.declared.levels.Width.{Width}
use Rattle.fc_base.specs.declared.levels.Width.TheVariants.{W1, W2, W4, W8}

-- how many bytes
abbrev pub width_bytes : Width → ℕ
width_bytes W1 = 1
width_bytes W2 = 2
width_bytes W4 = 4
width_bytes W8 = 8

-- how many values
abbrev pub width_values : Width → ℕ
width_values W1 = 2 ^ 8
width_values W2 = 2 ^ 16
width_values W4 = 2 ^ 32
width_values W8 = 2 ^ 64

-- the least value whose sign bit is set
abbrev pub sign_bit : Width → ℕ
sign_bit W1 = 2 ^ 7
sign_bit W2 = 2 ^ 15
sign_bit W4 = 2 ^ 31
sign_bit W8 = 2 ^ 63

-- the low bytes of the width, extended by the sign bit or by zeros to 64 bits
abbrev pub extended : ℕ → Width → Bool → ℕ
extended value width signed =
    let low = value % width_values width in
    if signed && nat_le (sign_bit width) low then low + (2 ^ 64 - width_values width) else low
