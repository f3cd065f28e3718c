-- Values of a type, and the numbers that it holds.
use Rattle.std.proofs.Common.{◌≡◌, ℕ, suc, ◌+◌, ◌-◌, ◌*◌, ◌%◌, ◌^◌, ◌<◌, ◌≤◌}
use Rattle.std.proofs.Common.{Bool, true, false, nat_le, ◌&&◌, if◌then◌else◌, refl, sym, ◌∙◌, ap, arith}
use Rattle.std.specs.Prelude.{ℤ, pos, negsuc}
use Rattle.std.specs.Int.{w64, cast_signed}
use Rattle.std.proofs.Math.Nat.{add-mul-mod_self_right, mod-lt, mod-eq_of_lt}
use Rattle.std.proofs.lemmas.Bool.{false≢true, le-leb, lt-leb}
use Rattle.std.proofs.lemmas.Int.{ints, to_z-of_z}
use Rattle.fc_base.specs.declared.levels.Width.{Width}
use Rattle.fc_base.specs.declared.levels.Width.TheVariants.{W1, W2, W4, W8}
use Rattle.fc_base.specs.Widths.{extended}
use Rattle.c_arithmetic.specs.declared.operators.IntType.{IntType}
use Rattle.c_arithmetic.specs.Arithmetic.{integer, low_bits, converted, cut, Holds}
use Rattle.c_arithmetic.proofs.Bits.{bits_of_integer}

pub conversion : (t : IntType) (signed : Bool) (bits : ℕ) → bits < 2 ^ 64 → converted t (integer signed bits) ≡ cut t bits
conversion t signed bits h = ap (λ n. extended n t.width t.signed) (bits_of_integer signed bits h)

-- ---- values

-- the extension of the low bytes at a width of v values, the half of which is h
abbrev widened : ℕ → ℕ → Bool → ℕ → ℕ
widened v h signed low = if signed && nat_le h low then low + (2 ^ 64 - v) else low

low_again : (v k low : ℕ) (b : Bool) → low < v → 2 ^ 64 - v ≡ k * v → (if b then low + (2 ^ 64 - v) else low) % v ≡ low
low_again v k low true lt e = ap (λ x. (low + x) % v) e ∙ add-mul-mod_self_right low k v ∙ mod-eq_of_lt lt
low_again v k low false lt e = mod-eq_of_lt lt

again : (v h k n : ℕ) (signed : Bool) → 0 < v → 2 ^ 64 - v ≡ k * v
    → widened v h signed (widened v h signed (n % v) % v) ≡ widened v h signed (n % v)
again v h k n signed some e = ap (widened v h signed) (low_again v k (n % v) (signed && nat_le h (n % v)) (mod-lt n some) e)

pub twice : (w : Width) (signed : Bool) (n : ℕ) → extended (extended n w signed) w signed ≡ extended n w signed
twice W1 signed n = again (2 ^ 8) (2 ^ 7) (2 ^ 56 - 1) n signed (omega arith) refl
twice W2 signed n = again (2 ^ 16) (2 ^ 15) (2 ^ 48 - 1) n signed (omega arith) refl
twice W4 signed n = again (2 ^ 32) (2 ^ 31) (2 ^ 32 - 1) n signed (omega arith) refl
twice W8 signed n = again (2 ^ 64) (2 ^ 63) 0 n signed (omega arith) refl

-- ---- numbers that a type holds

taken : (b : Bool) (x y : ℕ) → b ≡ true → (if b then x else y) ≡ x
taken true x y e = refl
taken false x y e = absurd (false≢true e)

passed : (b : Bool) (x y : ℕ) → b ≡ false → (if b then x else y) ≡ y
passed true x y e = absurd (false≢true (sym e))
passed false x y e = refl

unsigned : (v n : ℕ) → n < v → v ≤ 2 ^ 64 → n % 2 ^ 64 % v ≡ n
unsigned v n a b = let first : n % 2 ^ 64 ≡ n = mod-eq_of_lt (omega arith) in ap (λ x. x % v) first ∙ mod-eq_of_lt a

read_positive : (n : ℕ) → n < 2 ^ 63 → cast_signed w64 n ≡ pos n
read_positive n h = omega (arith, ints)

positive : (v h n : ℕ) → n < h → h ≤ v → v ≤ 2 ^ 64 → h ≤ 2 ^ 63 → cast_signed w64 (widened v h true (n % 2 ^ 64 % v)) ≡ pos n
positive v h n a b c d =
    ap (λ x. cast_signed w64 (widened v h true x)) (unsigned v n (omega arith) c)
    ∙ ap (cast_signed w64) (passed (nat_le h n) (n + (2 ^ 64 - v)) n (lt-leb h n a)) ∙ read_positive n (omega arith)

read_negative : (n : ℕ) → n < 2 ^ 63 → cast_signed w64 (2 ^ 64 - suc n) ≡ negsuc n
read_negative n h = to_z-of_z w64 (negsuc n) (omega (arith, ints))

negative : (v h k n : ℕ) → n < h → v ≡ h + h → 2 ^ 64 - v ≡ k * v → v ≤ 2 ^ 64 → h ≤ 2 ^ 63
    → cast_signed w64 (widened v h true ((2 ^ 64 - 1 - n % 2 ^ 64) % v)) ≡ negsuc n
negative v h k n a b e c d =
    let small : n % 2 ^ 64 ≡ n = mod-eq_of_lt (omega arith) in
    let m = v - 1 - n in
    let split : 2 ^ 64 - 1 - n % 2 ^ 64 ≡ m + k * v = omega arith in
    let low : (2 ^ 64 - 1 - n % 2 ^ 64) % v ≡ m = ap (λ x. x % v) split ∙ add-mul-mod_self_right m k v ∙ mod-eq_of_lt (omega arith) in
    let high : m + (2 ^ 64 - v) ≡ 2 ^ 64 - suc n = omega arith in
    ap (λ x. cast_signed w64 (widened v h true x)) low
    ∙ ap (cast_signed w64) (taken (nat_le h m) (m + (2 ^ 64 - v)) m (le-leb h m (omega arith)) ∙ high) ∙ read_negative n (omega arith)

pub exact : (w : Width) (signed : Bool) (z : ℤ) → Holds (record { width = w; signed = signed }) z
    → integer signed (extended (low_bits z) w signed) ≡ z
exact W1 false (pos n) h = ap pos (unsigned (2 ^ 8) n h (omega arith))
exact W2 false (pos n) h = ap pos (unsigned (2 ^ 16) n h (omega arith))
exact W4 false (pos n) h = ap pos (unsigned (2 ^ 32) n h (omega arith))
exact W8 false (pos n) h = ap pos (unsigned (2 ^ 64) n h (omega arith))
exact w false (negsuc n) h = absurd (false≢true h.0)
exact W1 true (pos n) h = positive (2 ^ 8) (2 ^ 7) n h (omega arith) (omega arith) (omega arith)
exact W2 true (pos n) h = positive (2 ^ 16) (2 ^ 15) n h (omega arith) (omega arith) (omega arith)
exact W4 true (pos n) h = positive (2 ^ 32) (2 ^ 31) n h (omega arith) (omega arith) (omega arith)
exact W8 true (pos n) h = positive (2 ^ 64) (2 ^ 63) n h (omega arith) (omega arith) (omega arith)
exact W1 true (negsuc n) h = negative (2 ^ 8) (2 ^ 7) (2 ^ 56 - 1) n h.1 refl refl (omega arith) (omega arith)
exact W2 true (negsuc n) h = negative (2 ^ 16) (2 ^ 15) (2 ^ 48 - 1) n h.1 refl refl (omega arith) (omega arith)
exact W4 true (negsuc n) h = negative (2 ^ 32) (2 ^ 31) (2 ^ 32 - 1) n h.1 refl refl (omega arith) (omega arith)
exact W8 true (negsuc n) h = negative (2 ^ 64) (2 ^ 63) 0 n h.1 refl refl (omega arith) (omega arith)
