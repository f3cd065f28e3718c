-- Digits that are written from the last to the first.
use Rattle.std.proofs.Common.{◌≡◌, ◌≢◌, ℕ, zero, suc, ◌+◌, ◌-◌, ◌*◌, ◌/◌, ◌%◌, ◌^◌, ◌<◌, ◌≤◌, Bool, List, [], ◌∷◌, refl, ap, ◌∙◌, subst, arith}
use Rattle.std.specs.Prelude.{if◌then◌else◌}
use Rattle.std.specs.Fmt.{digit_glyph, digits, digits_onto}
use Rattle.std.proofs.Math.Nat.{pow-suc, mul-div-le, mul-le-mul_right}
use Rattle.std.proofs.lemmas.Bool.{ne_eqb, eq-eqb}
use Rattle.print_texts.specs.Numbers.{unwritten}

-- at the start
pub begun : (base at n : ℕ) (upper : Bool) (acc : List ℕ) → at ≡ 22 → acc ≡ [] → unwritten base upper at n acc ≡ digits base upper n
unfolding unwritten digits
begun base at n upper acc e f = rw (e, f) refl

module _ (base n : ℕ) (upper : Bool) (acc : List ℕ) where
  abbrev here : List ℕ
  here = digit_glyph upper (n % base) ∷ acc

  at_last : (k : ℕ) → n / base ≡ 0 → digits_onto (suc k) base upper n acc ≡ here
  at_last k e = ap (λ t. if t then here else digits_onto k base upper (n / base) here) (eq-eqb (n / base) 0 e)

  one_more : (k : ℕ) → n / base ≢ 0 → digits_onto (suc k) base upper n acc ≡ digits_onto k base upper (n / base) here
  one_more k ne = ap (λ t. if t then here else digits_onto k base upper (n / base) here) (ne_eqb (n / base) 0 ne)

  -- the first digit of all
  pub last : (at : ℕ) → 0 < at → n / base ≡ 0 → unwritten base upper at n acc ≡ here
  unfolding unwritten
  last at some e = let k : 42 + at ≡ suc (42 + (at - 1)) = omega arith in ap (λ z. digits_onto z base upper n acc) k ∙ at_last (42 + (at - 1)) e

  -- one more
  pub more : (at : ℕ) → 0 < at → n / base ≢ 0 → unwritten base upper at n acc ≡ unwritten base upper (at - 1) (n / base) here
  unfolding unwritten
  more at some ne = let k : 42 + at ≡ suc (42 + (at - 1)) = omega arith in ap (λ z. digits_onto z base upper n acc) k ∙ one_more (42 + (at - 1)) ne

-- what is left fits the places that are left
pub fits : (base at n : ℕ) → 8 ≤ base → 0 < at → n < 8 ^ at → n / base < 8 ^ (at - 1)
fits base zero n low some lt = absurd (omega arith)
fits base (suc k) n low some lt =
    let q : ℕ = n / base in
    let whole : base * q ≤ n = mul-div-le n base in
    let eight : 8 * q ≤ base * q = mul-le-mul_right q low in
    let power : 8 ^ suc k ≡ 8 ^ k * 8 = pow-suc 8 k in
    let back : k ≡ suc k - 1 = omega arith in
    let less : q < 8 ^ k = omega arith in
    subst (λ z. q < 8 ^ z) back less

-- and so there is one, unless nothing is left
pub some_left : (at n : ℕ) → n < 8 ^ at → n ≢ 0 → 0 < at
some_left zero n lt ne = absurd (ne (omega arith))
some_left (suc k) n lt ne = omega arith
