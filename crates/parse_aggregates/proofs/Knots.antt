-- The reading function of specifiers at a depth that code counts down.
use Rattle.std.proofs.Common.{◌≡◌, ℕ, zero, suc, ◌-◌, ◌<◌, List, None, refl, ap, arith}
use Rattle.parse_meaning.specs.Terminals.{Lexeme}
use Rattle.parse_reading.specs.Reading.{expression}
use Rattle.parse_reading.specs.ReadingDeclarators.{declarator, spec_by, outer_spec}

pub outer_spec-zero : (depth : ℕ) (s : List Lexeme) → depth ≡ 0 → outer_spec depth s ≡ None
unfolding outer_spec
outer_spec-zero depth s e = rw e refl

pub outer_spec_deeper : (depth : ℕ) (s : List Lexeme) → 0 < depth →
    outer_spec depth s ≡ spec_by (expression (depth - 1)) (declarator (depth - 1)) (outer_spec (depth - 1)) s
unfolding outer_spec
outer_spec_deeper zero s some = absurd (omega arith)
outer_spec_deeper (suc n) s some =
    let down : n ≡ suc n - 1 = omega arith in
    ap (λ m. spec_by (expression m) (declarator m) (outer_spec m) s) down
