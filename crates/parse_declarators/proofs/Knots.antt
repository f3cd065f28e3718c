-- The reading function of declarators at a depth that code counts down.
use Rattle.std.proofs.Common.{◌≡◌, ℕ, zero, suc, ◌-◌, ◌<◌, List, length, None, refl, ap, arith}
use Rattle.parse_meaning.specs.Terminals.{Lexeme}
use Rattle.parse_reading.specs.Reading.{expression}
use Rattle.parse_reading.specs.ReadingDeclarators.{whole, declarator}

pub declarator-zero : (depth : ℕ) (s : List Lexeme) → depth ≡ 0 → declarator depth s ≡ None
unfolding declarator
declarator-zero depth s e = rw e refl

pub declarator_deeper : (depth : ℕ) (s : List Lexeme) → 0 < depth
    → declarator depth s ≡ whole (suc (depth - 1)) (expression (depth - 1)) (declarator (depth - 1)) (suc (length s)) s
unfolding declarator
declarator_deeper zero s some = absurd (omega arith)
declarator_deeper (suc n) s some =
    let down : n ≡ suc n - 1 = omega arith in
    ap (λ m. whole (suc m) (expression m) (declarator m) (suc (length s)) s) down
