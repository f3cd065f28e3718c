-- The reading of expressions at a depth that code counts down.
use Rattle.std.proofs.Common.{◌≡◌, ℕ, zero, suc, ◌-◌, ◌<◌, List, None, refl, ap, arith}
use Rattle.parse_meaning.specs.Terminals.{Lexeme}
use Rattle.parse_reading.specs.Reading.{level_up_to, expression}

pub expression-zero : (depth to : ℕ) (s : List Lexeme) → depth ≡ 0 → expression depth to s ≡ None
unfolding expression
expression-zero depth to s e = rw e refl

pub expression_deeper : (depth to : ℕ) (s : List Lexeme) → 0 < depth
    → expression depth to s ≡ level_up_to (depth - 1) (expression (depth - 1)) to s
unfolding expression
expression_deeper zero to s some = absurd (omega arith)
expression_deeper (suc n) to s some =
    let down : n ≡ suc n - 1 = omega arith in
    ap (λ m. level_up_to m (expression m) to s) down
