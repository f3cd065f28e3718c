-- The reading function of initialisers at a depth that code counts down.
use Rattle.std.proofs.Common.{◌≡◌, ℕ, zero, suc, ◌+◌, ◌-◌, ◌<◌, List, None, refl, ap, ◌∙◌, arith}
use Rattle.parse_meaning.specs.Terminals.{Lexeme}
use Rattle.parse_reading.specs.Reading.{expression}
use Rattle.parse_reading.specs.ReadingStatements.{initialiser, init_by}

pub initialiser-zero : (depth : ℕ) (s : List Lexeme) → depth ≡ 0 → initialiser depth s ≡ None
unfolding initialiser
initialiser-zero depth s e = rw e refl

pub initialiser_deeper : (depth : ℕ) (s : List Lexeme) → 0 < depth
    → initialiser depth s ≡ init_by (initialiser (depth - 1)) (expression (depth - 1 + 1)) s
unfolding initialiser
initialiser_deeper zero s some = absurd (omega arith)
initialiser_deeper (suc n) s some =
    let down : n ≡ suc n - 1 = omega arith in
    let up : suc n ≡ suc n - 1 + 1 = omega arith in
    ap (λ m. init_by (initialiser m) (expression (suc n)) s) down ∙ ap (λ m. init_by (initialiser (suc n - 1)) (expression m) s) up
