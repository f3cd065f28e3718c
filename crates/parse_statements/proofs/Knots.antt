-- The reading function of statements at a depth that code counts down.
use Rattle.std.proofs.Common.{◌≡◌, ℕ, zero, suc, ◌-◌, ◌<◌, List, None, refl, ap, arith}
use Rattle.parse_meaning.specs.Terminals.{Lexeme}
use Rattle.parse_reading.specs.Reading.{expression}
use Rattle.parse_reading.specs.ReadingStatements.{statement, statement_by}
use Rattle.parse_initialisers.specs.Readers.{locals}

pub statement-zero : (depth : ℕ) (s : List Lexeme) → depth ≡ 0 → statement depth s ≡ None
unfolding statement
statement-zero depth s e = rw e refl

pub statement_deeper : (depth : ℕ) (s : List Lexeme) → 0 < depth →
    statement depth s ≡ statement_by (expression (depth - 1)) (locals (depth - 1)) (statement (depth - 1)) s
unfolding statement
statement_deeper zero s some = absurd (omega arith)
statement_deeper (suc n) s some =
    let down : n ≡ suc n - 1 = omega arith in
    ap (λ m. statement_by (expression m) (locals m) (statement m) s) down
