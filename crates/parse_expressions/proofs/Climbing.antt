-- The steps of the loop by which an expression goes on.
use Rattle.std.proofs.Common.{◌≡◌, ℕ, zero, suc, ◌<◌, ◌≤◌, List, Option, Some, None, true, false, nat_le, nat_lt, refl, arith}
use Rattle.std.proofs.lemmas.Bool.Decides.{nat_tests}
use Rattle.fc_base.specs.declared.refusals.Place.{Place}
use Rattle.c_tree.specs.declared.nodes.Expr.{Expr}
use Rattle.parse_meaning.specs.Terminals.{Lexeme}
use Rattle.parse_reading.specs.Reading.{Read, LeftOperand, binds, next_in, climb}

below : (a b : ℕ) → a < b → nat_lt a b ≡ true
below a b h = grind (arith, nat_tests)

not_below : (a b : ℕ) → b ≤ a → nat_lt a b ≡ false
not_below a b h = grind (arith, nat_tests)

within : (a b : ℕ) → a ≤ b → nat_le a b ≡ true
within a b h = grind (arith, nat_tests)

not_within : (a b : ℕ) → b < a → nat_le a b ≡ false
not_within a b h = grind (arith, nat_tests)

pub is_below : (a b : ℕ) → nat_lt a b ≡ true → a < b
is_below a b h = grind (arith, nat_tests)

pub is_not_below : (a b : ℕ) → nat_lt a b ≡ false → b ≤ a
is_not_below a b h = grind (arith, nat_tests)

pub is_within : (a b : ℕ) → nat_le a b ≡ true → a ≤ b
is_within a b h = grind (arith, nat_tests)

pub is_not_within : (a b : ℕ) → nat_le a b ≡ false → b < a
is_not_within a b h = grind (arith, nat_tests)

module _ (n : ℕ) (sub : ℕ → List Lexeme → Option (Read Expr)) where
  module _ (to : ℕ) (start : Place) (l : LeftOperand) where
    pub climb_stops : (m : ℕ) → to < binds l.read.rest → climb n sub m to start l ≡ Some l.read
    unfolding climb
    climb_stops zero e = rw (below to (binds l.read.rest) e) refl
    climb_stops (suc m) e = rw (below to (binds l.read.rest) e) refl

    pub climb_over : (m : ℕ) → m ≡ 0 → binds l.read.rest ≤ to → climb n sub m to start l ≡ None
    unfolding climb
    climb_over m none e = rw (none, not_below to (binds l.read.rest) e) refl

    pub climb_fails : (m : ℕ) → binds l.read.rest ≤ to → next_in n sub start l l.read.rest ≡ None → climb n sub (suc m) to start l ≡ None
    unfolding climb
    climb_fails m e f = rw (not_below to (binds l.read.rest) e, f) refl

    pub climb_goes : (m : ℕ) (z : LeftOperand) → binds l.read.rest ≤ to → next_in n sub start l l.read.rest ≡ Some z →
        z.read.height ≤ suc n →
        climb n sub (suc m) to start l ≡ climb n sub m to start z
    unfolding climb
    climb_goes m z e f low = rw (not_below to (binds l.read.rest) e, f, within z.read.height (suc n) low) refl

    pub climb_high : (m : ℕ) (z : LeftOperand) → binds l.read.rest ≤ to → next_in n sub start l l.read.rest ≡ Some z →
        suc n < z.read.height →
        climb n sub (suc m) to start l ≡ None
    unfolding climb
    climb_high m z e f high = rw (not_below to (binds l.read.rest) e, f, not_within z.read.height (suc n) high) refl
