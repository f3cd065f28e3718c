-- Names and the words that begin with their first byte.
use Rattle.std.proofs.Common.{◌≡◌, ℕ, ◌≤◌, List, [], ◌∷◌, length, get_or, arith}
use Rattle.std.specs.Borrow.{Bor}
use Rattle.std.specs.List.{list_any}
use Rattle.std.specs.Str.{bytes_eq}
use Rattle.parse_meaning.specs.Terminals.{has}

-- what holds of each name with that first byte holds of this one
pub by_first : (words : List (Bor (List ℕ))) (all : List (List ℕ)) (name : List ℕ) (other : ℕ) → 1 ≤ length name →
    ((rest : List ℕ) → list_any (λ word. bytes_eq word.now (get_or name 0 other ∷ rest)) words ≡ has all (get_or name 0 other ∷ rest)) →
    list_any (λ word. bytes_eq word.now name) words ≡ has all name
by_first words all [] other some same = absurd (omega arith)
by_first words all (b ∷ rest) other some same = same rest
