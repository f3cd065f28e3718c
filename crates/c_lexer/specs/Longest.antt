-- The longest front of a list that is something.
use Rattle.std.specs.Prelude.{◌≡◌, ℕ, suc, ◌<◌, ◌≤◌, List, [], ◌∷◌, length, take, Option, Some, None, option_map}

abbrev pub further : {X : Type 0} → Option X → Option (ℕ × X) → Option (ℕ × X)
further here (Some r) = Some (suc r.0, r.1)
further here None = option_map (λ x. (0, x)) here

-- the length of the longest front that f takes, and what f says of it
unfoldable pub longest : {X : Type 0} → (List ℕ → Option X) → List ℕ → Option (ℕ × X)
longest f [] = option_map (λ x. (0, x)) (f [])
longest f (b ∷ bs) = further (f []) (longest (λ front. f (b ∷ front)) bs)

-- what the name says: f takes this front, and no longer one
pub record IsLongest {X : Type 0} (f : List ℕ → Option X) (bs : List ℕ) (n : ℕ) (x : X) : Type 0 where
  pub within : n ≤ length bs
  pub is : f (take n bs) ≡ Some x
  pub longer : (m : ℕ) → n < m → m ≤ length bs → f (take m bs) ≡ None

abbrev pub TakesNone : {X : Type 0} → (List ℕ → Option X) → List ℕ → Type 0
TakesNone f bs = (m : ℕ) → m ≤ length bs → f (take m bs) ≡ None

abbrev pub LongestFront : {X : Type 0} → (List ℕ → Option X) → List ℕ → Option (ℕ × X) → Type 0
LongestFront f bs None = TakesNone f bs
LongestFront f bs (Some r) = IsLongest f bs r.0 r.1
