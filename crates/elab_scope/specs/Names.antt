-- Values under names: the last of a name hides those before it.
use Rattle.std.specs.Prelude.{ℕ, ◌+◌, List, [], ◌∷◌, ◌++◌, map, Option, Some, None, if◌then◌else◌}
use Rattle.std.specs.Option.{option_or}
use Rattle.std.specs.Str.{bytes_eq}

-- the number of the last of these names that is this one, the first of which has the number k
abbrev pub last_number_from : ℕ → List ℕ → List (List ℕ) → Option ℕ
last_number_from k name [] = None
last_number_from k name (n ∷ ns) = option_or (last_number_from (k + 1) name ns) (if bytes_eq n name then Some k else None)

abbrev pub last_number : List ℕ → List (List ℕ) → Option ℕ
last_number name ns = last_number_from 0 name ns

-- the number that each of these names hides, behind those before them
abbrev pub hidden_behind : List (List ℕ) → List (List ℕ) → List (Option ℕ)
hidden_behind before [] = []
hidden_behind before (n ∷ ns) = last_number n before ∷ hidden_behind (before ++ n ∷ []) ns

abbrev pub names_of : {T : Type 0} → List (List ℕ × T) → List (List ℕ)
names_of = map (λ p. p.0)

abbrev pub values_of : {T : Type 0} → List (List ℕ × T) → List T
values_of = map (λ p. p.1)
