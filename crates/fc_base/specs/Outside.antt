-- What objects outside the program mean, where they tell it, and how they count their faults. This project's own.
use Rattle.std.specs.Prelude.{◌≡◌, ◌≢◌, ℕ, ◌+◌, ◌-◌, ◌^◌, ◌≤◌, min, List, [], ◌++◌, ⊤, Option, None, Some}

-- what a store holds: the bytes under each name, none where the name is missing
abbrev pub Files : Type 0
Files = List ℕ → Option (List ℕ)

-- a fact about what an object means, where it tells it
abbrev pub IfTold : {A : Type 0} → Option A → (A → Type 0) → Type 0
IfTold None P = ⊤
IfTold (Some a) P = P a

-- what is told goes from the one to the other by the relation, and stays told
abbrev pub Turns : {A : Type 0} → (A → A → Type 0) → Option A → Option A → Type 0
Turns R None new = ⊤
Turns R (Some a) None = ⊥
Turns R (Some a) (Some b) = R a b

-- the bytes left begin with these, and lose them
abbrev pub Takes : List ℕ → Option (List ℕ) → Option (List ℕ) → Type 0
Takes bytes = Turns (λ old new. old ≡ bytes ++ new)

-- no byte is left
abbrev pub IsAtEnd : Option (List ℕ) → Type 0
IsAtEnd left = IfTold left (λ bytes. bytes ≡ [])

-- the bytes written grow by these
abbrev pub Appends : List ℕ → Option (List ℕ) → Option (List ℕ) → Type 0
Appends bytes = Turns (λ old new. new ≡ old ++ bytes)

-- the one list is a front of the other
abbrev pub IsFront : {A : Type 0} → List A → List A → Type 0
IsFront {A} front whole = (rest : List A) × (whole ≡ front ++ rest)

-- some front of these bytes is appended
abbrev pub AppendsFront : List ℕ → Option (List ℕ) → Option (List ℕ) → Type 0
AppendsFront bytes old new = (front : List ℕ) × IsFront front bytes × Appends front old new

-- the name holds these bytes from now on, and each other name what it held
abbrev pub Puts : List ℕ → List ℕ → Option Files → Option Files → Type 0
Puts name bytes = Turns (λ old new. (new name ≡ Some bytes) × ((other : List ℕ) → other ≢ name → new other ≡ old other))

-- each name but this one holds what it held
abbrev pub KeepsOthers : List ℕ → Option Files → Option Files → Type 0
KeepsOthers name = Turns (λ old new. (other : List ℕ) → other ≢ name → new other ≡ old other)

-- the last value of a count of faults, where it stands still
abbrev pub last_count : ℕ
last_count = 2 ^ 64 - 1

-- a count after a call: it never falls, and at its last value it stays
abbrev pub Counts : ℕ → ℕ → Type 0
Counts old new = (old ≤ new) × (new ≤ last_count)

-- a count after one more: at its last value it stands still
abbrev pub one_more : ℕ → ℕ
one_more count = min (count + 1) last_count

-- a count that rose in a call, or stands at its last value
abbrev pub Rose : ℕ → ℕ → Type 0
Rose old new = one_more old ≤ new
