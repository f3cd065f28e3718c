-- Live blocks of the heap, by their objects.
use Rattle.std.specs.Prelude.{ℕ, ◌-◌, ◌<◌, ◌≤◌, List, map}
use Rattle.std.specs.List.{AllByRecursion}
use Rattle.library_meaning.specs.Table.{no_limit}

-- all objects have lower numbers
abbrev pub AreBelow : ℕ → List (ℕ × ℕ) → Type 0
AreBelow object blocks = AllByRecursion (λ block. block.1 < object) blocks

-- a block of an entry, whose key is how far its object is from the last number
abbrev pub block_of : ℕ × ℕ → ℕ × ℕ
block_of e = (e.1, no_limit - e.0)

abbrev pub blocks_of : List (ℕ × ℕ) → List (ℕ × ℕ)
blocks_of es = map block_of es

abbrev pub AreNumbers : List (ℕ × ℕ) → Type 0
AreNumbers es = AllByRecursion (λ e. e.0 ≤ no_limit) es
