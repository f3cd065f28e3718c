-- Numbers under names.
use Rattle.std.specs.Prelude.{◌≡◌, ℕ, List, true, is_some, Option, option_and_then, if◌then◌else◌}
use Rattle.std.specs.Str.{bytes_eq}
use Rattle.indexmap.specs.IndexMap.{get_by}
use Rattle.elab_scope.specs.declared.numbers.Numbers.{Numbers}

-- what is kept under a name: none where it has no room
abbrev pub room_at : Numbers → List ℕ → Option (Option ℕ)
room_at n name = get_by (λ key. bytes_eq name key.items) n.map

abbrev pub number_at : Numbers → List ℕ → Option ℕ
number_at n name = option_and_then (λ number. number) (room_at n name)

abbrev pub HasRoom : Numbers → List ℕ → Type 0
HasRoom n name = is_some (room_at n name) ≡ true

-- each name has the number that it had
abbrev pub SameNumbers : Numbers → Numbers → Type 0
SameNumbers old new = (name : List ℕ) → number_at new name ≡ number_at old name

-- one name has this number, and each other the one that it had
abbrev pub SetsNumber : Numbers → Numbers → List ℕ → Option ℕ → Type 0
SetsNumber old new name number = (other : List ℕ) → number_at new other ≡ (if bytes_eq name other then number else number_at old other)
