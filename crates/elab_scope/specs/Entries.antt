-- What a list of entries under names shows, and what is kept of it.
use Rattle.std.specs.Prelude.{◌≡◌, ℕ, List, [], map}
use Rattle.elab_scope.specs.declared.names.Entry.{Entry}
use Rattle.elab_scope.specs.declared.numbers.Numbers.{Numbers}
use Rattle.elab_scope.specs.Names.{last_number, hidden_behind, names_of}
use Rattle.elab_scope.specs.Numbers.{number_at}

abbrev pub pair : {T : Type 0} → Entry T → List ℕ × T
pair e = (e.name, e.value)

abbrev pub pairs : {T : Type 0} → List (Entry T) → List (List ℕ × T)
pairs = map pair

-- each name has the number of its last entry, and each entry that of the one that it hides
pub record IsIndexed {T : Type 0} (entries : List (Entry T)) (last : Numbers) : Type 0 where
  pub found : (name : List ℕ) → number_at last name ≡ last_number name (names_of (pairs entries))
  pub hides : map (λ e. e.hidden) entries ≡ hidden_behind [] (names_of (pairs entries))
