-- Lists of names, which are seen as the hide set `has` of them.
use Rattle.std.specs.Prelude.{ℕ, List, [], map, Option, Some, None}
use Rattle.std.specs.Borrow.{Bor}
use Rattle.std.specs.Cmp.Lexicographic.{slice_cmp}
use Rattle.std.specs.Ordering.{nat_cmp}
use Rattle.std.specs.declared.cmp.Ordering.{Ordering}
use Rattle.smallvec.specs.SmallVec.{SmallVec}
use Rattle.macro_meaning.specs.Macros.{Name}

abbrev pub names : List (Bor (List ℕ)) → List Name
names = map (λ r. r.now)

-- the names of a set, which are none where it has no list of them
abbrev pub members : Option (SmallVec (Bor (List ℕ))) → List Name
members None = []
members (Some list) = names list.items

-- the order of names by their bytes
abbrev pub by_bytes : Name → Name → Ordering
by_bytes = slice_cmp nat_cmp
