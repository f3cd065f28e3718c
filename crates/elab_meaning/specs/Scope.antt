-- The names that are visible at a place with what they name, and what the file has so far: its structures and unions, its data objects,
-- and its enumerations with a body (C11 6.2.1, 6.2.3 and 6.7.2.3).
use Rattle.std.specs.Prelude.{ℕ, ◌+◌, Bool, not, ◌&&◌, if◌then◌else◌, List, [], ◌∷◌, ◌++◌, length, take, position, slice_set, Option, None, Some}
use Rattle.std.specs.List.{list_any}
use Rattle.std.specs.Option.{option_or}
use Rattle.std.specs.Str.{bytes_eq}
use Rattle.c_layout.specs.declared.tags.TagDef.{TagDef}
use Rattle.c_tree.specs.declared.programs.DataDef.{DataDef}
use Rattle.elab_meaning.specs.declared.names.NameUse.{NameUse}

abbrev pub Name : Type 0
Name = List ℕ

pub record Scope : Type 0 where
  -- each addition of a name, in order: the last of a name hides those before it (6.2.1p4)
  pub names : List (Name × NameUse)
  -- by number; those without a tag have the empty name
  pub tags : List TagDef
  -- by number
  pub objects : List DataDef
  -- the tags of enumerations whose body has ended
  pub enums : List Name

-- a scope without names over these structures and unions
abbrev pub scope_of : List TagDef → Scope
scope_of tags = record { names = []; tags = tags; objects = []; enums = [] }

-- ---- names

abbrev pub add : Name → NameUse → Scope → Scope
add name what s = record s { names = s.names ++ (name, what) ∷ [] }

-- how many additions there are. A block begins at this number, and leaving it cuts the names to it.
abbrev pub len : Scope → ℕ
len s = length s.names

abbrev pub cut : ℕ → Scope → Scope
cut n s = record s { names = take n s.names }

-- the last addition of a name among these, the first of which has the number k
abbrev pub last_from : ℕ → Name → List (Name × NameUse) → Option (ℕ × NameUse)
last_from k name [] = None
last_from k name (a ∷ more) = option_or (last_from (k + 1) name more) (if bytes_eq a.0 name then Some (k, a.1) else None)

-- the number of the last addition of a name, and what it names there
abbrev pub lookup : Name → Scope → Option (ℕ × NameUse)
lookup name s = last_from 0 name s.names

-- ---- tags

abbrev pub has_enum : Name → Scope → Bool
has_enum name s = list_any (λ other. bytes_eq other name) s.enums

abbrev pub add_enum : Name → Scope → Scope
add_enum name s = record s { enums = s.enums ++ name ∷ [] }

abbrev pub is_named : Name → TagDef → Bool
is_named name def = not (bytes_eq def.name []) && bytes_eq def.name name

-- the structure or union with this tag, none where none has it: one without a tag is never found
abbrev pub find_tag : Name → Scope → Option ℕ
find_tag name s = position (is_named name) s.tags

abbrev pub add_tag : TagDef → Scope → Scope
add_tag def s = record s { tags = s.tags ++ def ∷ [] }

abbrev pub set_tag : ℕ → TagDef → Scope → Scope
set_tag number def s = record s { tags = slice_set s.tags number def }

-- ---- data objects

abbrev pub add_object : DataDef → Scope → Scope
add_object def s = record s { objects = s.objects ++ def ∷ [] }

abbrev pub set_object : ℕ → DataDef → Scope → Scope
set_object number def s = record s { objects = slice_set s.objects number def }
