-- How functions, bodies and locals are kept.
use Rattle.std.specs.Prelude.{ℕ, not, if◌then◌else◌, List, [], ◌∷◌, ◌++◌, map, filter, fold}
use Rattle.std.specs.List.{list_any}
use Rattle.std.specs.Str.{bytes_eq}
use Rattle.c_layout.specs.declared.types.CType.{CType}
use Rattle.c_tree.specs.declared.programs.FnDef.{FnDef}
use Rattle.c_tree.specs.declared.programs.LocalDef.{LocalDef}
use Rattle.elab_meaning.specs.Typing.{Body, Declared}
use Rattle.elab_scope.specs.declared.beside.Facts.{Facts}

-- ---- functions

abbrev pub declared : List ℕ → Facts → Declared
declared name f =
    record { name = name; place = f.place; has_body = f.has_body; inlined = f.inlined; alloc_size = f.alloc_size }

-- what is said of a function takes the place of what was said of it before
abbrev pub replaced : Declared → List Declared → List Declared
replaced f fs = f ∷ filter (λ g. not (bytes_eq g.name f.name)) fs

abbrev pub said : List Declared → List ℕ × Facts → List Declared
said fs p = replaced (declared p.0 p.1) fs

-- what is said of each function after all of this, the last one first
abbrev pub latest : List (List ℕ × Facts) → List Declared
latest = fold said []

-- names, each once
abbrev pub with_name : List ℕ → List (List ℕ) → List (List ℕ)
with_name name names = if list_any (λ other. bytes_eq other name) names then names else names ++ name ∷ []

-- ---- bodies

abbrev pub local_of : LocalDef → List ℕ × CType
local_of l = (l.name, l.ctype)

-- a function of which nothing is known yet but its body
abbrev pub body_of : FnDef → Body
body_of f = record { name = f.name; params = f.params; result = f.result; locals = map local_of f.locals; body = f.body }
