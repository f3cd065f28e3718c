-- Initialisers whose leaves fill the parts of their variable (C11 6.7.9).
use Rattle.std.specs.Prelude.{◌≡◌, ℕ, ◌+◌, ◌*◌, ◌<◌, ◌≤◌, ⊤, List, length, slice_get, Some, IfSome, IsSomeAnd, IsTrue}
use Rattle.c_layout.specs.declared.tags.Member.{Member}
use Rattle.c_layout.specs.declared.tags.TagDef.{TagDef}
use Rattle.c_layout.specs.declared.types.CType.{CType, out-CType}
use Rattle.c_layout.specs.declared.types.CType.TheOpen.{CType-F}
use Rattle.c_layout.specs.declared.types.CType.TheVariants.{Array}
use Rattle.c_layout.specs.declared.types.Layout.{Layout}
use Rattle.c_layout.specs.Layouts.{layout, offset}
use Rattle.c_layout.specs.Types.{is_char, tag_of}
use Rattle.c_tree.specs.declared.programs.DataDef.{DataDef}
use Rattle.c_tree.specs.declared.programs.FnDef.{FnDef}
use Rattle.c_tree.specs.declared.programs.LocalDef.{LocalDef}
use Rattle.c_tree.specs.declared.typed.TypedDeclare.{TypedDeclare}
use Rattle.c_tree.specs.declared.typed.TypedExpr.{TypedExpr, out-TypedExpr}
use Rattle.c_tree.specs.declared.typed.TypedInit.{TypedInit, every-TypedInit}
use Rattle.c_tree.specs.declared.typed.TypedInit.TheOpen.{TypedInit-F}
use Rattle.c_tree.specs.declared.typed.TypedKind.{TypedKind, out-TypedKind}
use Rattle.c_tree.specs.declared.typed.TypedKind.TheOpen.{TypedKind-F}
use Rattle.c_tree.specs.Typed.{type_of, IsAssignable, IsWellTyped}

-- A type has a part of that type at that offset: itself, or a part of an element or of a member.
pub data IsPart (tags : List TagDef) : CType → ℕ → CType → Type 0 where
  whole : (t : CType) → IsPart tags t 0 t
  element : (of : CType) (count i at : ℕ) (part : CType) (l : Layout) → i < count → layout tags of ≡ Some l → IsPart tags of at part →
      IsPart tags (Array of count) (i * l.size + at) part
  member : (t : CType) (tag number start at : ℕ) (d : TagDef) (m : Member) (part : CType) → tag_of t ≡ Some tag →
      slice_get tags tag ≡ Some d → slice_get d.members number ≡ Some m → offset tags tag number ≡ Some start →
      IsPart tags m.ctype at part → IsPart tags t (start + at) part

-- an array of characters that holds the string, but maybe not its closing NUL (6.7.9p14)
abbrev pub HoldsText : List ℕ → CType-F CType → Type 0
HoldsText text (CType-F.Array of count) = IsTrue (is_char of) × (length text ≤ count)
HoldsText text _ = ⊥

module _ (tags : List TagDef) (Fits : List ℕ → List CType → Type 0) (objects : List DataDef)
    (functions : List FnDef) (locals : List LocalDef) where
  -- a string for an array, or a value of a type that is assigned whole
  abbrev pub IsLeafKind : ℕ → TypedExpr → TypedKind-F TypedKind TypedExpr → Type 0
  IsLeafKind variable value (TypedKind-F.Str text) = HoldsText text (out-CType (type_of value))
  IsLeafKind variable value _ = IsAssignable tags (type_of value) × IsWellTyped tags Fits objects functions locals (Some variable) value

  -- a leaf has the type of the part that it fills
  abbrev pub IsLeaf : ℕ → CType → TypedInit-F TypedInit → Type 0
  IsLeaf variable t (TypedInit-F.Expr at value) =
      IsPart tags t at (type_of value) × IsLeafKind variable value (out-TypedKind (out-TypedExpr value).kind)
  IsLeaf variable t (TypedInit-F.List items place) = ⊤

  -- a declaration of a variable, each leaf of whose initialiser is so
  abbrev pub IsDeclared : TypedDeclare → Type 0
  IsDeclared d = IsSomeAnd (slice_get locals d.local) (λ l. IfSome d.init (every-TypedInit (IsLeaf d.local l.ctype)))
