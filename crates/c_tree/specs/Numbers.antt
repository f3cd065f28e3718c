-- A typed tree whose numbers name what is there and whose counts are those of its bodies. This project's own.
use Rattle.std.specs.Prelude.{◌≡◌, ◌≢◌, ℕ, ◌+◌, ◌<◌, ◌≤◌, ◌⊎◌, ◌↔◌, ⊤, Bool, true, false, List, length, All, slice_get, Some, IfSome, IsSomeAnd, IsTrue}
use Rattle.std.specs.Option.{option_map}
use Rattle.c_layout.specs.declared.types.CType.{CType, out-CType, every-CType}
use Rattle.c_layout.specs.declared.types.CType.TheOpen.{CType-F}
use Rattle.c_layout.specs.declared.tags.TagDef.{TagDef}
use Rattle.c_library.specs.declared.functions.LibFn.TheVariants.{Note}
use Rattle.c_tree.specs.declared.programs.DataDef.{DataDef}
use Rattle.c_tree.specs.declared.programs.FnDef.{FnDef}
use Rattle.c_tree.specs.declared.programs.Link.{Link}
use Rattle.c_tree.specs.declared.programs.LocalDef.{LocalDef}
use Rattle.c_tree.specs.declared.programs.TypedTree.{TypedTree}
use Rattle.c_tree.specs.declared.typed.Callee.{Callee}
use Rattle.c_tree.specs.declared.typed.Callee.TheVariants.{Function, Library}
use Rattle.c_tree.specs.declared.typed.TypedExpr.{TypedExpr, out-TypedExpr, every-TypedExpr}
use Rattle.c_tree.specs.declared.typed.TypedKind.{TypedKind}
use Rattle.c_tree.specs.declared.typed.TypedStmt.{TypedStmt}
use Rattle.c_tree.specs.declared.typed.TypedKind.TheOpen.{TypedKind-F, TypedExpr-F}
use Rattle.c_tree.specs.Bodies.{Throughout}
use Rattle.c_tree.specs.Registers.{IsRegister}
use Rattle.c_tree.specs.Traversals.{calls}
use Rattle.c_tree.specs.Weights.{function_counts}

-- a number of something that is there
abbrev pub IsThere : {A : Type 0} → List A → ℕ → Type 0
IsThere xs number = number < length xs

module _ (tags : List TagDef) where
  -- a type each of whose structures and unions is there
  abbrev pub HasTags : CType-F CType → Type 0
  HasTags (CType-F.Struct tag) = IsSomeAnd (slice_get tags tag) (λ d. d.is_union ≡ false)
  HasTags (CType-F.Union tag) = IsSomeAnd (slice_get tags tag) (λ d. d.is_union ≡ true)
  HasTags _ = ⊤

  abbrev pub IsTypeThere : CType → Type 0
  IsTypeThere = every-CType HasTags

  -- a structure or union with a member of that number
  abbrev pub HasMember : ℕ → CType-F CType → Type 0
  HasMember member (CType-F.Struct tag) = IsSomeAnd (slice_get tags tag) (λ d. member < length d.members)
  HasMember member (CType-F.Union tag) = IsSomeAnd (slice_get tags tag) (λ d. member < length d.members)
  HasMember member _ = ⊥

  -- the same of what a pointer points to
  abbrev pub PointsToMember : ℕ → CType-F CType → Type 0
  PointsToMember member (CType-F.Ptr of) = HasMember member (out-CType of)
  PointsToMember member _ = ⊥

  abbrev pub IsMemberThere : Bool → ℕ → CType → Type 0
  IsMemberThere false member ctype = HasMember member (out-CType ctype)
  IsMemberThere true member ctype = PointsToMember member (out-CType ctype)

  module _ (functions : List FnDef) (objects : List DataDef) (locals : List LocalDef) where
    -- a function of the file, or of the library, but for the line that shows a size
    abbrev pub IsCalleeThere : Callee → Type 0
    IsCalleeThere (Function number) = IsThere functions number
    IsCalleeThere (Library f) = f ≢ Note

    abbrev pub KindNames : TypedKind-F TypedKind TypedExpr → Type 0
    KindNames (TypedKind-F.Local number) = IsThere locals number
    KindNames (TypedKind-F.Object number) = IsThere objects number
    KindNames (TypedKind-F.SizeofType of) = IsTypeThere of
    KindNames (TypedKind-F.Call callee args) = IsCalleeThere callee
    KindNames (TypedKind-F.Member base arrow member) = IsMemberThere arrow member (out-TypedExpr base).ctype
    KindNames _ = ⊤

    abbrev pub ExprNames : TypedExpr-F TypedKind TypedExpr → Type 0
    ExprNames e = IsTypeThere e.ctype

    -- an expression whose numbers name what is there
    abbrev pub IsExprThere : TypedExpr → Type 0
    IsExprThere = every-TypedExpr KindNames ExprNames

    -- a statement whose numbers name what is there
    abbrev pub IsStmtThere : TypedStmt → Type 0
    IsStmtThere = Throughout (IsThere locals) IsExprThere

  -- a number of a parameter, from 1
  abbrev pub IsParameter : FnDef → ℕ → Type 0
  IsParameter f number = (1 ≤ number) × (number ≤ length f.params)

  -- The parameters are the first locals, the attribute names parameters, the register variables are marked, and all
  -- numbers name what is there.
  pub record IsFunctionThere (functions : List FnDef) (objects : List DataDef) (f : FnDef) : Type 0 where
    pub params : (k : ℕ) → k < length f.params → option_map (λ l. l.ctype) (slice_get f.locals k) ≡ slice_get f.params k
    pub named : IfSome f.alloc_size (λ a. IsParameter f a.0 × IfSome a.1 (IsParameter f))
    pub registers : (k : ℕ) (l : LocalDef) → slice_get f.locals k ≡ Some l → IsTrue l.in_register ↔ IsRegister f k l
    pub gives : IsTypeThere f.result
    pub locals : All (λ l. IsTypeThere l.ctype) f.locals
    pub body : IsStmtThere functions objects f.locals f.body

-- a pointer into one of the objects
abbrev pub IsLinkThere : List DataDef → DataDef → Link → Type 0
IsLinkThere objects object link = (link.at + 8 ≤ object.size) ×
    IsSomeAnd (slice_get objects link.target) (λ target. (link.offset ≤ target.size) × (link.end ≤ target.size))

abbrev pub AreApart : Link → Link → Type 0
AreApart a b = (a.at + 8 ≤ b.at) ⊎ (b.at + 8 ≤ a.at)

-- An object has its bytes, and its links lie inside it, each apart from the others.
pub record IsObjectThere (objects : List DataDef) (object : DataDef) : Type 0 where
  pub bytes : length object.bytes ≡ object.size
  pub links : All (IsLinkThere objects object) object.links
  pub apart : (i j : ℕ) (a b : Link) → i < j → slice_get object.links i ≡ Some a → slice_get object.links j ≡ Some b → AreApart a b

-- An inline function that is called has a lower rank than the function of that number.
abbrev pub CallsBelow : List FnDef → (ℕ → ℕ) → ℕ → ℕ → Type 0
CallsBelow functions rank caller number = IfSome (slice_get functions number) (λ f. IsTrue f.inlined → rank number < rank caller)

-- Inline calls form no cycle: there are ranks that fall along each of them. So the counts of bodies are one list.
pub record HasOrder (functions : List FnDef) : Type 0 where
  pub rank : ℕ → ℕ
  pub falls : (k : ℕ) (f : FnDef) → slice_get functions k ≡ Some f →
      Throughout (λ number. ⊤) (λ e. All (CallsBelow functions rank k) (calls e)) f.body

-- A typed tree whose numbers all name what is there, whose inline calls form no cycle, and whose counts are those of
-- its bodies. That it breaks no rule of typing is no part of it.
pub record IsWellNumbered (tree : TypedTree) : Type 0 where
  pub tags : All (λ d. All (λ m. IsTypeThere tree.tags m.ctype) d.members) tree.tags
  pub functions : All (IsFunctionThere tree.tags tree.functions tree.objects) tree.functions
  pub objects : All (IsObjectThere tree.objects) tree.objects
  pub main : IsThere tree.functions tree.main
  pub order : HasOrder tree.functions
  pub counts : All (λ f. f.counts ≡ function_counts tree.tags tree.functions f) tree.functions
