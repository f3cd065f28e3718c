-- Typed trees that break no rule of typing: each conversion is written out, statements stand where they may, and the tree is within the
-- limits, which are this project's own.
use Rattle.std.specs.Prelude.{◌≡◌, ℕ, ◌+◌, ◌-◌, ◌*◌, ◌≤◌, ◌⊎◌, ⊤, false, ◌||◌, if◌then◌else◌, suc, List, [], ◌∷◌, length, All, codes, sum_by, slice_get, Some, IfSome, IsSomeAnd, IsTrue}
use Rattle.c_layout.specs.declared.tags.TagDef.{TagDef}
use Rattle.c_layout.specs.declared.types.CType.{CType, fold-CType, every-CType}
use Rattle.c_layout.specs.declared.types.CType.TheOpen.{CType-F}
use Rattle.c_layout.specs.declared.types.CType.TheVariants.{Ptr}
use Rattle.c_layout.specs.Layouts.{aligned, layout, tag_layout, largest_type}
use Rattle.c_layout.specs.Library.{char_pointer}
use Rattle.c_layout.specs.Types.{int, is_void, is_integer, is_pointer, is_scalar}
use Rattle.c_tree.specs.declared.programs.DataDef.{DataDef}
use Rattle.c_tree.specs.declared.programs.FnDef.{FnDef}
use Rattle.c_tree.specs.declared.programs.TypedTree.{TypedTree}
use Rattle.c_tree.specs.declared.typed.TypedExpr.{TypedExpr, every-TypedExpr}
use Rattle.c_tree.specs.declared.typed.TypedKind.{TypedKind}
use Rattle.c_tree.specs.declared.typed.TypedKind.TheOpen.{TypedKind-F, TypedExpr-F}
use Rattle.c_tree.specs.declared.typed.TypedStmt.{out-TypedStmt, every-TypedStmt}
use Rattle.c_tree.specs.Bodies.{Throughout}
use Rattle.c_tree.specs.Numbers.{IsWellNumbered}
use Rattle.c_tree.specs.Statements.{is_block, IsStmt, HasNoJump, NamesDeclared, DeclaresInOrder}
use Rattle.c_tree.specs.Typed.{most_arguments, HasSize}
use Rattle.c_tree.specs.TypedHeights.{typed_stmt_height, highest_typed_tree}
use Rattle.c_tree.specs.Weights.{weight}

-- ---- types

abbrev pub height_layer : CType-F ℕ → ℕ
height_layer CType-F.Void = 1
height_layer (CType-F.Int width signed plain_char long_long) = 1
height_layer (CType-F.Ptr of) = suc of
height_layer (CType-F.Array of count) = suc of
height_layer (CType-F.OpenArray of) = suc of
height_layer (CType-F.Struct tag) = 1
height_layer (CType-F.Union tag) = 1

-- the nodes of a type, one inside another
abbrev pub ctype_height : CType → ℕ
ctype_height = fold-CType ℕ height_layer

-- a declarator's 400 parts, what `&` puts in front, and the type that holds no other
abbrev pub highest_ctype : ℕ
highest_ctype = 402

module _ (tags : List TagDef) where
  -- an array within the limit on one type
  abbrev pub IsArrayWithin : CType-F CType → Type 0
  IsArrayWithin (CType-F.Array of count) = IfSome (layout tags of) (λ l. l.size * count ≤ largest_type)
  IsArrayWithin _ = ⊤

  abbrev pub IsTypeWithin : CType → Type 0
  IsTypeWithin t = every-CType IsArrayWithin t × (ctype_height t ≤ highest_ctype)

  abbrev pub KindWithin : TypedKind-F TypedKind TypedExpr → Type 0
  KindWithin (TypedKind-F.SizeofType t) = IsTypeWithin t
  KindWithin _ = ⊤

  abbrev pub ExprWithin : TypedExpr-F TypedKind TypedExpr → Type 0
  ExprWithin e = IsTypeWithin e.ctype

  -- the types of a structure's or union's members, and its size
  pub record IsTagWithin (number : ℕ) (d : TagDef) : Type 0 where
    pub members : All (λ m. IsTypeWithin m.ctype) d.members
    pub size : IfSome (tag_layout tags number) (λ l. l.size ≤ largest_type)

  -- the types that a function shows, of which those of variables have a size (6.7p7), and the height of its body
  pub record IsFunctionWithin (f : FnDef) : Type 0 where
    pub params : All IsTypeWithin f.params
    pub result : IsTypeWithin f.result
    pub locals : All (λ l. IsTypeWithin l.ctype × HasSize tags l.ctype) f.locals
    pub body : Throughout (λ number. ⊤) (every-TypedExpr KindWithin ExprWithin) f.body
    pub height : typed_stmt_height f.body ≤ highest_typed_tree

-- ---- functions

-- an integer among parameters, by its number from 1
abbrev pub IsIntegerParameter : List CType → ℕ → Type 0
IsIntegerParameter params number = IsSomeAnd (slice_get params (number - 1)) (λ t. IsTrue (is_integer t))

-- A function takes integers and pointers, no more than the limit, and gives one or nothing: that no structure is passed is this project's
-- own. With the attribute alloc_size it gives a pointer, and the parameters named are integers (GCC manual, "Common Function Attributes").
pub record IsSignature (f : FnDef) : Type 0 where
  pub params : All (λ t. IsTrue (is_scalar t)) f.params
  pub count : length f.params ≤ most_arguments
  pub result : IsTrue (is_void f.result || is_scalar f.result)
  pub sizes : IfSome f.alloc_size (λ a.
      IsTrue (is_pointer f.result) × IsIntegerParameter f.params a.0 × IfSome a.1 (IsIntegerParameter f.params))

module _ (Fits : List ℕ → List CType → Type 0) (tree : TypedTree) where
  -- a block in which every conversion is written out, and names and jumps have where to go
  pub record IsBody (f : FnDef) : Type 0 where
    pub block : IsTrue (is_block (out-TypedStmt f.body))
    pub typed : every-TypedStmt (IsStmt tree.tags Fits tree.objects tree.functions f) f.body
    pub jumps : HasNoJump f.body
    pub declares : DeclaresInOrder f
    pub names : NamesDeclared f

-- `int main(void)` or `int main(int, char **)` (5.1.2.2.1), not inline
pub record IsMain (f : FnDef) : Type 0 where
  pub named : f.name ≡ codes "main"
  pub called : f.inlined ≡ false
  pub result : f.result ≡ int
  pub params : (f.params ≡ []) ⊎ (f.params ≡ int ∷ Ptr char_pointer ∷ [])

-- ---- limits

abbrev pub most_functions : ℕ
most_functions = 4096

abbrev pub most_data : ℕ
most_data = 4194304

abbrev pub most_weight : ℕ
most_weight = 4194304

-- an object's size and one more, up to a multiple of 16
abbrev pub data_room : DataDef → ℕ
data_room o = aligned (o.size + 1) 16

-- an inline function counts in its callers
abbrev pub own_weight : FnDef → ℕ
own_weight f = if f.inlined then 0 else weight f.counts

-- A typed tree that breaks no rule of typing: `Fits` says which arguments a format asks for.
pub record IsWellFormed (Fits : List ℕ → List CType → Type 0) (tree : TypedTree) : Type 0 where
  pub numbered : IsWellNumbered tree
  pub signatures : All IsSignature tree.functions
  pub bodies : All (IsBody Fits tree) tree.functions
  pub tags : (k : ℕ) (d : TagDef) → slice_get tree.tags k ≡ Some d → IsTagWithin tree.tags k d
  pub functions : All (IsFunctionWithin tree.tags) tree.functions
  pub main : IsSomeAnd (slice_get tree.functions tree.main) IsMain
  pub definitions : length tree.functions ≤ most_functions
  pub objects : sum_by data_room tree.objects ≤ most_data
  pub weight : sum_by own_weight tree.functions ≤ most_weight
