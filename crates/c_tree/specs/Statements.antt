-- Statements: what each wants of its expressions (C11 6.8), where labels, declarations, `break` and `continue` may stand, and which
-- variables an expression may name.
use Rattle.std.specs.Prelude.{◌≡◌, ◌≢◌, ℕ, ◌-◌, ◌≤◌, ◌==◌, ⊤, Bool, true, false, ◌&&◌, List, [], ◌∷◌, ◌++◌, length, map, flat_map, filter_map, count_by, All, AllPairs, Option, None, Some, IfSome, IsSome, IsSomeAnd, IsTrue}
use Rattle.std.specs.List.{list_all, list_any, range_with_len}
use Rattle.std.specs.Option.{option_map_or}
use Rattle.c_layout.specs.declared.tags.TagDef.{TagDef}
use Rattle.c_layout.specs.declared.types.CType.{CType}
use Rattle.c_layout.specs.Types.{is_void}
use Rattle.c_tree.specs.declared.programs.DataDef.{DataDef}
use Rattle.c_tree.specs.declared.programs.FnDef.{FnDef}
use Rattle.c_tree.specs.declared.typed.TypedDeclare.{TypedDeclare}
use Rattle.c_tree.specs.declared.typed.TypedExpr.{TypedExpr, fold-TypedExpr}
use Rattle.c_tree.specs.declared.typed.TypedForHead.{TypedForHead}
use Rattle.c_tree.specs.declared.typed.TypedForHead.TheVariants as head
use Rattle.c_tree.specs.declared.typed.TypedInit.{TypedInit, fold-TypedInit}
use Rattle.c_tree.specs.declared.typed.TypedInit.TheOpen.{TypedInit-F}
use Rattle.c_tree.specs.declared.typed.TypedKind.TheOpen.{TypedKind-F, TypedExpr-F}
use Rattle.c_tree.specs.declared.typed.TypedStmt.{TypedStmt, out-TypedStmt, fold-TypedStmt}
use Rattle.c_tree.specs.declared.typed.TypedStmt.TheOpen.{TypedStmt-F}
use Rattle.c_tree.specs.Constants.{constant_of}
use Rattle.c_tree.specs.Initialisers.{IsDeclared}
use Rattle.c_tree.specs.Traversals.{gathered}
use Rattle.c_tree.specs.Typed.{type_of, IsValue, IsScalarTyped, IsPromoted, IsWellTyped}

-- ---- labels and declarations

abbrev pub is_label : TypedStmt-F TypedStmt → Bool
is_label (TypedStmt-F.Case value place) = true
is_label (TypedStmt-F.Default place) = true
is_label _ = false

abbrev pub is_declaration : TypedStmt-F TypedStmt → Bool
is_declaration (TypedStmt-F.Declare d) = true
is_declaration _ = false

abbrev pub is_block : TypedStmt-F TypedStmt → Bool
is_block (TypedStmt-F.Block items place) = true
is_block _ = false

-- an item of a block: no label
abbrev pub IsItem : TypedStmt → Type 0
IsItem s = is_label (out-TypedStmt s) ≡ false

-- a statement that is part of another: no label, and no declaration
abbrev pub IsPart : TypedStmt → Type 0
IsPart s = IsItem s × (is_declaration (out-TypedStmt s) ≡ false)

abbrev pub IsUndeclared : TypedStmt → Type 0
IsUndeclared s = is_declaration (out-TypedStmt s) ≡ false

abbrev pub BeginsWithLabel : List TypedStmt → Type 0
BeginsWithLabel [] = ⊤
BeginsWithLabel (s ∷ ss) = IsTrue (is_label (out-TypedStmt s))

abbrev pub case_of : TypedStmt-F TypedStmt → Option TypedExpr
case_of (TypedStmt-F.Case value place) = Some value
case_of _ = None

abbrev pub is_default : TypedStmt-F TypedStmt → Bool
is_default (TypedStmt-F.Default place) = true
is_default _ = false

-- the values of a switch's cases
abbrev pub cases : List TypedStmt → List TypedExpr
cases = filter_map (λ s. case_of (out-TypedStmt s))

-- ---- one line a kind of statement

module _ (tags : List TagDef) (Fits : List ℕ → List CType → Type 0) (objects : List DataDef) (functions : List FnDef) (f : FnDef) where
  -- an expression that is no part of another
  abbrev pub IsWhole : TypedExpr → Type 0
  IsWhole e = IsValue e × IsWellTyped tags Fits objects functions f.locals None e

  abbrev pub IsTest : TypedExpr → Type 0
  IsTest e = IsWhole e × IsScalarTyped e

  abbrev pub IsHead : TypedForHead → Type 0
  IsHead (head.Evaluate e) = IfSome e IsWhole
  IsHead (head.Variables variables) = All (IsDeclared tags Fits objects functions f.locals) variables

  -- an integer constant expression of that type (6.8.4.2p3)
  abbrev pub IsCase : CType → TypedExpr → Type 0
  IsCase t value = IsWhole value × (type_of value ≡ t) × IsSome (constant_of tags value)

  -- No two cases have one value, and one default stands at most.
  pub record IsSwitch (subject : TypedExpr) (items : List TypedStmt) : Type 0 where
    pub whole : IsWhole subject
    pub promoted : IsPromoted (type_of subject)
    pub label_first : BeginsWithLabel items
    pub no_declaration : All IsUndeclared items
    pub constants : All (IsCase (type_of subject)) (cases items)
    pub apart : AllPairs (λ a b. constant_of tags a ≢ constant_of tags b) (cases items)
    pub default : count_by (λ s. is_default (out-TypedStmt s)) items ≤ 1

  -- a value exactly where the function has a result (6.8.6.4p1)
  abbrev pub IsReturn : Bool → Option TypedExpr → Type 0
  IsReturn true value = value ≡ None
  IsReturn false value = IsSomeAnd value (λ e. IsWhole e × (type_of e ≡ f.result))

  abbrev pub IsStmt : TypedStmt-F TypedStmt → Type 0
  IsStmt (TypedStmt-F.Block items place) = All IsItem items
  IsStmt (TypedStmt-F.Declare d) = IsDeclared tags Fits objects functions f.locals d
  IsStmt (TypedStmt-F.Expr e place) = IfSome e IsWhole
  IsStmt (TypedStmt-F.If test then_part else_part place) = IsTest test × IsPart then_part × IfSome else_part IsPart
  IsStmt (TypedStmt-F.While test body place) = IsTest test × IsPart body
  IsStmt (TypedStmt-F.Do body test place) = IsPart body × IsTest test
  IsStmt (TypedStmt-F.For head test step body place) = IsHead head × IfSome test IsTest × IfSome step IsWhole × IsPart body
  IsStmt (TypedStmt-F.Switch subject items place) = IsSwitch subject items
  IsStmt (TypedStmt-F.Break place) = ⊤
  IsStmt (TypedStmt-F.Continue place) = ⊤
  IsStmt (TypedStmt-F.Return value place) = IsReturn (is_void f.result) value
  IsStmt (TypedStmt-F.Case value place) = ⊤
  IsStmt (TypedStmt-F.Default place) = ⊤

-- ---- jumps

-- whether a `break` or a `continue` in a statement leaves it (6.8.6.2p1, 6.8.6.3p1)
pub record Jumps : Type 0 where
  pub breaks : Bool
  pub continues : Bool

abbrev pub jumps : Bool → Bool → Jumps
jumps breaks continues = record { breaks = breaks; continues = continues }

abbrev pub any_jumps : List Jumps → Jumps
any_jumps js = jumps (list_any (λ j. j.breaks) js) (list_any (λ j. j.continues) js)

abbrev pub listed : Option Jumps → List Jumps
listed None = []
listed (Some j) = j ∷ []

abbrev pub jump_layer : TypedStmt-F Jumps → Jumps
jump_layer (TypedStmt-F.Block items place) = any_jumps items
jump_layer (TypedStmt-F.If test then_part else_part place) = any_jumps (then_part ∷ listed else_part)
jump_layer (TypedStmt-F.Switch subject items place) = jumps false (any_jumps items).continues
jump_layer (TypedStmt-F.Break place) = jumps true false
jump_layer (TypedStmt-F.Continue place) = jumps false true
jump_layer _ = jumps false false

-- Each stands in a loop, or in a switch for `break`.
abbrev pub HasNoJump : TypedStmt → Type 0
HasNoJump s = fold-TypedStmt Jumps jump_layer s ≡ jumps false false

-- ---- variables

abbrev pub kind_names : TypedKind-F (List ℕ) (List ℕ) → List ℕ
kind_names (TypedKind-F.Local number) = number ∷ []
kind_names kind = gathered (λ numbers. numbers) kind

abbrev pub expr_names : TypedExpr-F (List ℕ) (List ℕ) → List ℕ
expr_names e = e.kind

-- the numbers of the variables that an expression names
abbrev pub names : TypedExpr → List ℕ
names = fold-TypedExpr (List ℕ) (List ℕ) kind_names expr_names

abbrev pub init_layer : TypedInit-F (List ℕ) → List ℕ
init_layer (TypedInit-F.Expr at value) = names value
init_layer (TypedInit-F.List items place) = flat_map (λ numbers. numbers) items

abbrev pub init_names : TypedInit → List ℕ
init_names = fold-TypedInit (List ℕ) init_layer

abbrev pub optional_names : Option TypedExpr → List ℕ
optional_names e = option_map_or names e []

-- The variables that are declared behind a statement, of those before it, and whether it names only declared ones.
pub record Scope : Type 0 where
  pub declared : List ℕ
  pub holds : Bool

abbrev pub scope : List ℕ → Bool → Scope
scope declared holds = record { declared = declared; holds = holds }

abbrev pub all_in : List ℕ → List ℕ → Bool
all_in declared numbers = list_all (λ n. list_any (λ m. m == n) declared) numbers

-- a variable is declared in its own initialiser too (6.2.1p7)
abbrev pub declare : TypedDeclare → List ℕ → Scope
declare d declared = scope (d.local ∷ declared) (all_in (d.local ∷ declared) (option_map_or init_names d.init []))

-- one behind another
abbrev pub in_order : List (List ℕ → Scope) → List ℕ → Scope
in_order [] declared = scope declared true
in_order (s ∷ ss) declared =
    scope (in_order ss (s declared).declared).declared ((s declared).holds && (in_order ss (s declared).declared).holds)

-- what is declared inside is gone behind
abbrev pub inside : List ℕ → Scope → Scope
inside declared s = scope declared s.holds

abbrev pub head_scope : TypedForHead → List ℕ → Scope
head_scope (head.Evaluate e) declared = scope declared (all_in declared (optional_names e))
head_scope (head.Variables variables) declared = in_order (map declare variables) declared

abbrev pub scope_layer : TypedStmt-F (List ℕ → Scope) → List ℕ → Scope
scope_layer (TypedStmt-F.Block items place) declared = inside declared (in_order items declared)
scope_layer (TypedStmt-F.Declare d) declared = declare d declared
scope_layer (TypedStmt-F.Expr e place) declared = scope declared (all_in declared (optional_names e))
scope_layer (TypedStmt-F.If test then_part else_part place) declared =
    scope declared (all_in declared (names test) && ((then_part declared).holds && option_map_or (λ s. (s declared).holds) else_part true))
scope_layer (TypedStmt-F.While test body place) declared = scope declared (all_in declared (names test) && (body declared).holds)
scope_layer (TypedStmt-F.Do body test place) declared = scope declared ((body declared).holds && all_in declared (names test))
scope_layer (TypedStmt-F.For head test step body place) declared =
    scope declared ((head_scope head declared).holds
    && (all_in (head_scope head declared).declared (optional_names test ++ optional_names step)
    && (body (head_scope head declared).declared).holds))
scope_layer (TypedStmt-F.Switch subject items place) declared =
    scope declared (all_in declared (names subject) && (in_order items declared).holds)
scope_layer (TypedStmt-F.Break place) declared = scope declared true
scope_layer (TypedStmt-F.Continue place) declared = scope declared true
scope_layer (TypedStmt-F.Return value place) declared = scope declared (all_in declared (optional_names value))
scope_layer (TypedStmt-F.Case value place) declared = scope declared (all_in declared (names value))
scope_layer (TypedStmt-F.Default place) declared = scope declared true

-- Each variable is named only behind its declaration, in its block or the `for` that declares it (6.2.1p4).
abbrev pub NamesDeclared : FnDef → Type 0
NamesDeclared f = IsTrue (fold-TypedStmt (List ℕ → Scope) scope_layer f.body (range_with_len 0 (length f.params))).holds

-- ---- declarations

abbrev pub head_declares : TypedForHead → List ℕ
head_declares (head.Evaluate e) = []
head_declares (head.Variables variables) = map (λ d. d.local) variables

abbrev pub declares_layer : TypedStmt-F (List ℕ) → List ℕ
declares_layer (TypedStmt-F.Block items place) = flat_map (λ numbers. numbers) items
declares_layer (TypedStmt-F.Declare d) = d.local ∷ []
declares_layer (TypedStmt-F.If test then_part else_part place) = then_part ++ option_map_or (λ numbers. numbers) else_part []
declares_layer (TypedStmt-F.While test body place) = body
declares_layer (TypedStmt-F.Do body test place) = body
declares_layer (TypedStmt-F.For head test step body place) = head_declares head ++ body
declares_layer (TypedStmt-F.Switch subject items place) = flat_map (λ numbers. numbers) items
declares_layer _ = []

-- Each variable but the parameters is declared once, in the order of the text.
abbrev pub DeclaresInOrder : FnDef → Type 0
DeclaresInOrder f = fold-TypedStmt (List ℕ) declares_layer f.body ≡ range_with_len (length f.params) (length f.locals - length f.params)
