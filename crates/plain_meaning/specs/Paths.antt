-- What of an expression the rules of pointers look at: whether a place is on a named path, and whether the argument of a size expression
-- has side effects (GCC manual, "Object Size Checking"). This project's own. Which arrays are trailing stands in `c_tree`.
use Rattle.std.specs.Prelude.{Bool, true, false, ◌&&◌, ◌||◌, List, [], ◌∷◌}
use Rattle.std.specs.List.{list_any}
use Rattle.c_layout.specs.declared.types.CType.{CType}
use Rattle.c_layout.specs.Types.{is_array}
use Rattle.c_tree.specs.declared.operators.PrefixOp.{PrefixOp}
use Rattle.c_tree.specs.declared.operators.PrefixOp.TheVariants.{Increment, Decrement}
use Rattle.c_tree.specs.declared.typed.TypedExpr.{TypedExpr, fold-TypedExpr}
use Rattle.c_tree.specs.declared.typed.TypedKind.TheOpen.{TypedKind-F, TypedExpr-F}

-- ---- named paths

-- a place is named that starts at a variable or literal and takes members and elements of arrays; `array` where typing made such an array
-- a pointer (C11 6.3.2.1p3)
pub record Path : Type 0 where
  pub named : Bool
  pub array : Bool

abbrev pub path : Bool → Path
path named = record { named = named; array = false }

-- an operand with its type
pub record Operand : Type 0 where
  pub ctype : CType
  pub path : Path

abbrev pub last_path : List Operand → Path
last_path [] = path false
last_path (e ∷ []) = e.path
last_path (e ∷ f ∷ more) = last_path (f ∷ more)

-- what `?:`, a comma or an assignment gives of structures is a place too
abbrev pub kind_path : TypedKind-F Path Operand → Path
kind_path (TypedKind-F.Local number) = path true
kind_path (TypedKind-F.Object number) = path true
kind_path (TypedKind-F.Index base index) = path (base.path.array || index.path.array)
kind_path (TypedKind-F.Member base false member) = path base.path.named
kind_path (TypedKind-F.Cond test yes_part no_part) = path (yes_part.path.named && no_part.path.named)
kind_path (TypedKind-F.Comma all) = path (last_path all).named
kind_path (TypedKind-F.Assign op to from) = path to.path.named
kind_path (TypedKind-F.Cast of added) = record { named = false; array = added && (is_array of.ctype && of.path.named) }
kind_path _ = path false

abbrev pub expr_path : TypedExpr-F Path Operand → Operand
expr_path e = record { ctype = e.ctype; path = e.kind }

abbrev pub is_named : TypedExpr → Bool
is_named e = (fold-TypedExpr Path Operand kind_path expr_path e).path.named

-- ---- side effects

abbrev pub steps : PrefixOp → Bool
steps Increment = true
steps Decrement = true
steps _ = false

-- an assignment, `++`, `--`, a call or a size expression, under `sizeof` too
abbrev pub kind_effects : TypedKind-F Bool Bool → Bool
kind_effects (TypedKind-F.Local number) = false
kind_effects (TypedKind-F.Object number) = false
kind_effects (TypedKind-F.Number value) = false
kind_effects (TypedKind-F.Str text) = false
kind_effects (TypedKind-F.Comma all) = list_any (λ e. e) all
kind_effects (TypedKind-F.Assign op to from) = true
kind_effects (TypedKind-F.Cond test yes_part no_part) = test || (yes_part || no_part)
kind_effects (TypedKind-F.Binary op a b) = a || b
kind_effects (TypedKind-F.Cast of added) = of
kind_effects (TypedKind-F.Prefix op of) = steps op || of
kind_effects (TypedKind-F.Postfix op of) = true
kind_effects (TypedKind-F.SizeofExpr of) = of
kind_effects (TypedKind-F.SizeofType of) = false
kind_effects (TypedKind-F.Index base index) = base || index
kind_effects (TypedKind-F.Call callee args) = true
kind_effects (TypedKind-F.Member base arrow member) = base
kind_effects (TypedKind-F.SizeCall pointer mode) = true

abbrev pub expr_effects : TypedExpr-F Bool Bool → Bool
expr_effects e = e.kind

abbrev pub has_effects : TypedExpr → Bool
has_effects = fold-TypedExpr Bool Bool kind_effects expr_effects
