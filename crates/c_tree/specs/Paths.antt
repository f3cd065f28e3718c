-- Trailing arrays: members whose end is that of their object (GCC manual, "Object Size Checking", and
-- -fstrict-flex-arrays=0). A named path starts at a variable or literal; a pointer path starts at `*e`, `e->` or `e[i]` with a
-- pointer e. Which steps count is this project's own.
use Rattle.std.specs.Prelude.{ℕ, ◌+◌, ◌==◌, Bool, true, false, not, ◌&&◌, if◌then◌else◌, List, length, slice_get}
use Rattle.std.specs.Option.{option_map_or}
use Rattle.c_layout.specs.declared.tags.TagDef.{TagDef}
use Rattle.c_layout.specs.declared.types.CType.{CType, out-CType}
use Rattle.c_layout.specs.declared.types.CType.TheOpen.{CType-F}
use Rattle.c_layout.specs.Types.{is_array, is_pointer}
use Rattle.c_tree.specs.declared.operators.PrefixOp.TheVariants.{Indirection}
use Rattle.c_tree.specs.declared.typed.TypedExpr.{TypedExpr, out-TypedExpr, fold-TypedExpr}
use Rattle.c_tree.specs.declared.typed.TypedKind.{TypedKind, out-TypedKind}
use Rattle.c_tree.specs.declared.typed.TypedKind.TheOpen.{TypedKind-F, TypedExpr-F}

-- What a place has come along: `decayed` where it is an array that typing made a pointer (C11 6.3.2.1p3); `trails` where a
-- pointer path leads to it, each member step since the last pointer takes the last member of a structure or any member of a
-- union, and no array element lies between.
pub record Way : Type 0 where
  pub decayed : Bool
  pub trails : Bool

abbrev pub way : Bool → Way
way trails = record { decayed = false; trails = trails }

-- an operand with its type
pub record Step : Type 0 where
  pub ctype : CType
  pub way : Way

-- the operand of `a[b]` that is the pointer (C11 6.5.2.1p1)
abbrev pub pointer_operand : Step → Step → Step
pointer_operand a b = if is_pointer a.ctype then a else b

module _ (tags : List TagDef) where
  -- the last member of a structure, or any member of a union
  abbrev pub is_last : ℕ → CType-F CType → Bool
  is_last member (CType-F.Struct tag) = option_map_or (λ d. member + 1 == length d.members) (slice_get tags tag) false
  is_last member (CType-F.Union tag) = true
  is_last member _ = false

  abbrev pub is_last_behind : ℕ → CType-F CType → Bool
  is_last_behind member (CType-F.Ptr of) = is_last member (out-CType of)
  is_last_behind member _ = false

  abbrev pub kind_way : TypedKind-F Way Step → Way
  kind_way (TypedKind-F.Prefix Indirection of) = way true
  kind_way (TypedKind-F.Index base index) = way (not (pointer_operand base index).way.decayed)
  kind_way (TypedKind-F.Member base true member) = way (is_last_behind member (out-CType base.ctype))
  kind_way (TypedKind-F.Member base false member) = way (base.way.trails && is_last member (out-CType base.ctype))
  kind_way (TypedKind-F.Cast of added) = record { decayed = added && is_array of.ctype; trails = false }
  kind_way _ = way false

  abbrev pub expr_step : TypedExpr-F Way Step → Step
  expr_step e = record { ctype = e.ctype; way = e.kind }

  abbrev pub step : TypedExpr → Step
  step = fold-TypedExpr Way Step kind_way expr_step

abbrev pub is_member : TypedKind-F TypedKind TypedExpr → Bool
is_member (TypedKind-F.Member base arrow member) = true
is_member _ = false

-- an array member that is trailing
abbrev pub is_trailing : List TagDef → TypedExpr → Bool
is_trailing tags e = is_member (out-TypedKind (out-TypedExpr e).kind) && (is_array (out-TypedExpr e).ctype && (step tags e).way.trails)
