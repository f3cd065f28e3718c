-- The weight and frame of a function, and the counts that they are read from. This project's own.
use Rattle.std.specs.Prelude.{ℕ, ◌+◌, ◌*◌, ◌^◌, min, Bool, true, false, if◌then◌else◌, List, [], ◌∷◌, count_by, sum_by, map, slice_get, Option, None, Some}
use Rattle.std.specs.Option.{option_map, option_map_or}
use Rattle.c_layout.specs.declared.tags.TagDef.{TagDef}
use Rattle.c_layout.specs.Layouts.{aligned, layout}
use Rattle.c_tree.specs.declared.operators.BinaryOp.{BinaryOp}
use Rattle.c_tree.specs.declared.operators.BinaryOp.TheVariants.{LogicalOr, LogicalAnd}
use Rattle.c_tree.specs.declared.programs.Counts.{Counts}
use Rattle.c_tree.specs.declared.programs.FnDef.{FnDef}
use Rattle.c_tree.specs.declared.programs.LocalDef.{LocalDef}
use Rattle.c_tree.specs.declared.typed.Callee.{Callee}
use Rattle.c_tree.specs.declared.typed.Callee.TheVariants.{Function, Library}
use Rattle.c_tree.specs.declared.typed.TypedExpr.{TypedExpr, fold-TypedExpr}
use Rattle.c_tree.specs.declared.typed.TypedInit.{TypedInit, fold-TypedInit}
use Rattle.c_tree.specs.declared.typed.TypedStmt.{TypedStmt, fold-TypedStmt}
use Rattle.c_tree.specs.declared.typed.TypedKind.TheOpen.{TypedKind-F, TypedExpr-F}
use Rattle.c_tree.specs.declared.typed.TypedInit.TheOpen.{TypedInit-F}
use Rattle.c_tree.specs.declared.typed.TypedDeclare.{TypedDeclare}
use Rattle.c_tree.specs.declared.typed.TypedForHead.{TypedForHead}
use Rattle.c_tree.specs.declared.typed.TypedForHead.TheVariants as head
use Rattle.c_tree.specs.declared.typed.TypedStmt.TheOpen.{TypedStmt-F}

-- where sums stop
abbrev pub stop : ℕ
stop = 2 ^ 63

abbrev pub nothing : Counts
nothing = record { nodes = 0; joins = 0; vars = 0; frame = 0 }

abbrev pub one_node : Counts
one_node = record { nodes = 1; joins = 0; vars = 0; frame = 0 }

-- a node that is a join too
abbrev pub one_join : Counts
one_join = record { nodes = 1; joins = 1; vars = 0; frame = 0 }

abbrev pub both : Counts → Counts → Counts
both a b = record { nodes = a.nodes + b.nodes; joins = a.joins + b.joins; vars = a.vars + b.vars; frame = a.frame + b.frame }

abbrev pub total : List Counts → Counts
total [] = nothing
total (c ∷ cs) = both c (total cs)

abbrev pub optional : Option Counts → Counts
optional None = nothing
optional (Some c) = c

-- What counts in a body. An inline call is a join and adds its callee's counts. A conversion that typing added, and a
-- callee, are no nodes.
module _ (functions : List FnDef) where
  abbrev pub inline_counts : FnDef → Counts
  inline_counts f = if f.inlined then both (record { nodes = 0; joins = 1; vars = 0; frame = 0 }) f.counts else nothing

  abbrev pub callee_counts : Callee → Counts
  callee_counts (Function number) = optional (option_map inline_counts (slice_get functions number))
  callee_counts (Library f) = nothing

  abbrev pub binary_counts : BinaryOp → Counts
  binary_counts LogicalOr = one_join
  binary_counts LogicalAnd = one_join
  binary_counts op = one_node

  abbrev pub cast_counts : Bool → Counts
  cast_counts true = nothing
  cast_counts false = one_node

  abbrev pub kind_counts : TypedKind-F Counts Counts → Counts
  kind_counts (TypedKind-F.Local number) = one_node
  kind_counts (TypedKind-F.Object number) = one_node
  kind_counts (TypedKind-F.Number value) = one_node
  kind_counts (TypedKind-F.Str text) = one_node
  kind_counts (TypedKind-F.Comma all) = both one_node (total all)
  kind_counts (TypedKind-F.Assign op to from) = total (one_node ∷ to ∷ from ∷ [])
  kind_counts (TypedKind-F.Cond test then_part else_part) = total (one_join ∷ test ∷ then_part ∷ else_part ∷ [])
  kind_counts (TypedKind-F.Binary op a b) = total (binary_counts op ∷ a ∷ b ∷ [])
  kind_counts (TypedKind-F.Cast of added) = both (cast_counts added) of
  kind_counts (TypedKind-F.Prefix op of) = both one_node of
  kind_counts (TypedKind-F.Postfix op of) = both one_node of
  kind_counts (TypedKind-F.SizeofExpr of) = both one_node of
  kind_counts (TypedKind-F.SizeofType of) = one_node
  kind_counts (TypedKind-F.Index base index) = total (one_node ∷ base ∷ index ∷ [])
  kind_counts (TypedKind-F.Call callee args) = total (one_node ∷ callee_counts callee ∷ args)
  kind_counts (TypedKind-F.Member base arrow member) = both one_node base
  kind_counts (TypedKind-F.SizeCall pointer mode) = total (one_node ∷ pointer ∷ mode ∷ [])

  abbrev pub expr_layer : TypedExpr-F Counts Counts → Counts
  expr_layer e = e.kind

  abbrev pub expr_counts : TypedExpr → Counts
  expr_counts = fold-TypedExpr Counts Counts kind_counts expr_layer

  -- An initialiser that is an expression is one node with it.
  abbrev pub init_layer : TypedInit-F Counts → Counts
  init_layer (TypedInit-F.Expr at value) = expr_counts value
  init_layer (TypedInit-F.List items place) = both one_node (total items)

  abbrev pub init_counts : TypedInit → Counts
  init_counts = fold-TypedInit Counts init_layer

  abbrev pub optional_expr : Option TypedExpr → Counts
  optional_expr e = optional (option_map expr_counts e)

  -- A variable's declaration counts as its declarator and its initialiser.
  abbrev pub declare_counts : TypedDeclare → Counts
  declare_counts d = both one_node (optional (option_map init_counts d.init))

  abbrev pub head_counts : TypedForHead → Counts
  head_counts (head.Evaluate e) = optional_expr e
  head_counts (head.Variables variables) = total (map declare_counts variables)

  abbrev pub stmt_layer : TypedStmt-F Counts → Counts
  stmt_layer (TypedStmt-F.Block items place) = both one_node (total items)
  stmt_layer (TypedStmt-F.Declare d) = declare_counts d
  stmt_layer (TypedStmt-F.Expr e place) = both one_node (optional_expr e)
  stmt_layer (TypedStmt-F.If test then_part else_part place) = total (one_join ∷ expr_counts test ∷ then_part ∷ optional else_part ∷ [])
  stmt_layer (TypedStmt-F.While test body place) = total (one_join ∷ expr_counts test ∷ body ∷ [])
  stmt_layer (TypedStmt-F.Do body test place) = total (one_join ∷ body ∷ expr_counts test ∷ [])
  stmt_layer (TypedStmt-F.For head test step body place) = total (one_join ∷ head_counts head ∷ optional_expr test ∷ optional_expr step ∷ body ∷ [])
  stmt_layer (TypedStmt-F.Switch subject items place) = total (one_join ∷ expr_counts subject ∷ items)
  stmt_layer (TypedStmt-F.Break place) = one_join
  stmt_layer (TypedStmt-F.Continue place) = one_join
  stmt_layer (TypedStmt-F.Return value place) = both one_join (optional_expr value)
  stmt_layer (TypedStmt-F.Case value place) = both one_join (expr_counts value)
  stmt_layer (TypedStmt-F.Default place) = one_join

  abbrev pub stmt_counts : TypedStmt → Counts
  stmt_counts = fold-TypedStmt Counts stmt_layer

-- the bytes of a variable in a frame: its size and one more, up to a multiple of 16; none where its type has no size
abbrev pub frame_room : List TagDef → LocalDef → ℕ
frame_room tags local = if local.in_register then 0 else option_map_or (λ l. aligned (l.size + 1) 16) (layout tags local.ctype) 0

abbrev pub local_counts : List TagDef → List LocalDef → Counts
local_counts tags locals = record { nodes = 0; joins = 0; vars = count_by (λ l. l.in_register) locals; frame = sum_by (frame_room tags) locals }

abbrev pub stopped : Counts → Counts
stopped c = record { nodes = min c.nodes stop; joins = min c.joins stop; vars = min c.vars stop; frame = min c.frame stop }

-- the counts of a function among others
abbrev pub function_counts : List TagDef → List FnDef → FnDef → Counts
function_counts tags functions f = stopped (both (stmt_counts functions f.body) (local_counts tags f.locals))

-- The weight of a function by its counts. Stopping at each step gives the same as stopping at the end.
abbrev pub weight : Counts → ℕ
weight c = min (64 * (c.nodes + 1) + 16 * (c.joins + 1) * (c.vars + 1)) stop
