-- How high a typed tree is. Typing adds two conversions at most over one written node: an array becomes a pointer, and that a pointer
-- of the type that is wanted. So a typed tree is at most three times as high as the written one. This project's own.
use Rattle.std.specs.Prelude.{ℕ, suc, ◌*◌, max, [], ◌∷◌, map, Option}
use Rattle.std.specs.Option.{option_map_or}
use Rattle.c_tree.specs.declared.typed.TypedDeclare.{TypedDeclare}
use Rattle.c_tree.specs.declared.typed.TypedExpr.{TypedExpr, fold-TypedExpr}
use Rattle.c_tree.specs.declared.typed.TypedForHead.{TypedForHead}
use Rattle.c_tree.specs.declared.typed.TypedForHead.TheVariants as head
use Rattle.c_tree.specs.declared.typed.TypedInit.{TypedInit, fold-TypedInit}
use Rattle.c_tree.specs.declared.typed.TypedInit.TheOpen.{TypedInit-F}
use Rattle.c_tree.specs.declared.typed.TypedKind.TheOpen.{TypedKind-F, TypedExpr-F}
use Rattle.c_tree.specs.declared.typed.TypedStmt.{TypedStmt, fold-TypedStmt}
use Rattle.c_tree.specs.declared.typed.TypedStmt.TheOpen.{TypedStmt-F}
use Rattle.c_tree.specs.Heights.{highest, highest_tree, optional_height}

-- each layer with the heights of what it holds
abbrev pub typed_kind_layer : TypedKind-F ℕ ℕ → ℕ
typed_kind_layer (TypedKind-F.Local number) = 1
typed_kind_layer (TypedKind-F.Object number) = 1
typed_kind_layer (TypedKind-F.Number value) = 1
typed_kind_layer (TypedKind-F.Str text) = 1
typed_kind_layer (TypedKind-F.Comma all) = suc (highest all)
typed_kind_layer (TypedKind-F.Assign op to from) = suc (max to from)
typed_kind_layer (TypedKind-F.Cond test then_part else_part) = suc (max test (max then_part else_part))
typed_kind_layer (TypedKind-F.Binary op a b) = suc (max a b)
typed_kind_layer (TypedKind-F.Cast of added) = suc of
typed_kind_layer (TypedKind-F.Prefix op of) = suc of
typed_kind_layer (TypedKind-F.Postfix op of) = suc of
typed_kind_layer (TypedKind-F.SizeofExpr of) = suc of
typed_kind_layer (TypedKind-F.SizeofType of) = 1
typed_kind_layer (TypedKind-F.Index base index) = suc (max base index)
typed_kind_layer (TypedKind-F.Call callee args) = suc (highest args)
typed_kind_layer (TypedKind-F.Member base arrow member) = suc base
typed_kind_layer (TypedKind-F.SizeCall pointer mode) = suc (max pointer mode)

abbrev pub typed_expr_layer : TypedExpr-F ℕ ℕ → ℕ
typed_expr_layer e = e.kind

abbrev pub typed_expr_height : TypedExpr → ℕ
typed_expr_height = fold-TypedExpr ℕ ℕ typed_kind_layer typed_expr_layer

-- An initialiser that is an expression is one node with it.
abbrev pub typed_init_layer : TypedInit-F ℕ → ℕ
typed_init_layer (TypedInit-F.Expr at value) = typed_expr_height value
typed_init_layer (TypedInit-F.List items place) = suc (highest items)

abbrev pub typed_init_height : TypedInit → ℕ
typed_init_height = fold-TypedInit ℕ typed_init_layer

abbrev pub optional_typed_height : Option TypedExpr → ℕ
optional_typed_height e = option_map_or typed_expr_height e 0

abbrev pub typed_declare_height : TypedDeclare → ℕ
typed_declare_height d = suc (option_map_or typed_init_height d.init 0)

-- The variables in the head of a for are part of the for.
abbrev pub typed_head_height : TypedForHead → ℕ
typed_head_height (head.Evaluate e) = optional_typed_height e
typed_head_height (head.Variables variables) = highest (map (λ d. option_map_or typed_init_height d.init 0) variables)

abbrev pub typed_stmt_layer : TypedStmt-F ℕ → ℕ
typed_stmt_layer (TypedStmt-F.Block items place) = suc (highest items)
typed_stmt_layer (TypedStmt-F.Declare d) = typed_declare_height d
typed_stmt_layer (TypedStmt-F.Expr e place) = suc (optional_typed_height e)
typed_stmt_layer (TypedStmt-F.If test then_part else_part place) =
    suc (max (typed_expr_height test) (max then_part (optional_height else_part)))
typed_stmt_layer (TypedStmt-F.While test body place) = suc (max (typed_expr_height test) body)
typed_stmt_layer (TypedStmt-F.Do body test place) = suc (max body (typed_expr_height test))
typed_stmt_layer (TypedStmt-F.For head test step body place) =
    suc (highest (typed_head_height head ∷ optional_typed_height test ∷ optional_typed_height step ∷ body ∷ []))
typed_stmt_layer (TypedStmt-F.Switch subject items place) = suc (max (typed_expr_height subject) (highest items))
typed_stmt_layer (TypedStmt-F.Break place) = 1
typed_stmt_layer (TypedStmt-F.Continue place) = 1
typed_stmt_layer (TypedStmt-F.Return value place) = suc (optional_typed_height value)
typed_stmt_layer (TypedStmt-F.Case value place) = suc (typed_expr_height value)
typed_stmt_layer (TypedStmt-F.Default place) = 1

abbrev pub typed_stmt_height : TypedStmt → ℕ
typed_stmt_height = fold-TypedStmt ℕ typed_stmt_layer

-- how high a typed tree may be
abbrev pub highest_typed_tree : ℕ
highest_typed_tree = 3 * highest_tree
