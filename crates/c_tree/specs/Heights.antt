-- How high the tree of a source is: the nodes of the longest way down. Declarations of members, enumerators,
-- declarators with initialisers, parameters and attributes are parts of the nodes that hold them. This project's own.
use Rattle.std.specs.Prelude.{ℕ, suc, ◌≤◌, max, List, [], ◌∷◌, map, All, Option, None, Some}
use Rattle.std.specs.Option.{option_map_or}
use Rattle.c_tree.specs.declared.nodes.Declarator.{Declarator, fold-Declarator}
use Rattle.c_tree.specs.declared.nodes.Declarator.TheOpen.{Declarator-F, ExprKind-F, Params-F, Spec-F, Enumerator-F, Expr-F, MemberDecl-F, Param-F, TypeName-F}
use Rattle.c_tree.specs.declared.nodes.Enumerator.{Enumerator, fold-Enumerator}
use Rattle.c_tree.specs.declared.nodes.Expr.{Expr, fold-Expr}
use Rattle.c_tree.specs.declared.nodes.ExprKind.{ExprKind, fold-ExprKind}
use Rattle.c_tree.specs.declared.nodes.MemberDecl.{MemberDecl, fold-MemberDecl}
use Rattle.c_tree.specs.declared.nodes.Param.{Param, fold-Param}
use Rattle.c_tree.specs.declared.nodes.Params.{Params, fold-Params}
use Rattle.c_tree.specs.declared.nodes.Spec.{Spec, fold-Spec}
use Rattle.c_tree.specs.declared.nodes.TypeName.{TypeName, fold-TypeName}
use Rattle.c_tree.specs.declared.externals.External.{External}
use Rattle.c_tree.specs.declared.externals.External.TheVariants as external
use Rattle.c_tree.specs.declared.externals.FileTree.{FileTree}
use Rattle.c_tree.specs.declared.statements.ForHead.{ForHead}
use Rattle.c_tree.specs.declared.statements.ForHead.TheVariants as head
use Rattle.c_tree.specs.declared.statements.Init.{Init, fold-Init}
use Rattle.c_tree.specs.declared.statements.Init.TheOpen.{Init-F}
use Rattle.c_tree.specs.declared.statements.InitDeclarator.{InitDeclarator}
use Rattle.c_tree.specs.declared.statements.Stmt.{Stmt, fold-Stmt}
use Rattle.c_tree.specs.declared.statements.Stmt.TheOpen.{Stmt-F}

-- the highest of several parts, 0 of none
abbrev pub highest : List ℕ → ℕ
highest [] = 0
highest (n ∷ ns) = max n (highest ns)

abbrev pub optional_height : Option ℕ → ℕ
optional_height None = 0
optional_height (Some n) = n

-- each layer with the heights of what it holds
abbrev pub declarator_layer : Declarator-F ℕ ℕ ℕ ℕ ℕ ℕ ℕ ℕ ℕ → ℕ
declarator_layer (Declarator-F.Pointer words of place) = suc of
declarator_layer (Declarator-F.«Declarator::Name» name place) = 1
declarator_layer (Declarator-F.Omitted place) = 1
declarator_layer (Declarator-F.Array of bound place) = suc (max of (optional_height bound))
declarator_layer (Declarator-F.Function of params place) = suc (max of params)

abbrev pub kind_layer : ExprKind-F ℕ ℕ ℕ ℕ ℕ ℕ ℕ ℕ ℕ → ℕ
kind_layer (ExprKind-F.«ExprKind::Name» name) = 1
kind_layer (ExprKind-F.Number value kind) = 1
kind_layer (ExprKind-F.CharConst byte) = 1
kind_layer (ExprKind-F.Str text) = 1
kind_layer (ExprKind-F.Comma all) = suc (highest all)
kind_layer (ExprKind-F.Assign op to from) = suc (max to from)
kind_layer (ExprKind-F.Cond test then_part else_part) = suc (max test (max then_part else_part))
kind_layer (ExprKind-F.Binary op a b) = suc (max a b)
kind_layer (ExprKind-F.Cast to of) = suc (max to of)
kind_layer (ExprKind-F.Prefix op of) = suc of
kind_layer (ExprKind-F.Postfix op of) = suc of
kind_layer (ExprKind-F.SizeofExpr of) = suc of
kind_layer (ExprKind-F.SizeofType of) = suc of
kind_layer (ExprKind-F.Index base index) = suc (max base index)
kind_layer (ExprKind-F.Call callee args) = suc (max callee (highest args))
kind_layer (ExprKind-F.Member base arrow name) = suc base
kind_layer (ExprKind-F.SizeCall pointer mode) = suc (max pointer mode)

abbrev pub params_layer : Params-F ℕ ℕ ℕ ℕ ℕ ℕ ℕ ℕ ℕ → ℕ
params_layer Params-F.Empty = 0
params_layer Params-F.Void = 0
params_layer (Params-F.List params) = highest params

abbrev pub spec_layer : Spec-F ℕ ℕ ℕ ℕ ℕ ℕ ℕ ℕ ℕ → ℕ
spec_layer (Spec-F.Tagged aggregate tag members place) = suc (option_map_or highest members 0)
spec_layer (Spec-F.Untagged aggregate members place) = suc (highest members)
spec_layer (Spec-F.Enum tag enumerators place) = suc (highest enumerators)
spec_layer _ = 1

abbrev pub enumerator_layer : Enumerator-F ℕ ℕ ℕ ℕ ℕ ℕ ℕ ℕ ℕ → ℕ
enumerator_layer e = optional_height e.value

abbrev pub expr_layer : Expr-F ℕ ℕ ℕ ℕ ℕ ℕ ℕ ℕ ℕ → ℕ
expr_layer e = e.kind

abbrev pub member_layer : MemberDecl-F ℕ ℕ ℕ ℕ ℕ ℕ ℕ ℕ ℕ → ℕ
member_layer m = max (highest m.specs) (highest m.declarators)

abbrev pub param_layer : Param-F ℕ ℕ ℕ ℕ ℕ ℕ ℕ ℕ ℕ → ℕ
param_layer p = max (highest p.specs) p.declarator

abbrev pub type_name_layer : TypeName-F ℕ ℕ ℕ ℕ ℕ ℕ ℕ ℕ ℕ → ℕ
type_name_layer t = suc (max (highest t.specs) t.declarator)

abbrev pub declarator_height : Declarator → ℕ
declarator_height = fold-Declarator ℕ ℕ ℕ ℕ ℕ ℕ ℕ ℕ ℕ
    declarator_layer kind_layer params_layer spec_layer enumerator_layer expr_layer member_layer param_layer type_name_layer

abbrev pub kind_height : ExprKind → ℕ
kind_height = fold-ExprKind ℕ ℕ ℕ ℕ ℕ ℕ ℕ ℕ ℕ
    declarator_layer kind_layer params_layer spec_layer enumerator_layer expr_layer member_layer param_layer type_name_layer

abbrev pub expr_height : Expr → ℕ
expr_height = fold-Expr ℕ ℕ ℕ ℕ ℕ ℕ ℕ ℕ ℕ
    declarator_layer kind_layer params_layer spec_layer enumerator_layer expr_layer member_layer param_layer type_name_layer

abbrev pub spec_height : Spec → ℕ
spec_height = fold-Spec ℕ ℕ ℕ ℕ ℕ ℕ ℕ ℕ ℕ
    declarator_layer kind_layer params_layer spec_layer enumerator_layer expr_layer member_layer param_layer type_name_layer

abbrev pub params_height : Params → ℕ
params_height = fold-Params ℕ ℕ ℕ ℕ ℕ ℕ ℕ ℕ ℕ
    declarator_layer kind_layer params_layer spec_layer enumerator_layer expr_layer member_layer param_layer type_name_layer

abbrev pub enumerator_height : Enumerator → ℕ
enumerator_height = fold-Enumerator ℕ ℕ ℕ ℕ ℕ ℕ ℕ ℕ ℕ
    declarator_layer kind_layer params_layer spec_layer enumerator_layer expr_layer member_layer param_layer type_name_layer

abbrev pub member_height : MemberDecl → ℕ
member_height = fold-MemberDecl ℕ ℕ ℕ ℕ ℕ ℕ ℕ ℕ ℕ
    declarator_layer kind_layer params_layer spec_layer enumerator_layer expr_layer member_layer param_layer type_name_layer

abbrev pub param_height : Param → ℕ
param_height = fold-Param ℕ ℕ ℕ ℕ ℕ ℕ ℕ ℕ ℕ
    declarator_layer kind_layer params_layer spec_layer enumerator_layer expr_layer member_layer param_layer type_name_layer

abbrev pub type_name_height : TypeName → ℕ
type_name_height = fold-TypeName ℕ ℕ ℕ ℕ ℕ ℕ ℕ ℕ ℕ
    declarator_layer kind_layer params_layer spec_layer enumerator_layer expr_layer member_layer param_layer type_name_layer

abbrev pub specs_height : List Spec → ℕ
specs_height specs = highest (map spec_height specs)

-- An initialiser that is an expression is one node with it.
abbrev pub init_layer : Init-F ℕ → ℕ
init_layer (Init-F.Expr e) = expr_height e
init_layer (Init-F.List items place) = suc (highest items)

abbrev pub init_height : Init → ℕ
init_height = fold-Init ℕ init_layer

abbrev pub init_declarator_height : InitDeclarator → ℕ
init_declarator_height d = max (declarator_height d.declarator) (option_map_or init_height d.init 0)

abbrev pub declaration_height : List Spec → List InitDeclarator → ℕ
declaration_height specs declarators = max (specs_height specs) (highest (map init_declarator_height declarators))

abbrev pub optional_expr_height : Option Expr → ℕ
optional_expr_height e = option_map_or expr_height e 0

-- The declaration in the head of a for is part of the for.
abbrev pub head_height : ForHead → ℕ
head_height (head.Expr e) = optional_expr_height e
head_height (head.Declare specs declarators) = declaration_height specs declarators

abbrev pub stmt_layer : Stmt-F ℕ → ℕ
stmt_layer (Stmt-F.Block items place) = suc (highest items)
stmt_layer (Stmt-F.Declare specs declarators place) = suc (declaration_height specs declarators)
stmt_layer (Stmt-F.Expr e place) = suc (optional_expr_height e)
stmt_layer (Stmt-F.If test then_part else_part place) = suc (max (expr_height test) (max then_part (optional_height else_part)))
stmt_layer (Stmt-F.While test body place) = suc (max (expr_height test) body)
stmt_layer (Stmt-F.Do body test place) = suc (max body (expr_height test))
stmt_layer (Stmt-F.For head test step body place) = suc (highest (head_height head ∷ optional_expr_height test ∷ optional_expr_height step ∷ body ∷ []))
stmt_layer (Stmt-F.Switch subject items place) = suc (max (expr_height subject) (highest items))
stmt_layer (Stmt-F.Break place) = 1
stmt_layer (Stmt-F.Continue place) = 1
stmt_layer (Stmt-F.Return value place) = suc (optional_expr_height value)
stmt_layer (Stmt-F.Case value place) = suc (expr_height value)
stmt_layer (Stmt-F.Default place) = 1

abbrev pub stmt_height : Stmt → ℕ
stmt_height = fold-Stmt ℕ stmt_layer

abbrev pub external_height : External → ℕ
external_height (external.Header id place) = 1
external_height (external.Declaration specs declarators place) = suc (declaration_height specs declarators)
external_height (external.Function specs declarator body place) = suc (max (specs_height specs) (max (declarator_height declarator) (stmt_height body)))

-- how high a tree may be
abbrev pub highest_tree : ℕ
highest_tree = 400

-- Each external declaration is within the limit.
abbrev pub IsWithinHeight : FileTree → Type 0
IsWithinHeight file = All (λ x. external_height x ≤ highest_tree) file.externals
