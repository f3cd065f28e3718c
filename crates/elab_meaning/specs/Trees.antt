-- The nodes of the written tree put together: how each part of it is typed (fold over the tree, from its leaves up).
use Rattle.std.specs.Prelude.{[], Result, Ok, Err}
use Rattle.fc_base.specs.declared.refusals.Refusal.{Refusal}
use Rattle.c_tree.specs.declared.nodes.Declarator.{Declarator, fold-Declarator}
use Rattle.c_tree.specs.declared.nodes.Enumerator.{Enumerator, fold-Enumerator}
use Rattle.c_tree.specs.declared.nodes.Expr.{Expr, fold-Expr}
use Rattle.c_tree.specs.declared.nodes.MemberDecl.{MemberDecl, fold-MemberDecl}
use Rattle.c_tree.specs.declared.nodes.Param.{Param, fold-Param}
use Rattle.c_tree.specs.declared.nodes.Params.{Params, fold-Params}
use Rattle.c_tree.specs.declared.nodes.Spec.{Spec, fold-Spec}
use Rattle.c_tree.specs.declared.nodes.TypeName.{TypeName, fold-TypeName}
use Rattle.c_tree.specs.declared.typed.TypedExpr.{TypedExpr}
use Rattle.elab_meaning.specs.Scope.{Scope}
use Rattle.elab_meaning.specs.Typing.{State, nothing_beside}
use Rattle.elab_meaning.specs.Parts.{ReadExpr, ReadKind, ReadTypeName, ReadSpec, ReadParam, ReadParams, ReadDeclarator, ReadMembers, ReadEnumerator}
use Rattle.elab_meaning.specs.Expressions.{kind_layer, expr_layer}
use Rattle.elab_meaning.specs.Declarations.{declarator_layer, params_layer, spec_layer, enumerator_layer, member_layer, param_layer, type_name_layer}

abbrev pub read_expr : Expr → ReadExpr
read_expr = fold-Expr ReadDeclarator ReadKind ReadParams ReadSpec ReadEnumerator ReadExpr ReadMembers ReadParam ReadTypeName
    declarator_layer kind_layer params_layer spec_layer enumerator_layer expr_layer member_layer param_layer type_name_layer

abbrev pub read_declarator : Declarator → ReadDeclarator
read_declarator = fold-Declarator ReadDeclarator ReadKind ReadParams ReadSpec ReadEnumerator ReadExpr ReadMembers ReadParam ReadTypeName
    declarator_layer kind_layer params_layer spec_layer enumerator_layer expr_layer member_layer param_layer type_name_layer

abbrev pub read_spec : Spec → ReadSpec
read_spec = fold-Spec ReadDeclarator ReadKind ReadParams ReadSpec ReadEnumerator ReadExpr ReadMembers ReadParam ReadTypeName
    declarator_layer kind_layer params_layer spec_layer enumerator_layer expr_layer member_layer param_layer type_name_layer

abbrev pub read_type_name : TypeName → ReadTypeName
read_type_name = fold-TypeName ReadDeclarator ReadKind ReadParams ReadSpec ReadEnumerator ReadExpr ReadMembers ReadParam ReadTypeName
    declarator_layer kind_layer params_layer spec_layer enumerator_layer expr_layer member_layer param_layer type_name_layer

abbrev pub read_params : Params → ReadParams
read_params = fold-Params ReadDeclarator ReadKind ReadParams ReadSpec ReadEnumerator ReadExpr ReadMembers ReadParam ReadTypeName
    declarator_layer kind_layer params_layer spec_layer enumerator_layer expr_layer member_layer param_layer type_name_layer

abbrev pub read_param : Param → ReadParam
read_param = fold-Param ReadDeclarator ReadKind ReadParams ReadSpec ReadEnumerator ReadExpr ReadMembers ReadParam ReadTypeName
    declarator_layer kind_layer params_layer spec_layer enumerator_layer expr_layer member_layer param_layer type_name_layer

abbrev pub read_member : MemberDecl → ReadMembers
read_member = fold-MemberDecl ReadDeclarator ReadKind ReadParams ReadSpec ReadEnumerator ReadExpr ReadMembers ReadParam ReadTypeName
    declarator_layer kind_layer params_layer spec_layer enumerator_layer expr_layer member_layer param_layer type_name_layer

abbrev pub read_enumerator : Enumerator → ReadEnumerator
read_enumerator = fold-Enumerator ReadDeclarator ReadKind ReadParams ReadSpec ReadEnumerator ReadExpr ReadMembers ReadParam ReadTypeName
    declarator_layer kind_layer params_layer spec_layer enumerator_layer expr_layer member_layer param_layer type_name_layer

-- ---- an expression in a scope

abbrev pub in_scope : Scope → State
in_scope scope = record { scope = scope; beside = nothing_beside [] }

abbrev pub with_scope : Result (TypedExpr × State) Refusal → Result (TypedExpr × Scope) Refusal
with_scope (Ok (e, s)) = Ok (e, s.scope)
with_scope (Err r) = Err r

-- An expression before any conversion of its context, and the scope behind it; or the first rule that it breaks.
abbrev pub expr : Expr → Scope → Result (TypedExpr × Scope) Refusal
expr e scope = with_scope ((read_expr e).typed (in_scope scope))
