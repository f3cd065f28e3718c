-- The height of each node of an expression, specifier or declarator, by its parts.
use Rattle.std.proofs.Common.{◌≡◌, ℕ, suc, max, List, map, Bool, Option, Some, None, sym, ap, ◌∙◌}
use Rattle.std.specs.Option.{option_map, option_map_or}
use Rattle.fc_base.specs.declared.refusals.Place.{Place}
use Rattle.c_tokens.specs.declared.tokens.NumberKind.{NumberKind}
use Rattle.c_tree.specs.declared.operators.AssignOp.{AssignOp}
use Rattle.c_tree.specs.declared.operators.BinaryOp.{BinaryOp}
use Rattle.c_tree.specs.declared.operators.PrefixOp.{PrefixOp}
use Rattle.c_tree.specs.declared.operators.PostfixOp.{PostfixOp}
use Rattle.c_tree.specs.declared.nodes.Aggregate.{Aggregate}
use Rattle.c_tree.specs.declared.nodes.Attribute.{Attribute}
use Rattle.c_tree.specs.declared.nodes.BasicWord.{BasicWord}
use Rattle.c_tree.specs.declared.nodes.Declarator.{Declarator, roll-Declarator, map-Declarator}
use Rattle.c_tree.specs.declared.nodes.Declarator.TheFolds.{fold-roll-Declarator, fold-roll-ExprKind, fold-roll-Params, fold-roll-Spec, fold-roll-Enumerator, fold-roll-Expr, fold-roll-MemberDecl, fold-roll-Param, fold-roll-TypeName}
use Rattle.c_tree.specs.declared.nodes.Declarator.TheOpen.{Declarator-F, ExprKind-F, Params-F, Spec-F}
use Rattle.c_tree.specs.declared.nodes.Declarator.TheVariants as d
use Rattle.c_tree.specs.declared.nodes.Enumerator.{Enumerator, roll-Enumerator}
use Rattle.c_tree.specs.declared.nodes.Expr.{Expr, roll-Expr}
use Rattle.c_tree.specs.declared.nodes.ExprKind.{ExprKind, roll-ExprKind, map-ExprKind}
use Rattle.c_tree.specs.declared.nodes.ExprKind.TheVariants as e
use Rattle.c_tree.specs.declared.nodes.Identifier.{Identifier}
use Rattle.c_tree.specs.declared.nodes.MemberDecl.{MemberDecl, roll-MemberDecl}
use Rattle.c_tree.specs.declared.nodes.Param.{Param, roll-Param}
use Rattle.c_tree.specs.declared.nodes.Params.{Params, roll-Params, map-Params}
use Rattle.c_tree.specs.declared.nodes.Params.TheVariants as ps
use Rattle.c_tree.specs.declared.nodes.PointerWord.{PointerWord}
use Rattle.c_tree.specs.declared.nodes.Spec.{Spec, roll-Spec, map-Spec}
use Rattle.c_tree.specs.declared.nodes.Spec.TheVariants as sp
use Rattle.c_tree.specs.declared.nodes.TypeName.{TypeName, roll-TypeName}
use Rattle.c_tree.specs.Heights.{highest, optional_height, declarator_layer, kind_layer, params_layer, spec_layer, enumerator_layer, expr_layer, member_layer, param_layer, type_name_layer, declarator_height, kind_height, params_height, spec_height, specs_height, enumerator_height, expr_height, member_height, param_height, type_name_height}

declarator-roll : (d : Declarator-F Declarator ExprKind Params Spec Enumerator Expr MemberDecl Param TypeName) → declarator_height (roll-Declarator d) ≡
    declarator_layer (map-Declarator Declarator ExprKind Params Spec Enumerator Expr MemberDecl Param TypeName ℕ ℕ ℕ ℕ ℕ ℕ ℕ ℕ ℕ
    declarator_height kind_height params_height spec_height enumerator_height expr_height member_height param_height type_name_height d)
declarator-roll = fold-roll-Declarator ℕ ℕ ℕ ℕ ℕ ℕ ℕ ℕ ℕ
    declarator_layer kind_layer params_layer spec_layer enumerator_layer expr_layer member_layer param_layer type_name_layer

kind-roll : (d : ExprKind-F Declarator ExprKind Params Spec Enumerator Expr MemberDecl Param TypeName) → kind_height (roll-ExprKind d) ≡
    kind_layer (map-ExprKind Declarator ExprKind Params Spec Enumerator Expr MemberDecl Param TypeName ℕ ℕ ℕ ℕ ℕ ℕ ℕ ℕ ℕ
    declarator_height kind_height params_height spec_height enumerator_height expr_height member_height param_height type_name_height d)
kind-roll = fold-roll-ExprKind ℕ ℕ ℕ ℕ ℕ ℕ ℕ ℕ ℕ
    declarator_layer kind_layer params_layer spec_layer enumerator_layer expr_layer member_layer param_layer type_name_layer

params-roll : (d : Params-F Declarator ExprKind Params Spec Enumerator Expr MemberDecl Param TypeName) → params_height (roll-Params d) ≡
    params_layer (map-Params Declarator ExprKind Params Spec Enumerator Expr MemberDecl Param TypeName ℕ ℕ ℕ ℕ ℕ ℕ ℕ ℕ ℕ
    declarator_height kind_height params_height spec_height enumerator_height expr_height member_height param_height type_name_height d)
params-roll = fold-roll-Params ℕ ℕ ℕ ℕ ℕ ℕ ℕ ℕ ℕ
    declarator_layer kind_layer params_layer spec_layer enumerator_layer expr_layer member_layer param_layer type_name_layer

spec-roll : (d : Spec-F Declarator ExprKind Params Spec Enumerator Expr MemberDecl Param TypeName) → spec_height (roll-Spec d) ≡
    spec_layer (map-Spec Declarator ExprKind Params Spec Enumerator Expr MemberDecl Param TypeName ℕ ℕ ℕ ℕ ℕ ℕ ℕ ℕ ℕ
    declarator_height kind_height params_height spec_height enumerator_height expr_height member_height param_height type_name_height d)
spec-roll = fold-roll-Spec ℕ ℕ ℕ ℕ ℕ ℕ ℕ ℕ ℕ
    declarator_layer kind_layer params_layer spec_layer enumerator_layer expr_layer member_layer param_layer type_name_layer

pub kind_height-Name : (n : List ℕ) → kind_height (e.Name n) ≡ 1
kind_height-Name n = ap kind_height (sym (e.rolls-Name n)) ∙ kind-roll _

pub kind_height-Number : (v : ℕ) (k : NumberKind) → kind_height (e.Number v k) ≡ 1
kind_height-Number v k = ap kind_height (sym (e.rolls-Number v k)) ∙ kind-roll _

pub kind_height-CharConst : (b : ℕ) → kind_height (e.CharConst b) ≡ 1
kind_height-CharConst b = ap kind_height (sym (e.rolls-CharConst b)) ∙ kind-roll _

pub kind_height-Str : (t : List ℕ) → kind_height (e.Str t) ≡ 1
kind_height-Str t = ap kind_height (sym (e.rolls-Str t)) ∙ kind-roll _

pub kind_height-Comma : (xs : List Expr) → kind_height (e.Comma xs) ≡ suc (highest (map expr_height xs))
kind_height-Comma xs = ap kind_height (sym (e.rolls-Comma xs)) ∙ kind-roll _

pub kind_height-Assign : (op : AssignOp) (x : Expr) (y : Expr) → kind_height (e.Assign op x y) ≡ suc (max (expr_height x) (expr_height y))
kind_height-Assign op x y = ap kind_height (sym (e.rolls-Assign op x y)) ∙ kind-roll _

pub kind_height-Cond : (x : Expr) (y : Expr) (z : Expr) → kind_height (e.Cond x y z) ≡ suc (max (expr_height x) (max (expr_height y) (expr_height z)))
kind_height-Cond x y z = ap kind_height (sym (e.rolls-Cond x y z)) ∙ kind-roll _

pub kind_height-Binary : (op : BinaryOp) (x : Expr) (y : Expr) → kind_height (e.Binary op x y) ≡ suc (max (expr_height x) (expr_height y))
kind_height-Binary op x y = ap kind_height (sym (e.rolls-Binary op x y)) ∙ kind-roll _

pub kind_height-Cast : (t : TypeName) (x : Expr) → kind_height (e.Cast t x) ≡ suc (max (type_name_height t) (expr_height x))
kind_height-Cast t x = ap kind_height (sym (e.rolls-Cast t x)) ∙ kind-roll _

pub kind_height-Prefix : (op : PrefixOp) (x : Expr) → kind_height (e.Prefix op x) ≡ suc (expr_height x)
kind_height-Prefix op x = ap kind_height (sym (e.rolls-Prefix op x)) ∙ kind-roll _

pub kind_height-Postfix : (op : PostfixOp) (x : Expr) → kind_height (e.Postfix op x) ≡ suc (expr_height x)
kind_height-Postfix op x = ap kind_height (sym (e.rolls-Postfix op x)) ∙ kind-roll _

pub kind_height-SizeofExpr : (x : Expr) → kind_height (e.SizeofExpr x) ≡ suc (expr_height x)
kind_height-SizeofExpr x = ap kind_height (sym (e.rolls-SizeofExpr x)) ∙ kind-roll _

pub kind_height-SizeofType : (t : TypeName) → kind_height (e.SizeofType t) ≡ suc (type_name_height t)
kind_height-SizeofType t = ap kind_height (sym (e.rolls-SizeofType t)) ∙ kind-roll _

pub kind_height-Index : (x : Expr) (y : Expr) → kind_height (e.Index x y) ≡ suc (max (expr_height x) (expr_height y))
kind_height-Index x y = ap kind_height (sym (e.rolls-Index x y)) ∙ kind-roll _

pub kind_height-Call : (x : Expr) (xs : List Expr) → kind_height (e.Call x xs) ≡ suc (max (expr_height x) (highest (map expr_height xs)))
kind_height-Call x xs = ap kind_height (sym (e.rolls-Call x xs)) ∙ kind-roll _

pub kind_height-Member : (x : Expr) (arrow : Bool) (n : List ℕ) → kind_height (e.Member x arrow n) ≡ suc (expr_height x)
kind_height-Member x arrow n = ap kind_height (sym (e.rolls-Member x arrow n)) ∙ kind-roll _

pub kind_height-SizeCall : (x : Expr) (y : Expr) → kind_height (e.SizeCall x y) ≡ suc (max (expr_height x) (expr_height y))
kind_height-SizeCall x y = ap kind_height (sym (e.rolls-SizeCall x y)) ∙ kind-roll _

pub declarator_height-Pointer : (ws : List PointerWord) (x : Declarator) (l : Place) → declarator_height (d.Pointer ws x l) ≡ suc (declarator_height x)
declarator_height-Pointer ws x l = ap declarator_height (sym (d.rolls-Pointer ws x l)) ∙ declarator-roll _

pub declarator_height-Name : (n : List ℕ) (l : Place) → declarator_height (d.Name n l) ≡ 1
declarator_height-Name n l = ap declarator_height (sym (d.rolls-Name n l)) ∙ declarator-roll _

pub declarator_height-Omitted : (l : Place) → declarator_height (d.Omitted l) ≡ 1
declarator_height-Omitted l = ap declarator_height (sym (d.rolls-Omitted l)) ∙ declarator-roll _

pub declarator_height-Array : (x : Declarator) (y : Option Expr) (l : Place) → declarator_height (d.Array x y l) ≡ suc (max (declarator_height x) (optional_height (option_map expr_height y)))
declarator_height-Array x None l = ap declarator_height (sym (d.rolls-Array x None l)) ∙ declarator-roll _
declarator_height-Array x (Some y) l = ap declarator_height (sym (d.rolls-Array x (Some y) l)) ∙ declarator-roll _

pub declarator_height-Function : (x : Declarator) (ps : Params) (l : Place) → declarator_height (d.Function x ps l) ≡ suc (max (declarator_height x) (params_height ps))
declarator_height-Function x ps l = ap declarator_height (sym (d.rolls-Function x ps l)) ∙ declarator-roll _

pub spec_height-Typedef : (l : Place) → spec_height (sp.Typedef l) ≡ 1
spec_height-Typedef l = ap spec_height (sym (sp.rolls-Typedef l)) ∙ spec-roll _

pub spec_height-Extern : (l : Place) → spec_height (sp.Extern l) ≡ 1
spec_height-Extern l = ap spec_height (sym (sp.rolls-Extern l)) ∙ spec-roll _

pub spec_height-Static : (l : Place) → spec_height (sp.Static l) ≡ 1
spec_height-Static l = ap spec_height (sym (sp.rolls-Static l)) ∙ spec-roll _

pub spec_height-Inline : (l : Place) → spec_height (sp.Inline l) ≡ 1
spec_height-Inline l = ap spec_height (sym (sp.rolls-Inline l)) ∙ spec-roll _

pub spec_height-Const : (l : Place) → spec_height (sp.Const l) ≡ 1
spec_height-Const l = ap spec_height (sym (sp.rolls-Const l)) ∙ spec-roll _

pub spec_height-Attributes : (xs : List Attribute) (l : Place) → spec_height (sp.Attributes xs l) ≡ 1
spec_height-Attributes xs l = ap spec_height (sym (sp.rolls-Attributes xs l)) ∙ spec-roll _

pub spec_height-Basic : (w : BasicWord) (l : Place) → spec_height (sp.Basic w l) ≡ 1
spec_height-Basic w l = ap spec_height (sym (sp.rolls-Basic w l)) ∙ spec-roll _

pub spec_height-TypedefName : (n : List ℕ) (l : Place) → spec_height (sp.TypedefName n l) ≡ 1
spec_height-TypedefName n l = ap spec_height (sym (sp.rolls-TypedefName n l)) ∙ spec-roll _

pub spec_height-Tagged : (a : Aggregate) (t : Identifier) (ms : Option (List MemberDecl)) (l : Place) → spec_height (sp.Tagged a t ms l) ≡ suc (option_map_or (λ ms. highest (map member_height ms)) ms 0)
spec_height-Tagged a t None l = ap spec_height (sym (sp.rolls-Tagged a t None l)) ∙ spec-roll _
spec_height-Tagged a t (Some ms) l = ap spec_height (sym (sp.rolls-Tagged a t (Some ms) l)) ∙ spec-roll _

pub spec_height-Untagged : (a : Aggregate) (ms : List MemberDecl) (l : Place) → spec_height (sp.Untagged a ms l) ≡ suc (highest (map member_height ms))
spec_height-Untagged a ms l = ap spec_height (sym (sp.rolls-Untagged a ms l)) ∙ spec-roll _

pub spec_height-Enum : (t : Option Identifier) (xs : List Enumerator) (l : Place) → spec_height (sp.Enum t xs l) ≡ suc (highest (map enumerator_height xs))
spec_height-Enum t xs l = ap spec_height (sym (sp.rolls-Enum t xs l)) ∙ spec-roll _

pub spec_height-EnumTag : (t : Identifier) (l : Place) → spec_height (sp.EnumTag t l) ≡ 1
spec_height-EnumTag t l = ap spec_height (sym (sp.rolls-EnumTag t l)) ∙ spec-roll _

pub params_height-Empty : params_height ps.Empty ≡ 0
params_height-Empty = ap params_height (sym ps.rolls-Empty) ∙ params-roll _

pub params_height-Void : params_height ps.Void ≡ 0
params_height-Void = ap params_height (sym ps.rolls-Void) ∙ params-roll _

pub params_height-List : (xs : List Param) → params_height (ps.List xs) ≡ highest (map param_height xs)
params_height-List xs = ap params_height (sym (ps.rolls-List xs)) ∙ params-roll _

pub expr_is : (k : ExprKind) (l : Place) → expr_height (roll-Expr (record { kind = k; place = l })) ≡ kind_height k
expr_is k l = fold-roll-Expr ℕ ℕ ℕ ℕ ℕ ℕ ℕ ℕ ℕ
    declarator_layer kind_layer params_layer spec_layer enumerator_layer expr_layer member_layer param_layer type_name_layer _

pub type_name_is : (xs : List Spec) (x : Declarator) (l : Place) → type_name_height (roll-TypeName (record { specs = xs; declarator = x; place = l })) ≡ suc (max (specs_height xs) (declarator_height x))
type_name_is xs x l = fold-roll-TypeName ℕ ℕ ℕ ℕ ℕ ℕ ℕ ℕ ℕ
    declarator_layer kind_layer params_layer spec_layer enumerator_layer expr_layer member_layer param_layer type_name_layer _

pub member_is : (xs : List Spec) (ys : List Declarator) → member_height (roll-MemberDecl (record { specs = xs; declarators = ys })) ≡ max (specs_height xs) (highest (map declarator_height ys))
member_is xs ys = fold-roll-MemberDecl ℕ ℕ ℕ ℕ ℕ ℕ ℕ ℕ ℕ
    declarator_layer kind_layer params_layer spec_layer enumerator_layer expr_layer member_layer param_layer type_name_layer _

pub param_is : (xs : List Spec) (x : Declarator) → param_height (roll-Param (record { specs = xs; declarator = x })) ≡ max (specs_height xs) (declarator_height x)
param_is xs x = fold-roll-Param ℕ ℕ ℕ ℕ ℕ ℕ ℕ ℕ ℕ
    declarator_layer kind_layer params_layer spec_layer enumerator_layer expr_layer member_layer param_layer type_name_layer _

pub enumerator_is : (n : Identifier) (x : Option Expr) → enumerator_height (roll-Enumerator (record { name = n; value = x })) ≡ optional_height (option_map expr_height x)
enumerator_is n None = fold-roll-Enumerator ℕ ℕ ℕ ℕ ℕ ℕ ℕ ℕ ℕ
    declarator_layer kind_layer params_layer spec_layer enumerator_layer expr_layer member_layer param_layer type_name_layer _
enumerator_is n (Some x) = fold-roll-Enumerator ℕ ℕ ℕ ℕ ℕ ℕ ℕ ℕ ℕ
    declarator_layer kind_layer params_layer spec_layer enumerator_layer expr_layer member_layer param_layer type_name_layer _
