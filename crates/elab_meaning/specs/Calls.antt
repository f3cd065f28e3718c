-- The names that a written file calls, in the order of the tree: the called name stands before its arguments. Every call counts, in bounds
-- and under sizeof too.
use Rattle.std.specs.Prelude.{List, [], ◌∷◌, ◌++◌, flat_map, Option, None, Some}
use Rattle.std.specs.Option.{option_map_or}
use Rattle.fc_base.specs.declared.refusals.Place.{Place}
use Rattle.c_tree.specs.declared.externals.External.{External}
use Rattle.c_tree.specs.declared.externals.External.TheVariants as external
use Rattle.c_tree.specs.declared.nodes.Declarator.{Declarator, fold-Declarator}
use Rattle.c_tree.specs.declared.nodes.Declarator.TheOpen.{Declarator-F, ExprKind-F, Params-F, Spec-F, Enumerator-F, Expr-F, MemberDecl-F, Param-F, TypeName-F}
use Rattle.c_tree.specs.declared.nodes.Expr.{Expr, fold-Expr}
use Rattle.c_tree.specs.declared.nodes.Spec.{Spec, fold-Spec}
use Rattle.c_tree.specs.declared.statements.ForHead.{ForHead}
use Rattle.c_tree.specs.declared.statements.ForHead.TheVariants as head
use Rattle.c_tree.specs.declared.statements.Init.{fold-Init}
use Rattle.c_tree.specs.declared.statements.Init.TheOpen.{Init-F}
use Rattle.c_tree.specs.declared.statements.InitDeclarator.{InitDeclarator}
use Rattle.c_tree.specs.declared.statements.Stmt.{fold-Stmt}
use Rattle.c_tree.specs.declared.statements.Stmt.TheOpen.{Stmt-F}
use Rattle.elab_meaning.specs.Scope.{Name}

pub record CalledName : Type 0 where
  pub name : Name
  pub place : Place

abbrev Names : Type 0
Names = List CalledName

-- an expression: the name that it is, if it is one, its place, and the names that it calls
pub record Part : Type 0 where
  pub name : Option Name
  pub place : Place
  pub names : Names

pub record KindPart : Type 0 where
  pub name : Option Name
  pub names : Names

abbrev pub optional : {A : Type 0} → (A → Names) → Option A → Names
optional f x = option_map_or f x []

abbrev pub all : List Part → Names
all = flat_map (λ p. p.names)

abbrev pub lists : List Names → Names
lists = flat_map (λ ns. ns)

abbrev pub called : Part → Names
called p = option_map_or (λ name. record { name = name; place = p.place } ∷ []) p.name []

abbrev pub no_name : Names → KindPart
no_name names = record { name = None; names = names }

abbrev pub declarator_layer : Declarator-F Names KindPart Names Names Names Part Names Names Names → Names
declarator_layer (Declarator-F.Pointer words of place) = of
declarator_layer (Declarator-F.«Declarator::Name» name place) = []
declarator_layer (Declarator-F.Omitted place) = []
declarator_layer (Declarator-F.Array of bound place) = of ++ optional (λ p. p.names) bound
declarator_layer (Declarator-F.Function of params place) = of ++ params

abbrev pub kind_layer : ExprKind-F Names KindPart Names Names Names Part Names Names Names → KindPart
kind_layer (ExprKind-F.«ExprKind::Name» name) = record { name = Some name; names = [] }
kind_layer (ExprKind-F.Number value kind) = no_name []
kind_layer (ExprKind-F.CharConst byte) = no_name []
kind_layer (ExprKind-F.Str text) = no_name []
kind_layer (ExprKind-F.Comma ps) = no_name (all ps)
kind_layer (ExprKind-F.Assign op to from) = no_name (to.names ++ from.names)
kind_layer (ExprKind-F.Cond test a b) = no_name (test.names ++ a.names ++ b.names)
kind_layer (ExprKind-F.Binary op a b) = no_name (a.names ++ b.names)
kind_layer (ExprKind-F.Cast to of) = no_name (to ++ of.names)
kind_layer (ExprKind-F.Prefix op of) = no_name of.names
kind_layer (ExprKind-F.Postfix op of) = no_name of.names
kind_layer (ExprKind-F.SizeofExpr of) = no_name of.names
kind_layer (ExprKind-F.SizeofType of) = no_name of
kind_layer (ExprKind-F.Index base index) = no_name (base.names ++ index.names)
kind_layer (ExprKind-F.Call callee args) = no_name (called callee ++ callee.names ++ all args)
kind_layer (ExprKind-F.Member base arrow name) = no_name base.names
kind_layer (ExprKind-F.SizeCall pointer mode) = no_name (pointer.names ++ mode.names)

abbrev pub params_layer : Params-F Names KindPart Names Names Names Part Names Names Names → Names
params_layer Params-F.Empty = []
params_layer Params-F.Void = []
params_layer (Params-F.List params) = lists params

abbrev pub spec_layer : Spec-F Names KindPart Names Names Names Part Names Names Names → Names
spec_layer (Spec-F.Tagged aggregate tag members place) = optional lists members
spec_layer (Spec-F.Untagged aggregate members place) = lists members
spec_layer (Spec-F.Enum tag enumerators place) = lists enumerators
spec_layer _ = []

abbrev pub enumerator_layer : Enumerator-F Names KindPart Names Names Names Part Names Names Names → Names
enumerator_layer e = optional (λ p. p.names) e.value

abbrev pub expr_layer : Expr-F Names KindPart Names Names Names Part Names Names Names → Part
expr_layer e = record { name = e.kind.name; place = e.place; names = e.kind.names }

abbrev pub member_layer : MemberDecl-F Names KindPart Names Names Names Part Names Names Names → Names
member_layer m = lists m.specs ++ lists m.declarators

abbrev pub param_layer : Param-F Names KindPart Names Names Names Part Names Names Names → Names
param_layer p = lists p.specs ++ p.declarator

abbrev pub type_name_layer : TypeName-F Names KindPart Names Names Names Part Names Names Names → Names
type_name_layer t = lists t.specs ++ t.declarator

abbrev pub expr_calls : Expr → Names
expr_calls x = (fold-Expr Names KindPart Names Names Names Part Names Names Names
    declarator_layer kind_layer params_layer spec_layer enumerator_layer expr_layer member_layer param_layer type_name_layer x).names

abbrev pub declarator_calls : Declarator → Names
declarator_calls = fold-Declarator Names KindPart Names Names Names Part Names Names Names
    declarator_layer kind_layer params_layer spec_layer enumerator_layer expr_layer member_layer param_layer type_name_layer

abbrev pub spec_calls : Spec → Names
spec_calls = fold-Spec Names KindPart Names Names Names Part Names Names Names
    declarator_layer kind_layer params_layer spec_layer enumerator_layer expr_layer member_layer param_layer type_name_layer

abbrev pub init_layer : Init-F Names → Names
init_layer (Init-F.Expr x) = expr_calls x
init_layer (Init-F.List items place) = lists items

abbrev pub init_declarator_calls : InitDeclarator → Names
init_declarator_calls d = declarator_calls d.declarator ++ optional (fold-Init Names init_layer) d.init

abbrev pub declaration_calls : List Spec → List InitDeclarator → Names
declaration_calls specs ds = flat_map spec_calls specs ++ flat_map init_declarator_calls ds

abbrev pub head_calls : ForHead → Names
head_calls (head.Expr x) = optional expr_calls x
head_calls (head.Declare specs ds) = declaration_calls specs ds

abbrev pub stmt_layer : Stmt-F Names → Names
stmt_layer (Stmt-F.Block items place) = lists items
stmt_layer (Stmt-F.Declare specs ds place) = declaration_calls specs ds
stmt_layer (Stmt-F.Expr x place) = optional expr_calls x
stmt_layer (Stmt-F.If test a b place) = expr_calls test ++ a ++ optional (λ ns. ns) b
stmt_layer (Stmt-F.While test body place) = expr_calls test ++ body
stmt_layer (Stmt-F.Do body test place) = body ++ expr_calls test
stmt_layer (Stmt-F.For before test step body place) = head_calls before ++ optional expr_calls test ++ optional expr_calls step ++ body
stmt_layer (Stmt-F.Switch subject items place) = expr_calls subject ++ lists items
stmt_layer (Stmt-F.Return x place) = optional expr_calls x
stmt_layer (Stmt-F.Case x place) = expr_calls x
stmt_layer _ = []

abbrev pub external_calls : External → List CalledName
external_calls (external.Header id place) = []
external_calls (external.Declaration specs ds place) = declaration_calls specs ds
external_calls (external.Function specs d body place) = flat_map spec_calls specs ++ declarator_calls d ++ fold-Stmt Names stmt_layer body
