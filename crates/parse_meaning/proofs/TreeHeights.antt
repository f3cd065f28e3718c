-- The number of a derivation is the height of its tree: expressions, type names, specifiers and declarators.
use Rattle.std.proofs.Common.{◌≡◌, ℕ, suc, max, List, map, Option, Some, None, subst, refl, ◌∙◌, arith}
use Rattle.std.specs.Option.{option_map}
use Rattle.fc_base.specs.declared.refusals.Place.{Place}
use Rattle.c_tokens.specs.declared.tokens.TokenKind.{TokenKind}
use Rattle.c_tokens.specs.declared.tokens.TokenKind.TheVariants as kind
use Rattle.c_tree.specs.declared.nodes.Declarator.{Declarator}
use Rattle.c_tree.specs.declared.nodes.Enumerator.{Enumerator}
use Rattle.c_tree.specs.declared.nodes.Expr.{Expr}
use Rattle.c_tree.specs.declared.nodes.ExprKind.{ExprKind}
use Rattle.c_tree.specs.declared.nodes.MemberDecl.{MemberDecl}
use Rattle.c_tree.specs.declared.nodes.Param.{Param}
use Rattle.c_tree.specs.declared.nodes.Params.{Params}
use Rattle.c_tree.specs.declared.nodes.Spec.{Spec}
use Rattle.c_tree.specs.declared.nodes.TypeName.{TypeName}
use Rattle.c_tree.specs.Heights.{highest, optional_height, declarator_height, params_height, spec_height, specs_height, enumerator_height, expr_height, member_height, param_height, type_name_height}
use Rattle.c_tree.proofs.NodeHeights.{kind_height-Name, kind_height-Number, kind_height-CharConst, kind_height-Str, kind_height-Comma, kind_height-Assign, kind_height-Cond, kind_height-Binary, kind_height-Cast, kind_height-Prefix, kind_height-Postfix, kind_height-SizeofExpr, kind_height-SizeofType, kind_height-Index, kind_height-Call, kind_height-Member, kind_height-SizeCall, declarator_height-Pointer, declarator_height-Name, declarator_height-Omitted, declarator_height-Array, declarator_height-Function, spec_height-Typedef, spec_height-Extern, spec_height-Static, spec_height-Inline, spec_height-Const, spec_height-Attributes, spec_height-Basic, spec_height-TypedefName, spec_height-Tagged, spec_height-Untagged, spec_height-Enum, spec_height-EnumTag, params_height-Empty, params_height-Void, params_height-List, expr_is, type_name_is, member_is, param_is, enumerator_is}
use Rattle.parse_meaning.specs.Terminals.{Lexeme}
use Rattle.parse_meaning.specs.Specifiers.{Context, Tally}
use Rattle.parse_meaning.specs.Expressions as g
use Rattle.parse_meaning.specs.Expressions.{IsExpr, AreExprs, IsTypeName, IsBound, IsAbstract, IsAbstractDirect, AreArrays, IsSpec, AreSpecsAny, AreSpecs, AreMembers, IsMember, AreDeclarators, AreEnumerators, IsEnumerator, IsDeclarator, IsDirect, AreParams, AreParamsSome, IsParam, Declared, constant_of, expr}

pub above : {a b c e : ℕ} → a ≡ c → b ≡ e → suc (max a b) ≡ suc (max c e)
above e f = cc

pub above3 : {a b c x y z : ℕ} → a ≡ x → b ≡ y → c ≡ z → suc (max a (max b c)) ≡ suc (max x (max y z))
above3 e f g = cc

pub beside : {a b c e : ℕ} → a ≡ c → b ≡ e → max a b ≡ max c e
beside e f = cc

pub alone : {a b : ℕ} → a ≡ b → max a 0 ≡ b
alone e = omega (arith, e)

pub over : {a b : ℕ} → a ≡ b → suc a ≡ suc b
over e = cc

same : {A : Type 0} {x y : A} → ◌≡◌ {A = Option A} (Some x) (Some y) → x ≡ y
same e = cc

nothing : {A : Type 0} {x : A} {B : Type 0} → ◌≡◌ {A = Option A} None (Some x) → B
nothing e = cc

constant_high : (o : TokenKind) (x : ExprKind) (place : Place) → constant_of o ≡ Some x → expr_height (expr x place) ≡ 1
constant_high (kind.Number v k) x place f = subst (λ y. expr_height (expr y place) ≡ 1) (same f) (expr_is _ place ∙ kind_height-Number v k)
constant_high (kind.CharConst b) x place f =
    subst (λ y. expr_height (expr y place) ≡ 1) (same f) (expr_is _ place ∙ kind_height-CharConst b)
constant_high (kind.Name n) x place f = nothing f
constant_high (kind.Str n) x place f = nothing f
constant_high (kind.Punct n) x place f = nothing f
constant_high (kind.HeaderName n) x place f = nothing f
constant_high (kind.Header n) x place f = nothing f

mutual
  pub expr_high : {l h : ℕ} {s t : List Lexeme} {x : Expr} → IsExpr l s x h t → expr_height x ≡ h
  expr_high (g.looser d) = expr_high d
  expr_high g.name = expr_is _ _ ∙ kind_height-Name _
  expr_high (g.constant {o = o} {x = x} f) = constant_high o.kind x o.place f
  expr_high (g.string d) = expr_is _ _ ∙ kind_height-Str _
  expr_high (g.parens d) = expr_high d
  expr_high (g.index d f) = expr_is _ _ ∙ kind_height-Index _ _ ∙ above (expr_high d) (expr_high f)
  expr_high (g.call_empty d) = expr_is _ _ ∙ kind_height-Call _ _ ∙ over (alone (expr_high d))
  expr_high (g.call d f) = expr_is _ _ ∙ kind_height-Call _ _ ∙ above (expr_high d) (exprs_high f)
  expr_high (g.member a b d) = expr_is _ _ ∙ kind_height-Member _ _ _ ∙ over (expr_high d)
  expr_high (g.stepped a d) = expr_is _ _ ∙ kind_height-Postfix _ _ ∙ over (expr_high d)
  expr_high (g.size_call d f) = expr_is _ _ ∙ kind_height-SizeCall _ _ ∙ above (expr_high d) (expr_high f)
  expr_high (g.prefixed a d) = expr_is _ _ ∙ kind_height-Prefix _ _ ∙ over (expr_high d)
  expr_high (g.sizeof_expr d) = expr_is _ _ ∙ kind_height-SizeofExpr _ ∙ over (expr_high d)
  expr_high (g.sizeof_type d) = expr_is _ _ ∙ kind_height-SizeofType _ ∙ over (type_name_high d)
  expr_high (g.conversion d f) = expr_is _ _ ∙ kind_height-Cast _ _ ∙ above (type_name_high d) (expr_high f)
  expr_high (g.operation a d f) = expr_is _ _ ∙ kind_height-Binary _ _ _ ∙ above (expr_high d) (expr_high f)
  expr_high (g.choice d f h) = expr_is _ _ ∙ kind_height-Cond _ _ _ ∙ above3 (expr_high d) (expr_high f) (expr_high h)
  expr_high (g.assigned a d f) = expr_is _ _ ∙ kind_height-Assign _ _ _ ∙ above (expr_high d) (expr_high f)
  expr_high (g.comma d f) = expr_is _ _ ∙ kind_height-Comma _ ∙ above (expr_high d) (exprs_high f)

  pub exprs_high : {h : ℕ} {s t : List Lexeme} {xs : List Expr} → AreExprs s xs h t → highest (map expr_height xs) ≡ h
  exprs_high (g.one_expr d) = alone (expr_high d)
  exprs_high (g.more_exprs d f) = beside (expr_high d) (exprs_high f)

  pub type_name_high : {h : ℕ} {s t : List Lexeme} {x : TypeName} → IsTypeName s x h t → type_name_height x ≡ h
  type_name_high (g.type_name d f) = type_name_is _ _ _ ∙ above (specs_high d) (abstract_high f)

  pub bound_high : {h : ℕ} {s t : List Lexeme} {x : Option Expr} → IsBound s x h t → optional_height (option_map expr_height x) ≡ h
  bound_high g.no_bound = refl
  bound_high (g.bound d) = expr_high d

  pub abstract_high : {place : Place} {h : ℕ} {s t : List Lexeme} {x : Declarator} → IsAbstract place s x h t → declarator_height x ≡ h
  abstract_high (g.abstract_plain d) = abstract_direct_high d
  abstract_high (g.abstract_pointer a d) = declarator_height-Pointer _ _ _ ∙ over (abstract_direct_high d)

  pub abstract_direct_high : {place : Place} {h : ℕ} {s t : List Lexeme} {x : Declarator} → IsAbstractDirect place s x h t
      → declarator_height x ≡ h
  abstract_direct_high (g.abstract_arrays d) = arrays_high d
  abstract_direct_high (g.abstract_group a d) =
      declarator_height-Array _ _ _ ∙ above (declarator_height-Pointer _ _ _ ∙ over (declarator_height-Omitted _)) (bound_high d)

  pub arrays_high : {place : Place} {h : ℕ} {s t : List Lexeme} {x : Declarator} → AreArrays place s x h t → declarator_height x ≡ h
  arrays_high g.omitted = declarator_height-Omitted _
  arrays_high (g.abstract_array d f) = declarator_height-Array _ _ _ ∙ above (arrays_high d) (bound_high f)

  pub spec_high : {c : Context} {a : Tally} {h : ℕ} {s t : List Lexeme} {x : Spec} → IsSpec c s x a h t → spec_height x ≡ h
  spec_high g.spec_typedef = spec_height-Typedef _
  spec_high g.spec_extern = spec_height-Extern _
  spec_high g.spec_static = spec_height-Static _
  spec_high g.spec_inline = spec_height-Inline _
  spec_high g.spec_const = spec_height-Const _
  spec_high (g.spec_attributes a) = spec_height-Attributes _ _
  spec_high (g.spec_basic a) = spec_height-Basic _ _
  spec_high g.spec_type = spec_height-TypedefName _ _
  spec_high (g.spec_tag a b) = spec_height-Tagged _ _ None _
  spec_high (g.spec_body a b c d) = spec_height-Tagged _ _ (Some _) _ ∙ over (members_high d)
  spec_high (g.spec_untagged a b d) = spec_height-Untagged _ _ _ ∙ over (members_high d)
  spec_high (g.spec_enum_tag a) = spec_height-EnumTag _ _
  spec_high (g.spec_enum_body a b d) = spec_height-Enum _ _ _ ∙ over (enumerators_high d)
  spec_high (g.spec_enum_untagged a d) = spec_height-Enum _ _ _ ∙ over (enumerators_high d)

  pub specs_any_high : {c : Context} {a : Tally} {h : ℕ} {s t : List Lexeme} {xs : List Spec} → AreSpecsAny c s xs a h t
      → specs_height xs ≡ h
  specs_any_high (g.one_spec d) = alone (spec_high d)
  specs_any_high (g.more_specs d f) = beside (spec_high d) (specs_any_high f)

  pub specs_high : {c : Context} {a : Tally} {h : ℕ} {s t : List Lexeme} {xs : List Spec} → AreSpecs c s xs a h t → specs_height xs ≡ h
  specs_high (g.specs d f) = specs_any_high d

  pub members_high : {h : ℕ} {s t : List Lexeme} {xs : List MemberDecl} → AreMembers s xs h t → highest (map member_height xs) ≡ h
  members_high (g.last_member d) = alone (member_high d)
  members_high (g.more_members d f) = beside (member_high d) (members_high f)

  pub member_high : {h : ℕ} {s t : List Lexeme} {x : MemberDecl} → IsMember s x h t → member_height x ≡ h
  member_high (g.member_decl d f) = member_is _ _ ∙ beside (specs_high d) (declarators_high f)

  pub declarators_high : {h : ℕ} {s t : List Lexeme} {xs : List Declarator} → AreDeclarators s xs h t
      → highest (map declarator_height xs) ≡ h
  declarators_high (g.last_declarator d) = alone (declarator_high d)
  declarators_high (g.more_declarators d f) = beside (declarator_high d) (declarators_high f)

  pub enumerators_high : {h : ℕ} {s t : List Lexeme} {xs : List Enumerator} → AreEnumerators s xs h t
      → highest (map enumerator_height xs) ≡ h
  enumerators_high (g.last_enumerator d) = alone (enumerator_high d)
  enumerators_high (g.last_enumerator_comma d) = alone (enumerator_high d)
  enumerators_high (g.more_enumerators d f) = beside (enumerator_high d) (enumerators_high f)

  pub enumerator_high : {h : ℕ} {s t : List Lexeme} {x : Enumerator} → IsEnumerator s x h t → enumerator_height x ≡ h
  enumerator_high g.enumerator = enumerator_is _ None
  enumerator_high (g.enumerator_valued d) = enumerator_is _ (Some _) ∙ expr_high d

  pub declarator_high : {n : Declared} {h : ℕ} {s t : List Lexeme} {x : Declarator} → IsDeclarator s x n h t → declarator_height x ≡ h
  declarator_high (g.declarator_plain d) = direct_high d
  declarator_high (g.declarator_pointer a d) = declarator_height-Pointer _ _ _ ∙ over (direct_high d)

  pub direct_high : {n : Declared} {h : ℕ} {s t : List Lexeme} {x : Declarator} → IsDirect s x n h t → declarator_height x ≡ h
  direct_high g.direct_name = declarator_height-Name _ _
  direct_high (g.direct_parens d) = declarator_high d
  direct_high (g.direct_array d f) = declarator_height-Array _ _ _ ∙ above (direct_high d) (bound_high f)
  direct_high (g.direct_function d f) = declarator_height-Function _ _ _ ∙ above (direct_high d) (params_high f)

  pub params_high : {h : ℕ} {s t : List Lexeme} {x : Params} → AreParams s x h t → params_height x ≡ h
  params_high g.no_params = params_height-Empty
  params_high g.void_params = params_height-Void
  params_high (g.some_params a d) = params_height-List _ ∙ params_some_high d

  pub params_some_high : {h : ℕ} {s t : List Lexeme} {xs : List Param} → AreParamsSome s xs h t → highest (map param_height xs) ≡ h
  params_some_high (g.last_param d) = alone (param_high d)
  params_some_high (g.more_params d f) = beside (param_high d) (params_some_high f)

  pub param_high : {h : ℕ} {s t : List Lexeme} {x : Param} → IsParam s x h t → param_height x ≡ h
  param_high (g.param_named d f) = param_is _ _ ∙ beside (specs_high d) (declarator_high f)
  param_high (g.param_abstract d f) = param_is _ _ ∙ beside (specs_high d) (abstract_high f)
