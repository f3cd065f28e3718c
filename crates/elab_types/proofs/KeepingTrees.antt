-- Whatever is typed leaves complete and open structures and unions as they were: induction on the written tree.
use Rattle.std.proofs.Common.{◌≡◌, ℕ, ℤ, List, [], ◌∷◌, map, Option, None, Some, refl, subst}
use Rattle.std.specs.Option.{option_map}
use Rattle.fc_base.specs.declared.refusals.Place.{Place}
use Rattle.c_tree.specs.declared.nodes.Declarator.{Declarator, roll-Declarator, map-Declarator}
use Rattle.c_tree.specs.declared.nodes.Declarator.TheFolds.{fold-roll-Declarator, fold-roll-ExprKind, fold-roll-Params, fold-roll-Spec, fold-roll-Enumerator, fold-roll-Expr, fold-roll-MemberDecl, fold-roll-Param, fold-roll-TypeName, ind-Declarator, ind-Spec, ind-Expr, ind-MemberDecl, ind-TypeName}
use Rattle.c_tree.specs.declared.nodes.Declarator.TheOpen.{Declarator-F, ExprKind-F, Params-F, Spec-F, Enumerator-F, Expr-F, MemberDecl-F, Param-F, TypeName-F}
use Rattle.c_tree.specs.declared.nodes.Enumerator.{Enumerator, roll-Enumerator, map-Enumerator}
use Rattle.c_tree.specs.declared.nodes.Expr.{Expr, roll-Expr, map-Expr}
use Rattle.c_tree.specs.declared.nodes.ExprKind.{ExprKind, roll-ExprKind, map-ExprKind, fold-ExprKind}
use Rattle.c_tree.specs.declared.nodes.Identifier.{Identifier}
use Rattle.c_tree.specs.declared.nodes.MemberDecl.{MemberDecl, roll-MemberDecl, map-MemberDecl}
use Rattle.c_tree.specs.declared.nodes.Param.{Param, roll-Param, map-Param}
use Rattle.c_tree.specs.declared.nodes.Params.{Params, roll-Params, map-Params}
use Rattle.c_tree.specs.declared.nodes.Spec.{Spec, roll-Spec, map-Spec}
use Rattle.c_tree.specs.declared.nodes.TypeName.{TypeName, roll-TypeName, map-TypeName}
use Rattle.std.specs.Prelude.{is_some, not, ◌||◌}
use Rattle.fc_base.specs.declared.rules.Rule.TheVariants.{Redeclared, IncompleteType, BadType, LimitObject, ByValue, FunctionPointer, LimitArguments}
use Rattle.c_layout.specs.Types.{is_structure}
use Rattle.elab_meaning.specs.declared.names.NameUse.TheVariants.{Local, Constant}
use Rattle.elab_meaning.specs.Conversions.{has_size}
use Rattle.elab_meaning.specs.Scope.{add, lookup}
use Rattle.elab_meaning.specs.Typing.{◌>>=◌, change, first, pure}
use Rattle.elab_types.proofs.Nodes.{param_named}
use Rattle.elab_meaning.specs.Parts.{array, ReadExpr, ReadKind, ReadTypeName, ReadSpec, ReadParam, ReadParams, ReadDeclarator, ReadMembers, ReadEnumerator}
use Rattle.elab_meaning.specs.Expressions.{kind_layer, expr_layer}
use Rattle.elab_meaning.specs.Declarations.{bound_part, enumerator_value, formed, adjusted, is_repeated, has_function_words, passes_limit, is_function_made, type_made, add_if_named, declarator_layer, params_layer, spec_layer, enumerator_layer, member_layer, param_layer, type_name_layer}
use Rattle.elab_meaning.specs.Trees.{read_declarator, read_expr, read_spec, read_type_name, read_params, read_param, read_member, read_enumerator}
use Rattle.elab_types.specs.Keeps.{Keeps}
use Rattle.elab_types.proofs.Keeping.{AllKeep, bind, checked, pure_keeps, first_keeps, change_keeps, if_any_keeps}
use Rattle.elab_types.proofs.KeepingExpressions.{AllExprs, name_keeps, text_keeps, comma_keeps, assign_keeps, cond_keeps, binary_keeps, cast_keeps, prefix_keeps, postfix_keeps, sizeof_keeps, sizeof_type_keeps, index_keeps, member_keeps, call_keeps, size_call_keeps}
use Rattle.elab_types.proofs.KeepingDeclarations.{AllParams, AllDeclarators, KeepsMembers, AllMembers, AllEnumerators, KeepsValue, bound_keeps, specifiers_keep, named_keeps, listed_keep, member_parts_keep, tagged_keeps, untagged_keeps, value_or_keeps, enum_keeps, enum_tag_keeps, typedef_name_keeps}

abbrev read_kind : ExprKind → ReadKind
read_kind = fold-ExprKind ReadDeclarator ReadKind ReadParams ReadSpec ReadEnumerator ReadExpr ReadMembers ReadParam ReadTypeName
    declarator_layer kind_layer params_layer spec_layer enumerator_layer expr_layer member_layer param_layer type_name_layer

-- ---- what holds of each type of node

abbrev OfDeclarator : Declarator → Type 0
OfDeclarator d = Keeps (read_declarator d).parts

abbrev OfKind : ExprKind → Type 0
OfKind k = (at : Place) → Keeps ((read_kind k).typed at)

abbrev OfParams : Params → Type 0
OfParams ps = Keeps (read_params ps)

abbrev OfSpec : Spec → Type 0
OfSpec s = Keeps (read_spec s)

abbrev OfEnumerator : Enumerator → Type 0
OfEnumerator e = (n : ℤ) → Keeps (read_enumerator e n)

abbrev OfExpr : Expr → Type 0
OfExpr e = Keeps (read_expr e).typed

abbrev OfMember : MemberDecl → Type 0
OfMember m = KeepsMembers (read_member m)

abbrev OfParam : Param → Type 0
OfParam p = (start number : ℕ) → Keeps (read_param p start number)

abbrev OfTypeName : TypeName → Type 0
OfTypeName t = Keeps (read_type_name t)

enumerator_keeps : (name : Identifier) (value : Option ReadExpr) → KeepsValue value → (n : ℤ)
    → Keeps (enumerator_layer (record { name = name; value = value }) n)
enumerator_keeps name value h n =
    checked (λ s. option_map (λ u. u.1) (lookup name.name s)) name.place (λ used. (Redeclared, is_some used) ∷ [])
    (λ used. enumerator_value n value >>= (λ m. change (add name.name (Constant m)) >>= (λ v. pure m)))
    (λ used. bind (enumerator_value n value) (λ m. change (add name.name (Constant m)) >>= (λ v. pure m)) (value_or_keeps n value h)
    (λ m. bind (change (add name.name (Constant m))) (λ v. pure m) (change_keeps (add name.name (Constant m)) (λ s. refl)) (λ v. pure_keeps m)))

-- ---- a node whose parts keep
module _ (A B C D E G H I J : Type 0)
    (a : A → Declarator) (b : B → ExprKind) (c : C → Params) (d : D → Spec) (e : E → Enumerator) (g : G → Expr) (h : H → MemberDecl) (i : I → Param) (j : J → TypeName)
    (of_a : (x : A) → OfDeclarator (a x)) (of_b : (x : B) → OfKind (b x)) (of_c : (x : C) → OfParams (c x)) (of_d : (x : D) → OfSpec (d x))
    (of_e : (x : E) → OfEnumerator (e x)) (of_g : (x : G) → OfExpr (g x)) (of_h : (x : H) → OfMember (h x)) (of_i : (x : I) → OfParam (i x))
    (of_j : (x : J) → OfTypeName (j x)) where
  exprs : (xs : List G) → AllExprs (map read_expr (map g xs))
  exprs [] = tt
  exprs (x ∷ xs) = (of_g x, exprs xs)

  specs : (xs : List D) → AllKeep (map read_spec (map d xs))
  specs [] = tt
  specs (x ∷ xs) = (of_d x, specs xs)

  params : (xs : List I) → AllParams (map read_param (map i xs))
  params [] = tt
  params (x ∷ xs) = (of_i x, params xs)

  members : (xs : List H) → AllMembers (map read_member (map h xs))
  members [] = tt
  members (x ∷ xs) = (of_h x, members xs)

  declarators : (xs : List A) → AllDeclarators (map read_declarator (map a xs))
  declarators [] = tt
  declarators (x ∷ xs) = (of_a x, declarators xs)

  enumerators : (xs : List E) → AllEnumerators (map read_enumerator (map e xs))
  enumerators [] = tt
  enumerators (x ∷ xs) = (of_e x, enumerators xs)

  layer_declarator : (y : Declarator-F A B C D E G H I J) → Keeps (declarator_layer (map-Declarator Declarator ExprKind Params Spec Enumerator Expr MemberDecl Param TypeName
      ReadDeclarator ReadKind ReadParams ReadSpec ReadEnumerator ReadExpr ReadMembers ReadParam ReadTypeName
      read_declarator read_kind read_params read_spec read_enumerator read_expr read_member read_param read_type_name
      (map-Declarator A B C D E G H I J Declarator ExprKind Params Spec Enumerator Expr MemberDecl Param TypeName a b c d e g h i j y))).parts
  layer_declarator (Declarator-F.Pointer words of place) = bind _ _ (of_a of) (λ s. pure_keeps _)
  layer_declarator (Declarator-F.«Declarator::Name» name place) = pure_keeps _
  layer_declarator (Declarator-F.Omitted place) = pure_keeps _
  layer_declarator (Declarator-F.Array of None place) = bind _ _ (of_a of) (λ s. bind _ _ (if_any_keeps {A = ℤ} None tt) (λ n. pure_keeps (array s n)))
  layer_declarator (Declarator-F.Array of (Some bound) place) = bind _ _ (of_a of) (λ s. bind _ _ (if_any_keeps (Some (bound_part (read_expr (g bound)))) (bound_keeps (read_expr (g bound)) (of_g bound))) (λ n. pure_keeps (array s n)))
  layer_declarator (Declarator-F.Function of ps place) = bind _ _ (of_a of) (λ s. bind _ _ (of_c ps) (λ all. pure_keeps _))

  of_declarator : (y : Declarator-F A B C D E G H I J) → OfDeclarator (roll-Declarator (map-Declarator A B C D E G H I J Declarator ExprKind Params Spec Enumerator Expr MemberDecl Param TypeName a b c d e g h i j y))
  of_declarator y = rw (fold-roll-Declarator ReadDeclarator ReadKind ReadParams ReadSpec ReadEnumerator ReadExpr ReadMembers ReadParam ReadTypeName
      declarator_layer kind_layer params_layer spec_layer enumerator_layer expr_layer member_layer param_layer type_name_layer) (layer_declarator y)

  is_declarator : (x : Declarator-F Declarator ExprKind Params Spec Enumerator Expr MemberDecl Param TypeName) (y : Declarator-F A B C D E G H I J) → map-Declarator A B C D E G H I J Declarator ExprKind Params Spec Enumerator Expr MemberDecl Param TypeName a b c d e g h i j y ≡ x → OfDeclarator (roll-Declarator x)
  is_declarator x y is = subst (λ z. OfDeclarator (roll-Declarator z)) is (of_declarator y)

  layer_kind : (y : ExprKind-F A B C D E G H I J) → (at : Place) → Keeps ((kind_layer (map-ExprKind Declarator ExprKind Params Spec Enumerator Expr MemberDecl Param TypeName
      ReadDeclarator ReadKind ReadParams ReadSpec ReadEnumerator ReadExpr ReadMembers ReadParam ReadTypeName
      read_declarator read_kind read_params read_spec read_enumerator read_expr read_member read_param read_type_name
      (map-ExprKind A B C D E G H I J Declarator ExprKind Params Spec Enumerator Expr MemberDecl Param TypeName a b c d e g h i j y))).typed at)
  layer_kind (ExprKind-F.«ExprKind::Name» name) = name_keeps name
  layer_kind (ExprKind-F.Number value kind) = λ at. pure_keeps _
  layer_kind (ExprKind-F.CharConst byte) = λ at. pure_keeps _
  layer_kind (ExprKind-F.Str text) = text_keeps text
  layer_kind (ExprKind-F.Comma all) = λ at. comma_keeps (map read_expr (map g all)) at (exprs all)
  layer_kind (ExprKind-F.Assign op to from) = λ at. assign_keeps op (read_expr (g to)) (read_expr (g from)) at (of_g to) (of_g from)
  layer_kind (ExprKind-F.Cond test x y) = λ at. cond_keeps (read_expr (g test)) (read_expr (g x)) (read_expr (g y)) at (of_g test) (of_g x) (of_g y)
  layer_kind (ExprKind-F.Binary op x y) = λ at. binary_keeps op (read_expr (g x)) (read_expr (g y)) at (of_g x) (of_g y)
  layer_kind (ExprKind-F.Cast to of) = λ at. cast_keeps (read_type_name (j to)) (read_expr (g of)) at (of_j to) (of_g of)
  layer_kind (ExprKind-F.Prefix op of) = λ at. prefix_keeps op (read_expr (g of)) at (of_g of)
  layer_kind (ExprKind-F.Postfix op of) = λ at. postfix_keeps op (read_expr (g of)) at (of_g of)
  layer_kind (ExprKind-F.SizeofExpr of) = λ at. sizeof_keeps (read_expr (g of)) at (of_g of)
  layer_kind (ExprKind-F.SizeofType of) = λ at. sizeof_type_keeps (read_type_name (j of)) at (of_j of)
  layer_kind (ExprKind-F.Index base index) = λ at. index_keeps (read_expr (g base)) (read_expr (g index)) at (of_g base) (of_g index)
  layer_kind (ExprKind-F.Call callee args) = λ at. call_keeps (read_expr (g callee)) (map read_expr (map g args)) at (of_g callee) (exprs args)
  layer_kind (ExprKind-F.Member base arrow name) = λ at. member_keeps (read_expr (g base)) arrow name at (of_g base)
  layer_kind (ExprKind-F.SizeCall pointer mode) = λ at. size_call_keeps (read_expr (g pointer)) (read_expr (g mode)) at (of_g pointer) (of_g mode)

  of_kind : (y : ExprKind-F A B C D E G H I J) → OfKind (roll-ExprKind (map-ExprKind A B C D E G H I J Declarator ExprKind Params Spec Enumerator Expr MemberDecl Param TypeName a b c d e g h i j y))
  of_kind y = rw (fold-roll-ExprKind ReadDeclarator ReadKind ReadParams ReadSpec ReadEnumerator ReadExpr ReadMembers ReadParam ReadTypeName
      declarator_layer kind_layer params_layer spec_layer enumerator_layer expr_layer member_layer param_layer type_name_layer) (layer_kind y)

  is_kind : (x : ExprKind-F Declarator ExprKind Params Spec Enumerator Expr MemberDecl Param TypeName) (y : ExprKind-F A B C D E G H I J) → map-ExprKind A B C D E G H I J Declarator ExprKind Params Spec Enumerator Expr MemberDecl Param TypeName a b c d e g h i j y ≡ x → OfKind (roll-ExprKind x)
  is_kind x y is = subst (λ z. OfKind (roll-ExprKind z)) is (of_kind y)

  layer_params : (y : Params-F A B C D E G H I J) → Keeps (params_layer (map-Params Declarator ExprKind Params Spec Enumerator Expr MemberDecl Param TypeName
      ReadDeclarator ReadKind ReadParams ReadSpec ReadEnumerator ReadExpr ReadMembers ReadParam ReadTypeName
      read_declarator read_kind read_params read_spec read_enumerator read_expr read_member read_param read_type_name
      (map-Params A B C D E G H I J Declarator ExprKind Params Spec Enumerator Expr MemberDecl Param TypeName a b c d e g h i j y)))
  layer_params Params-F.Empty = pure_keeps _
  layer_params Params-F.Void = pure_keeps _
  layer_params (Params-F.List all) = listed_keep (map read_param (map i all)) (params all)

  of_params : (y : Params-F A B C D E G H I J) → OfParams (roll-Params (map-Params A B C D E G H I J Declarator ExprKind Params Spec Enumerator Expr MemberDecl Param TypeName a b c d e g h i j y))
  of_params y = rw (fold-roll-Params ReadDeclarator ReadKind ReadParams ReadSpec ReadEnumerator ReadExpr ReadMembers ReadParam ReadTypeName
      declarator_layer kind_layer params_layer spec_layer enumerator_layer expr_layer member_layer param_layer type_name_layer) (layer_params y)

  is_params : (x : Params-F Declarator ExprKind Params Spec Enumerator Expr MemberDecl Param TypeName) (y : Params-F A B C D E G H I J) → map-Params A B C D E G H I J Declarator ExprKind Params Spec Enumerator Expr MemberDecl Param TypeName a b c d e g h i j y ≡ x → OfParams (roll-Params x)
  is_params x y is = subst (λ z. OfParams (roll-Params z)) is (of_params y)

  layer_spec : (y : Spec-F A B C D E G H I J) → Keeps (spec_layer (map-Spec Declarator ExprKind Params Spec Enumerator Expr MemberDecl Param TypeName
      ReadDeclarator ReadKind ReadParams ReadSpec ReadEnumerator ReadExpr ReadMembers ReadParam ReadTypeName
      read_declarator read_kind read_params read_spec read_enumerator read_expr read_member read_param read_type_name
      (map-Spec A B C D E G H I J Declarator ExprKind Params Spec Enumerator Expr MemberDecl Param TypeName a b c d e g h i j y)))
  layer_spec (Spec-F.Typedef place) = pure_keeps _
  layer_spec (Spec-F.Extern place) = pure_keeps _
  layer_spec (Spec-F.Static place) = pure_keeps _
  layer_spec (Spec-F.Inline place) = pure_keeps _
  layer_spec (Spec-F.Const place) = pure_keeps _
  layer_spec (Spec-F.Attributes list place) = pure_keeps _
  layer_spec (Spec-F.Basic w place) = pure_keeps _
  layer_spec (Spec-F.TypedefName name place) = typedef_name_keeps name
  layer_spec (Spec-F.Tagged aggregate tag None place) = tagged_keeps aggregate tag None tt
  layer_spec (Spec-F.Tagged aggregate tag (Some ms) place) = tagged_keeps aggregate tag (Some (map read_member (map h ms))) (members ms)
  layer_spec (Spec-F.Untagged aggregate ms place) = untagged_keeps aggregate (map read_member (map h ms)) (members ms)
  layer_spec (Spec-F.Enum tag es place) = enum_keeps tag (map read_enumerator (map e es)) (enumerators es)
  layer_spec (Spec-F.EnumTag tag place) = enum_tag_keeps tag

  of_spec : (y : Spec-F A B C D E G H I J) → OfSpec (roll-Spec (map-Spec A B C D E G H I J Declarator ExprKind Params Spec Enumerator Expr MemberDecl Param TypeName a b c d e g h i j y))
  of_spec y = rw (fold-roll-Spec ReadDeclarator ReadKind ReadParams ReadSpec ReadEnumerator ReadExpr ReadMembers ReadParam ReadTypeName
      declarator_layer kind_layer params_layer spec_layer enumerator_layer expr_layer member_layer param_layer type_name_layer) (layer_spec y)

  is_spec : (x : Spec-F Declarator ExprKind Params Spec Enumerator Expr MemberDecl Param TypeName) (y : Spec-F A B C D E G H I J) → map-Spec A B C D E G H I J Declarator ExprKind Params Spec Enumerator Expr MemberDecl Param TypeName a b c d e g h i j y ≡ x → OfSpec (roll-Spec x)
  is_spec x y is = subst (λ z. OfSpec (roll-Spec z)) is (of_spec y)

  enumerator_with : (name : Identifier) (value : Option G) (n : ℤ) → Keeps (enumerator_layer (map-Enumerator Declarator ExprKind Params Spec Enumerator Expr MemberDecl Param TypeName
      ReadDeclarator ReadKind ReadParams ReadSpec ReadEnumerator ReadExpr ReadMembers ReadParam ReadTypeName
      read_declarator read_kind read_params read_spec read_enumerator read_expr read_member read_param read_type_name
      (map-Enumerator A B C D E G H I J Declarator ExprKind Params Spec Enumerator Expr MemberDecl Param TypeName a b c d e g h i j
      (record { name = name; value = value }))) n)
  enumerator_with name None n = enumerator_keeps name None tt n
  enumerator_with name (Some x) n = enumerator_keeps name (Some (read_expr (g x))) (of_g x) n

  layer_enumerator : (y : Enumerator-F A B C D E G H I J) → (n : ℤ) → Keeps (enumerator_layer (map-Enumerator Declarator ExprKind Params Spec Enumerator Expr MemberDecl Param TypeName
      ReadDeclarator ReadKind ReadParams ReadSpec ReadEnumerator ReadExpr ReadMembers ReadParam ReadTypeName
      read_declarator read_kind read_params read_spec read_enumerator read_expr read_member read_param read_type_name
      (map-Enumerator A B C D E G H I J Declarator ExprKind Params Spec Enumerator Expr MemberDecl Param TypeName a b c d e g h i j y)) n)
  layer_enumerator y n = enumerator_with y.name y.value n

  of_enumerator : (y : Enumerator-F A B C D E G H I J) → OfEnumerator (roll-Enumerator (map-Enumerator A B C D E G H I J Declarator ExprKind Params Spec Enumerator Expr MemberDecl Param TypeName a b c d e g h i j y))
  of_enumerator y = rw (fold-roll-Enumerator ReadDeclarator ReadKind ReadParams ReadSpec ReadEnumerator ReadExpr ReadMembers ReadParam ReadTypeName
      declarator_layer kind_layer params_layer spec_layer enumerator_layer expr_layer member_layer param_layer type_name_layer) (layer_enumerator y)

  is_enumerator : (x : Enumerator-F Declarator ExprKind Params Spec Enumerator Expr MemberDecl Param TypeName) (y : Enumerator-F A B C D E G H I J) → map-Enumerator A B C D E G H I J Declarator ExprKind Params Spec Enumerator Expr MemberDecl Param TypeName a b c d e g h i j y ≡ x → OfEnumerator (roll-Enumerator x)
  is_enumerator x y is = subst (λ z. OfEnumerator (roll-Enumerator z)) is (of_enumerator y)

  layer_expr : (y : Expr-F A B C D E G H I J) → Keeps (expr_layer (map-Expr Declarator ExprKind Params Spec Enumerator Expr MemberDecl Param TypeName
      ReadDeclarator ReadKind ReadParams ReadSpec ReadEnumerator ReadExpr ReadMembers ReadParam ReadTypeName
      read_declarator read_kind read_params read_spec read_enumerator read_expr read_member read_param read_type_name
      (map-Expr A B C D E G H I J Declarator ExprKind Params Spec Enumerator Expr MemberDecl Param TypeName a b c d e g h i j y))).typed
  layer_expr y = of_b y.kind y.place

  of_expr : (y : Expr-F A B C D E G H I J) → OfExpr (roll-Expr (map-Expr A B C D E G H I J Declarator ExprKind Params Spec Enumerator Expr MemberDecl Param TypeName a b c d e g h i j y))
  of_expr y = rw (fold-roll-Expr ReadDeclarator ReadKind ReadParams ReadSpec ReadEnumerator ReadExpr ReadMembers ReadParam ReadTypeName
      declarator_layer kind_layer params_layer spec_layer enumerator_layer expr_layer member_layer param_layer type_name_layer) (layer_expr y)

  is_expr : (x : Expr-F Declarator ExprKind Params Spec Enumerator Expr MemberDecl Param TypeName) (y : Expr-F A B C D E G H I J) → map-Expr A B C D E G H I J Declarator ExprKind Params Spec Enumerator Expr MemberDecl Param TypeName a b c d e g h i j y ≡ x → OfExpr (roll-Expr x)
  is_expr x y is = subst (λ z. OfExpr (roll-Expr z)) is (of_expr y)

  layer_member : (y : MemberDecl-F A B C D E G H I J) → KeepsMembers (member_layer (map-MemberDecl Declarator ExprKind Params Spec Enumerator Expr MemberDecl Param TypeName
      ReadDeclarator ReadKind ReadParams ReadSpec ReadEnumerator ReadExpr ReadMembers ReadParam ReadTypeName
      read_declarator read_kind read_params read_spec read_enumerator read_expr read_member read_param read_type_name
      (map-MemberDecl A B C D E G H I J Declarator ExprKind Params Spec Enumerator Expr MemberDecl Param TypeName a b c d e g h i j y)))
  layer_member y = λ is_union before is_last. bind _ _ (specifiers_keep (map read_spec (map d y.specs)) (specs y.specs)) (λ s. member_parts_keep s is_union is_last before (map read_declarator (map a y.declarators)) (declarators y.declarators))

  of_member : (y : MemberDecl-F A B C D E G H I J) → OfMember (roll-MemberDecl (map-MemberDecl A B C D E G H I J Declarator ExprKind Params Spec Enumerator Expr MemberDecl Param TypeName a b c d e g h i j y))
  of_member y = rw (fold-roll-MemberDecl ReadDeclarator ReadKind ReadParams ReadSpec ReadEnumerator ReadExpr ReadMembers ReadParam ReadTypeName
      declarator_layer kind_layer params_layer spec_layer enumerator_layer expr_layer member_layer param_layer type_name_layer) (layer_member y)

  is_member : (x : MemberDecl-F Declarator ExprKind Params Spec Enumerator Expr MemberDecl Param TypeName) (y : MemberDecl-F A B C D E G H I J) → map-MemberDecl A B C D E G H I J Declarator ExprKind Params Spec Enumerator Expr MemberDecl Param TypeName a b c d e g h i j y ≡ x → OfMember (roll-MemberDecl x)
  is_member x y is = subst (λ z. OfMember (roll-MemberDecl z)) is (of_member y)

  layer_param : (y : Param-F A B C D E G H I J) → (start number : ℕ) → Keeps (param_layer (map-Param Declarator ExprKind Params Spec Enumerator Expr MemberDecl Param TypeName
      ReadDeclarator ReadKind ReadParams ReadSpec ReadEnumerator ReadExpr ReadMembers ReadParam ReadTypeName
      read_declarator read_kind read_params read_spec read_enumerator read_expr read_member read_param read_type_name
      (map-Param A B C D E G H I J Declarator ExprKind Params Spec Enumerator Expr MemberDecl Param TypeName a b c d e g h i j y)) start number)
  layer_param y start number =
      let r = read_declarator (a y.declarator) in
      bind _ _ (specifiers_keep (map read_spec (map d y.specs)) (specs y.specs)) (λ m. bind _ _ (of_a y.declarator) (λ shape.
      checked (λ s. s) r.place
      (λ scope.
      let f = formed scope.tags m.base shape in
      let t = adjusted f.made in
      (Redeclared, is_repeated start r.name scope)
      ∷ (IncompleteType, not (has_size scope.tags t))
      ∷ (BadType, f.bad_type || has_function_words m)
      ∷ (LimitObject, passes_limit f)
      ∷ (ByValue, f.by_value || is_structure t)
      ∷ (FunctionPointer, f.function_pointer || is_function_made f.made)
      ∷ (LimitArguments, f.too_many) ∷ [])
      (λ scope. param_named r.name r.place number (adjusted (formed scope.tags m.base shape).made))
      (λ scope.
      let t = adjusted (formed scope.tags m.base shape).made in
      bind (change (add_if_named r.name (Local number t))) (λ v. pure (record { name = r.name; place = r.place; ctype = t })) (named_keeps r.name (Local number t))
      (λ v. pure_keeps (record { name = r.name; place = r.place; ctype = t })))))

  of_param : (y : Param-F A B C D E G H I J) → OfParam (roll-Param (map-Param A B C D E G H I J Declarator ExprKind Params Spec Enumerator Expr MemberDecl Param TypeName a b c d e g h i j y))
  of_param y = rw (fold-roll-Param ReadDeclarator ReadKind ReadParams ReadSpec ReadEnumerator ReadExpr ReadMembers ReadParam ReadTypeName
      declarator_layer kind_layer params_layer spec_layer enumerator_layer expr_layer member_layer param_layer type_name_layer) (layer_param y)

  is_param : (x : Param-F Declarator ExprKind Params Spec Enumerator Expr MemberDecl Param TypeName) (y : Param-F A B C D E G H I J) → map-Param A B C D E G H I J Declarator ExprKind Params Spec Enumerator Expr MemberDecl Param TypeName a b c d e g h i j y ≡ x → OfParam (roll-Param x)
  is_param x y is = subst (λ z. OfParam (roll-Param z)) is (of_param y)

  layer_type_name : (y : TypeName-F A B C D E G H I J) → Keeps (type_name_layer (map-TypeName Declarator ExprKind Params Spec Enumerator Expr MemberDecl Param TypeName
      ReadDeclarator ReadKind ReadParams ReadSpec ReadEnumerator ReadExpr ReadMembers ReadParam ReadTypeName
      read_declarator read_kind read_params read_spec read_enumerator read_expr read_member read_param read_type_name
      (map-TypeName A B C D E G H I J Declarator ExprKind Params Spec Enumerator Expr MemberDecl Param TypeName a b c d e g h i j y)))
  layer_type_name y =
      let r = read_declarator (a y.declarator) in
      bind _ _ (specifiers_keep (map read_spec (map d y.specs)) (specs y.specs)) (λ m. bind _ _ (of_a y.declarator) (λ shape.
      checked (λ s. s.tags) r.place (λ tags. (BadType, (formed tags m.base shape).bad_type || has_function_words m) ∷ [])
      (λ tags. first y.place ((LimitObject, passes_limit (formed tags m.base shape)) ∷ []) >>= (λ v. pure (type_made (formed tags m.base shape).made)))
      (λ tags. bind (first y.place ((LimitObject, passes_limit (formed tags m.base shape)) ∷ [])) (λ v. pure (type_made (formed tags m.base shape).made))
      (first_keeps y.place ((LimitObject, passes_limit (formed tags m.base shape)) ∷ [])) (λ v. pure_keeps (type_made (formed tags m.base shape).made)))))

  of_type_name : (y : TypeName-F A B C D E G H I J) → OfTypeName (roll-TypeName (map-TypeName A B C D E G H I J Declarator ExprKind Params Spec Enumerator Expr MemberDecl Param TypeName a b c d e g h i j y))
  of_type_name y = rw (fold-roll-TypeName ReadDeclarator ReadKind ReadParams ReadSpec ReadEnumerator ReadExpr ReadMembers ReadParam ReadTypeName
      declarator_layer kind_layer params_layer spec_layer enumerator_layer expr_layer member_layer param_layer type_name_layer) (layer_type_name y)

  is_type_name : (x : TypeName-F Declarator ExprKind Params Spec Enumerator Expr MemberDecl Param TypeName) (y : TypeName-F A B C D E G H I J) → map-TypeName A B C D E G H I J Declarator ExprKind Params Spec Enumerator Expr MemberDecl Param TypeName a b c d e g h i j y ≡ x → OfTypeName (roll-TypeName x)
  is_type_name x y is = subst (λ z. OfTypeName (roll-TypeName z)) is (of_type_name y)

-- ---- every node

pub every_declarator : (x : Declarator) → OfDeclarator x
every_declarator = ind-Declarator OfDeclarator OfKind OfParams OfSpec OfEnumerator OfExpr OfMember OfParam OfTypeName
    (λ x y is. is_declarator _ _ _ _ _ _ _ _ _ (λ z. z.0) (λ z. z.0) (λ z. z.0) (λ z. z.0) (λ z. z.0) (λ z. z.0) (λ z. z.0) (λ z. z.0) (λ z. z.0)
    (λ z. z.1) (λ z. z.1) (λ z. z.1) (λ z. z.1) (λ z. z.1) (λ z. z.1) (λ z. z.1) (λ z. z.1) (λ z. z.1) x y is)
    (λ x y is. is_kind _ _ _ _ _ _ _ _ _ (λ z. z.0) (λ z. z.0) (λ z. z.0) (λ z. z.0) (λ z. z.0) (λ z. z.0) (λ z. z.0) (λ z. z.0) (λ z. z.0)
    (λ z. z.1) (λ z. z.1) (λ z. z.1) (λ z. z.1) (λ z. z.1) (λ z. z.1) (λ z. z.1) (λ z. z.1) (λ z. z.1) x y is)
    (λ x y is. is_params _ _ _ _ _ _ _ _ _ (λ z. z.0) (λ z. z.0) (λ z. z.0) (λ z. z.0) (λ z. z.0) (λ z. z.0) (λ z. z.0) (λ z. z.0) (λ z. z.0)
    (λ z. z.1) (λ z. z.1) (λ z. z.1) (λ z. z.1) (λ z. z.1) (λ z. z.1) (λ z. z.1) (λ z. z.1) (λ z. z.1) x y is)
    (λ x y is. is_spec _ _ _ _ _ _ _ _ _ (λ z. z.0) (λ z. z.0) (λ z. z.0) (λ z. z.0) (λ z. z.0) (λ z. z.0) (λ z. z.0) (λ z. z.0) (λ z. z.0)
    (λ z. z.1) (λ z. z.1) (λ z. z.1) (λ z. z.1) (λ z. z.1) (λ z. z.1) (λ z. z.1) (λ z. z.1) (λ z. z.1) x y is)
    (λ x y is. is_enumerator _ _ _ _ _ _ _ _ _ (λ z. z.0) (λ z. z.0) (λ z. z.0) (λ z. z.0) (λ z. z.0) (λ z. z.0) (λ z. z.0) (λ z. z.0) (λ z. z.0)
    (λ z. z.1) (λ z. z.1) (λ z. z.1) (λ z. z.1) (λ z. z.1) (λ z. z.1) (λ z. z.1) (λ z. z.1) (λ z. z.1) x y is)
    (λ x y is. is_expr _ _ _ _ _ _ _ _ _ (λ z. z.0) (λ z. z.0) (λ z. z.0) (λ z. z.0) (λ z. z.0) (λ z. z.0) (λ z. z.0) (λ z. z.0) (λ z. z.0)
    (λ z. z.1) (λ z. z.1) (λ z. z.1) (λ z. z.1) (λ z. z.1) (λ z. z.1) (λ z. z.1) (λ z. z.1) (λ z. z.1) x y is)
    (λ x y is. is_member _ _ _ _ _ _ _ _ _ (λ z. z.0) (λ z. z.0) (λ z. z.0) (λ z. z.0) (λ z. z.0) (λ z. z.0) (λ z. z.0) (λ z. z.0) (λ z. z.0)
    (λ z. z.1) (λ z. z.1) (λ z. z.1) (λ z. z.1) (λ z. z.1) (λ z. z.1) (λ z. z.1) (λ z. z.1) (λ z. z.1) x y is)
    (λ x y is. is_param _ _ _ _ _ _ _ _ _ (λ z. z.0) (λ z. z.0) (λ z. z.0) (λ z. z.0) (λ z. z.0) (λ z. z.0) (λ z. z.0) (λ z. z.0) (λ z. z.0)
    (λ z. z.1) (λ z. z.1) (λ z. z.1) (λ z. z.1) (λ z. z.1) (λ z. z.1) (λ z. z.1) (λ z. z.1) (λ z. z.1) x y is)
    (λ x y is. is_type_name _ _ _ _ _ _ _ _ _ (λ z. z.0) (λ z. z.0) (λ z. z.0) (λ z. z.0) (λ z. z.0) (λ z. z.0) (λ z. z.0) (λ z. z.0) (λ z. z.0)
    (λ z. z.1) (λ z. z.1) (λ z. z.1) (λ z. z.1) (λ z. z.1) (λ z. z.1) (λ z. z.1) (λ z. z.1) (λ z. z.1) x y is)

pub every_spec : (x : Spec) → OfSpec x
every_spec = ind-Spec OfDeclarator OfKind OfParams OfSpec OfEnumerator OfExpr OfMember OfParam OfTypeName
    (λ x y is. is_declarator _ _ _ _ _ _ _ _ _ (λ z. z.0) (λ z. z.0) (λ z. z.0) (λ z. z.0) (λ z. z.0) (λ z. z.0) (λ z. z.0) (λ z. z.0) (λ z. z.0)
    (λ z. z.1) (λ z. z.1) (λ z. z.1) (λ z. z.1) (λ z. z.1) (λ z. z.1) (λ z. z.1) (λ z. z.1) (λ z. z.1) x y is)
    (λ x y is. is_kind _ _ _ _ _ _ _ _ _ (λ z. z.0) (λ z. z.0) (λ z. z.0) (λ z. z.0) (λ z. z.0) (λ z. z.0) (λ z. z.0) (λ z. z.0) (λ z. z.0)
    (λ z. z.1) (λ z. z.1) (λ z. z.1) (λ z. z.1) (λ z. z.1) (λ z. z.1) (λ z. z.1) (λ z. z.1) (λ z. z.1) x y is)
    (λ x y is. is_params _ _ _ _ _ _ _ _ _ (λ z. z.0) (λ z. z.0) (λ z. z.0) (λ z. z.0) (λ z. z.0) (λ z. z.0) (λ z. z.0) (λ z. z.0) (λ z. z.0)
    (λ z. z.1) (λ z. z.1) (λ z. z.1) (λ z. z.1) (λ z. z.1) (λ z. z.1) (λ z. z.1) (λ z. z.1) (λ z. z.1) x y is)
    (λ x y is. is_spec _ _ _ _ _ _ _ _ _ (λ z. z.0) (λ z. z.0) (λ z. z.0) (λ z. z.0) (λ z. z.0) (λ z. z.0) (λ z. z.0) (λ z. z.0) (λ z. z.0)
    (λ z. z.1) (λ z. z.1) (λ z. z.1) (λ z. z.1) (λ z. z.1) (λ z. z.1) (λ z. z.1) (λ z. z.1) (λ z. z.1) x y is)
    (λ x y is. is_enumerator _ _ _ _ _ _ _ _ _ (λ z. z.0) (λ z. z.0) (λ z. z.0) (λ z. z.0) (λ z. z.0) (λ z. z.0) (λ z. z.0) (λ z. z.0) (λ z. z.0)
    (λ z. z.1) (λ z. z.1) (λ z. z.1) (λ z. z.1) (λ z. z.1) (λ z. z.1) (λ z. z.1) (λ z. z.1) (λ z. z.1) x y is)
    (λ x y is. is_expr _ _ _ _ _ _ _ _ _ (λ z. z.0) (λ z. z.0) (λ z. z.0) (λ z. z.0) (λ z. z.0) (λ z. z.0) (λ z. z.0) (λ z. z.0) (λ z. z.0)
    (λ z. z.1) (λ z. z.1) (λ z. z.1) (λ z. z.1) (λ z. z.1) (λ z. z.1) (λ z. z.1) (λ z. z.1) (λ z. z.1) x y is)
    (λ x y is. is_member _ _ _ _ _ _ _ _ _ (λ z. z.0) (λ z. z.0) (λ z. z.0) (λ z. z.0) (λ z. z.0) (λ z. z.0) (λ z. z.0) (λ z. z.0) (λ z. z.0)
    (λ z. z.1) (λ z. z.1) (λ z. z.1) (λ z. z.1) (λ z. z.1) (λ z. z.1) (λ z. z.1) (λ z. z.1) (λ z. z.1) x y is)
    (λ x y is. is_param _ _ _ _ _ _ _ _ _ (λ z. z.0) (λ z. z.0) (λ z. z.0) (λ z. z.0) (λ z. z.0) (λ z. z.0) (λ z. z.0) (λ z. z.0) (λ z. z.0)
    (λ z. z.1) (λ z. z.1) (λ z. z.1) (λ z. z.1) (λ z. z.1) (λ z. z.1) (λ z. z.1) (λ z. z.1) (λ z. z.1) x y is)
    (λ x y is. is_type_name _ _ _ _ _ _ _ _ _ (λ z. z.0) (λ z. z.0) (λ z. z.0) (λ z. z.0) (λ z. z.0) (λ z. z.0) (λ z. z.0) (λ z. z.0) (λ z. z.0)
    (λ z. z.1) (λ z. z.1) (λ z. z.1) (λ z. z.1) (λ z. z.1) (λ z. z.1) (λ z. z.1) (λ z. z.1) (λ z. z.1) x y is)

pub every_member : (x : MemberDecl) → OfMember x
every_member = ind-MemberDecl OfDeclarator OfKind OfParams OfSpec OfEnumerator OfExpr OfMember OfParam OfTypeName
    (λ x y is. is_declarator _ _ _ _ _ _ _ _ _ (λ z. z.0) (λ z. z.0) (λ z. z.0) (λ z. z.0) (λ z. z.0) (λ z. z.0) (λ z. z.0) (λ z. z.0) (λ z. z.0)
    (λ z. z.1) (λ z. z.1) (λ z. z.1) (λ z. z.1) (λ z. z.1) (λ z. z.1) (λ z. z.1) (λ z. z.1) (λ z. z.1) x y is)
    (λ x y is. is_kind _ _ _ _ _ _ _ _ _ (λ z. z.0) (λ z. z.0) (λ z. z.0) (λ z. z.0) (λ z. z.0) (λ z. z.0) (λ z. z.0) (λ z. z.0) (λ z. z.0)
    (λ z. z.1) (λ z. z.1) (λ z. z.1) (λ z. z.1) (λ z. z.1) (λ z. z.1) (λ z. z.1) (λ z. z.1) (λ z. z.1) x y is)
    (λ x y is. is_params _ _ _ _ _ _ _ _ _ (λ z. z.0) (λ z. z.0) (λ z. z.0) (λ z. z.0) (λ z. z.0) (λ z. z.0) (λ z. z.0) (λ z. z.0) (λ z. z.0)
    (λ z. z.1) (λ z. z.1) (λ z. z.1) (λ z. z.1) (λ z. z.1) (λ z. z.1) (λ z. z.1) (λ z. z.1) (λ z. z.1) x y is)
    (λ x y is. is_spec _ _ _ _ _ _ _ _ _ (λ z. z.0) (λ z. z.0) (λ z. z.0) (λ z. z.0) (λ z. z.0) (λ z. z.0) (λ z. z.0) (λ z. z.0) (λ z. z.0)
    (λ z. z.1) (λ z. z.1) (λ z. z.1) (λ z. z.1) (λ z. z.1) (λ z. z.1) (λ z. z.1) (λ z. z.1) (λ z. z.1) x y is)
    (λ x y is. is_enumerator _ _ _ _ _ _ _ _ _ (λ z. z.0) (λ z. z.0) (λ z. z.0) (λ z. z.0) (λ z. z.0) (λ z. z.0) (λ z. z.0) (λ z. z.0) (λ z. z.0)
    (λ z. z.1) (λ z. z.1) (λ z. z.1) (λ z. z.1) (λ z. z.1) (λ z. z.1) (λ z. z.1) (λ z. z.1) (λ z. z.1) x y is)
    (λ x y is. is_expr _ _ _ _ _ _ _ _ _ (λ z. z.0) (λ z. z.0) (λ z. z.0) (λ z. z.0) (λ z. z.0) (λ z. z.0) (λ z. z.0) (λ z. z.0) (λ z. z.0)
    (λ z. z.1) (λ z. z.1) (λ z. z.1) (λ z. z.1) (λ z. z.1) (λ z. z.1) (λ z. z.1) (λ z. z.1) (λ z. z.1) x y is)
    (λ x y is. is_member _ _ _ _ _ _ _ _ _ (λ z. z.0) (λ z. z.0) (λ z. z.0) (λ z. z.0) (λ z. z.0) (λ z. z.0) (λ z. z.0) (λ z. z.0) (λ z. z.0)
    (λ z. z.1) (λ z. z.1) (λ z. z.1) (λ z. z.1) (λ z. z.1) (λ z. z.1) (λ z. z.1) (λ z. z.1) (λ z. z.1) x y is)
    (λ x y is. is_param _ _ _ _ _ _ _ _ _ (λ z. z.0) (λ z. z.0) (λ z. z.0) (λ z. z.0) (λ z. z.0) (λ z. z.0) (λ z. z.0) (λ z. z.0) (λ z. z.0)
    (λ z. z.1) (λ z. z.1) (λ z. z.1) (λ z. z.1) (λ z. z.1) (λ z. z.1) (λ z. z.1) (λ z. z.1) (λ z. z.1) x y is)
    (λ x y is. is_type_name _ _ _ _ _ _ _ _ _ (λ z. z.0) (λ z. z.0) (λ z. z.0) (λ z. z.0) (λ z. z.0) (λ z. z.0) (λ z. z.0) (λ z. z.0) (λ z. z.0)
    (λ z. z.1) (λ z. z.1) (λ z. z.1) (λ z. z.1) (λ z. z.1) (λ z. z.1) (λ z. z.1) (λ z. z.1) (λ z. z.1) x y is)

pub every_expr : (x : Expr) → OfExpr x
every_expr = ind-Expr OfDeclarator OfKind OfParams OfSpec OfEnumerator OfExpr OfMember OfParam OfTypeName
    (λ x y is. is_declarator _ _ _ _ _ _ _ _ _ (λ z. z.0) (λ z. z.0) (λ z. z.0) (λ z. z.0) (λ z. z.0) (λ z. z.0) (λ z. z.0) (λ z. z.0) (λ z. z.0)
    (λ z. z.1) (λ z. z.1) (λ z. z.1) (λ z. z.1) (λ z. z.1) (λ z. z.1) (λ z. z.1) (λ z. z.1) (λ z. z.1) x y is)
    (λ x y is. is_kind _ _ _ _ _ _ _ _ _ (λ z. z.0) (λ z. z.0) (λ z. z.0) (λ z. z.0) (λ z. z.0) (λ z. z.0) (λ z. z.0) (λ z. z.0) (λ z. z.0)
    (λ z. z.1) (λ z. z.1) (λ z. z.1) (λ z. z.1) (λ z. z.1) (λ z. z.1) (λ z. z.1) (λ z. z.1) (λ z. z.1) x y is)
    (λ x y is. is_params _ _ _ _ _ _ _ _ _ (λ z. z.0) (λ z. z.0) (λ z. z.0) (λ z. z.0) (λ z. z.0) (λ z. z.0) (λ z. z.0) (λ z. z.0) (λ z. z.0)
    (λ z. z.1) (λ z. z.1) (λ z. z.1) (λ z. z.1) (λ z. z.1) (λ z. z.1) (λ z. z.1) (λ z. z.1) (λ z. z.1) x y is)
    (λ x y is. is_spec _ _ _ _ _ _ _ _ _ (λ z. z.0) (λ z. z.0) (λ z. z.0) (λ z. z.0) (λ z. z.0) (λ z. z.0) (λ z. z.0) (λ z. z.0) (λ z. z.0)
    (λ z. z.1) (λ z. z.1) (λ z. z.1) (λ z. z.1) (λ z. z.1) (λ z. z.1) (λ z. z.1) (λ z. z.1) (λ z. z.1) x y is)
    (λ x y is. is_enumerator _ _ _ _ _ _ _ _ _ (λ z. z.0) (λ z. z.0) (λ z. z.0) (λ z. z.0) (λ z. z.0) (λ z. z.0) (λ z. z.0) (λ z. z.0) (λ z. z.0)
    (λ z. z.1) (λ z. z.1) (λ z. z.1) (λ z. z.1) (λ z. z.1) (λ z. z.1) (λ z. z.1) (λ z. z.1) (λ z. z.1) x y is)
    (λ x y is. is_expr _ _ _ _ _ _ _ _ _ (λ z. z.0) (λ z. z.0) (λ z. z.0) (λ z. z.0) (λ z. z.0) (λ z. z.0) (λ z. z.0) (λ z. z.0) (λ z. z.0)
    (λ z. z.1) (λ z. z.1) (λ z. z.1) (λ z. z.1) (λ z. z.1) (λ z. z.1) (λ z. z.1) (λ z. z.1) (λ z. z.1) x y is)
    (λ x y is. is_member _ _ _ _ _ _ _ _ _ (λ z. z.0) (λ z. z.0) (λ z. z.0) (λ z. z.0) (λ z. z.0) (λ z. z.0) (λ z. z.0) (λ z. z.0) (λ z. z.0)
    (λ z. z.1) (λ z. z.1) (λ z. z.1) (λ z. z.1) (λ z. z.1) (λ z. z.1) (λ z. z.1) (λ z. z.1) (λ z. z.1) x y is)
    (λ x y is. is_param _ _ _ _ _ _ _ _ _ (λ z. z.0) (λ z. z.0) (λ z. z.0) (λ z. z.0) (λ z. z.0) (λ z. z.0) (λ z. z.0) (λ z. z.0) (λ z. z.0)
    (λ z. z.1) (λ z. z.1) (λ z. z.1) (λ z. z.1) (λ z. z.1) (λ z. z.1) (λ z. z.1) (λ z. z.1) (λ z. z.1) x y is)
    (λ x y is. is_type_name _ _ _ _ _ _ _ _ _ (λ z. z.0) (λ z. z.0) (λ z. z.0) (λ z. z.0) (λ z. z.0) (λ z. z.0) (λ z. z.0) (λ z. z.0) (λ z. z.0)
    (λ z. z.1) (λ z. z.1) (λ z. z.1) (λ z. z.1) (λ z. z.1) (λ z. z.1) (λ z. z.1) (λ z. z.1) (λ z. z.1) x y is)

pub every_type_name : (x : TypeName) → OfTypeName x
every_type_name = ind-TypeName OfDeclarator OfKind OfParams OfSpec OfEnumerator OfExpr OfMember OfParam OfTypeName
    (λ x y is. is_declarator _ _ _ _ _ _ _ _ _ (λ z. z.0) (λ z. z.0) (λ z. z.0) (λ z. z.0) (λ z. z.0) (λ z. z.0) (λ z. z.0) (λ z. z.0) (λ z. z.0)
    (λ z. z.1) (λ z. z.1) (λ z. z.1) (λ z. z.1) (λ z. z.1) (λ z. z.1) (λ z. z.1) (λ z. z.1) (λ z. z.1) x y is)
    (λ x y is. is_kind _ _ _ _ _ _ _ _ _ (λ z. z.0) (λ z. z.0) (λ z. z.0) (λ z. z.0) (λ z. z.0) (λ z. z.0) (λ z. z.0) (λ z. z.0) (λ z. z.0)
    (λ z. z.1) (λ z. z.1) (λ z. z.1) (λ z. z.1) (λ z. z.1) (λ z. z.1) (λ z. z.1) (λ z. z.1) (λ z. z.1) x y is)
    (λ x y is. is_params _ _ _ _ _ _ _ _ _ (λ z. z.0) (λ z. z.0) (λ z. z.0) (λ z. z.0) (λ z. z.0) (λ z. z.0) (λ z. z.0) (λ z. z.0) (λ z. z.0)
    (λ z. z.1) (λ z. z.1) (λ z. z.1) (λ z. z.1) (λ z. z.1) (λ z. z.1) (λ z. z.1) (λ z. z.1) (λ z. z.1) x y is)
    (λ x y is. is_spec _ _ _ _ _ _ _ _ _ (λ z. z.0) (λ z. z.0) (λ z. z.0) (λ z. z.0) (λ z. z.0) (λ z. z.0) (λ z. z.0) (λ z. z.0) (λ z. z.0)
    (λ z. z.1) (λ z. z.1) (λ z. z.1) (λ z. z.1) (λ z. z.1) (λ z. z.1) (λ z. z.1) (λ z. z.1) (λ z. z.1) x y is)
    (λ x y is. is_enumerator _ _ _ _ _ _ _ _ _ (λ z. z.0) (λ z. z.0) (λ z. z.0) (λ z. z.0) (λ z. z.0) (λ z. z.0) (λ z. z.0) (λ z. z.0) (λ z. z.0)
    (λ z. z.1) (λ z. z.1) (λ z. z.1) (λ z. z.1) (λ z. z.1) (λ z. z.1) (λ z. z.1) (λ z. z.1) (λ z. z.1) x y is)
    (λ x y is. is_expr _ _ _ _ _ _ _ _ _ (λ z. z.0) (λ z. z.0) (λ z. z.0) (λ z. z.0) (λ z. z.0) (λ z. z.0) (λ z. z.0) (λ z. z.0) (λ z. z.0)
    (λ z. z.1) (λ z. z.1) (λ z. z.1) (λ z. z.1) (λ z. z.1) (λ z. z.1) (λ z. z.1) (λ z. z.1) (λ z. z.1) x y is)
    (λ x y is. is_member _ _ _ _ _ _ _ _ _ (λ z. z.0) (λ z. z.0) (λ z. z.0) (λ z. z.0) (λ z. z.0) (λ z. z.0) (λ z. z.0) (λ z. z.0) (λ z. z.0)
    (λ z. z.1) (λ z. z.1) (λ z. z.1) (λ z. z.1) (λ z. z.1) (λ z. z.1) (λ z. z.1) (λ z. z.1) (λ z. z.1) x y is)
    (λ x y is. is_param _ _ _ _ _ _ _ _ _ (λ z. z.0) (λ z. z.0) (λ z. z.0) (λ z. z.0) (λ z. z.0) (λ z. z.0) (λ z. z.0) (λ z. z.0) (λ z. z.0)
    (λ z. z.1) (λ z. z.1) (λ z. z.1) (λ z. z.1) (λ z. z.1) (λ z. z.1) (λ z. z.1) (λ z. z.1) (λ z. z.1) x y is)
    (λ x y is. is_type_name _ _ _ _ _ _ _ _ _ (λ z. z.0) (λ z. z.0) (λ z. z.0) (λ z. z.0) (λ z. z.0) (λ z. z.0) (λ z. z.0) (λ z. z.0) (λ z. z.0)
    (λ z. z.1) (λ z. z.1) (λ z. z.1) (λ z. z.1) (λ z. z.1) (λ z. z.1) (λ z. z.1) (λ z. z.1) (λ z. z.1) x y is)
