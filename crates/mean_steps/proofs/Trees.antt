-- What a node is by the nodes below it, which are what they are by themselves.
use Rattle.std.proofs.Common.{◌≡◌, List, ap, ◌∙◌, subst}
use Rattle.c_layout.specs.declared.tags.TagDef.{TagDef}
use Rattle.c_tree.specs.declared.typed.TypedExpr.{TypedExpr, roll-TypedExpr}
use Rattle.c_tree.specs.declared.typed.TypedKind.{TypedKind, roll-TypedKind, out-TypedKind, fold-TypedKind}
use Rattle.c_tree.specs.declared.typed.TypedKind.TheFolds.{map-TypedKind, map-TypedExpr, fold-roll-TypedKind, fold-roll-TypedExpr, fold_out-TypedKind, fold_out-TypedExpr, ind-TypedExpr, ind-TypedKind}
use Rattle.c_tree.specs.declared.typed.TypedKind.TheOpen.{TypedKind-F, TypedExpr-F}
use Rattle.plain_meaning.specs.Expressions.{Calls, Part, KindPart, kind_value, kind_lvalue, kind_part, expr_part, part_of, value_of}
use Rattle.plain_meaning.proofs.ExtendsTrees.{map_map}

module _ (tags : List TagDef) (c : Calls) where
  abbrev kind_of : TypedKind → KindPart
  kind_of = fold-TypedKind KindPart Part (kind_part tags c) (expr_part tags c)

  abbrev IsWholeKind : TypedKind → Type 0
  IsWholeKind k = (kind_of k).whole ≡ k

  abbrev IsWhole : TypedExpr → Type 0
  IsWhole e = (part_of tags c e).whole ≡ e

  abbrev Kinds : Type 0
  Kinds = (k : TypedKind) × IsWholeKind k

  abbrev Exprs : Type 0
  Exprs = (e : TypedExpr) × IsWhole e

  -- the layer below a kind, whatever it is made of
  kind_below : (y : TypedKind-F Kinds Exprs)
      → (kind_of (roll-TypedKind (map-TypedKind Kinds Exprs TypedKind TypedExpr (λ a. a.0) (λ a. a.0) y))).whole
      ≡ roll-TypedKind (map-TypedKind Kinds Exprs TypedKind TypedExpr (λ a. a.0) (λ a. a.0) y)
  kind_below y =
      ap (λ k. k.whole)
      (fold-roll-TypedKind KindPart Part (kind_part tags c) (expr_part tags c)
      (map-TypedKind Kinds Exprs TypedKind TypedExpr (λ a. a.0) (λ a. a.0) y))
      ∙ ap (λ k. roll-TypedKind (map-TypedKind KindPart Part TypedKind TypedExpr (λ p. p.whole) (λ p. p.whole) k))
      (map_map Kinds Exprs TypedKind TypedExpr KindPart Part (λ a. a.0) (λ a. a.0) kind_of (part_of tags c) y)
      ∙ ap roll-TypedKind
      (map_map Kinds Exprs KindPart Part TypedKind TypedExpr (λ a. kind_of a.0) (λ a. part_of tags c a.0) (λ p. p.whole) (λ p. p.whole) y)
      ∙ ap (λ f. roll-TypedKind (map-TypedKind Kinds Exprs TypedKind TypedExpr f (λ a. (part_of tags c a.0).whole) y)) (λ i a. a.1 i)
      ∙ ap (λ g. roll-TypedKind (map-TypedKind Kinds Exprs TypedKind TypedExpr (λ a. a.0) g y)) (λ i a. a.1 i)

  kind_whole : (x : TypedKind-F TypedKind TypedExpr) (y : TypedKind-F Kinds Exprs)
      → map-TypedKind Kinds Exprs TypedKind TypedExpr (λ a. a.0) (λ a. a.0) y ≡ x → IsWholeKind (roll-TypedKind x)
  kind_whole x y is = subst (λ x. IsWholeKind (roll-TypedKind x)) is (kind_below y)

  expr_below : (y : TypedExpr-F Kinds Exprs)
      → IsWhole (roll-TypedExpr (map-TypedExpr Kinds Exprs TypedKind TypedExpr (λ a. a.0) (λ a. a.0) y))
  expr_below y =
      ap (λ p. p.whole)
      (fold-roll-TypedExpr KindPart Part (kind_part tags c) (expr_part tags c)
      (map-TypedExpr Kinds Exprs TypedKind TypedExpr (λ a. a.0) (λ a. a.0) y))
      ∙ ap (λ k. record { kind = k; ctype = y.ctype; place = y.place }) y.kind.1

  expr_whole : (x : TypedExpr-F TypedKind TypedExpr) (y : TypedExpr-F Kinds Exprs)
      → map-TypedExpr Kinds Exprs TypedKind TypedExpr (λ a. a.0) (λ a. a.0) y ≡ x → IsWhole (roll-TypedExpr x)
  expr_whole x y is = subst (λ x. IsWhole (roll-TypedExpr x)) is (expr_below y)

  whole_is : (e : TypedExpr) → IsWhole e
  whole_is = ind-TypedExpr IsWholeKind IsWhole kind_whole expr_whole

  whole_kind : (k : TypedKind) → IsWholeKind k
  whole_kind = ind-TypedKind IsWholeKind IsWhole kind_whole expr_whole

  -- a node by itself
  abbrev pub parted : TypedExpr → Part
  parted e = record { whole = e; value = value_of tags c e; lvalue = (part_of tags c e).lvalue }

  part_is : (e : TypedExpr) → part_of tags c e ≡ parted e
  part_is e = ap (λ w. record { whole = w; value = value_of tags c e; lvalue = (part_of tags c e).lvalue }) (whole_is e)

  abbrev pub layered : TypedKind-F TypedKind TypedExpr → TypedKind-F KindPart Part
  layered k = map-TypedKind TypedKind TypedExpr KindPart Part kind_of parted k

  kind_is : (k : TypedKind) → kind_of k ≡ kind_part tags c (layered (out-TypedKind k))
  kind_is k =
      fold_out-TypedKind KindPart Part (kind_part tags c) (expr_part tags c) k
      ∙ ap (λ f. kind_part tags c (map-TypedKind TypedKind TypedExpr KindPart Part kind_of f (out-TypedKind k))) (λ i e. part_is e i)

  -- a node by its kind
  node_is : (e : TypedExpr) → part_of tags c e ≡ record { whole = e; value = (kind_of e.kind).value e; lvalue = (kind_of e.kind).lvalue e }
  node_is e =
      fold_out-TypedExpr KindPart Part (kind_part tags c) (expr_part tags c) e
      ∙ ap (λ k. by (record { kind = k; ctype = e.ctype; place = e.place })) (whole_kind e.kind)
    where
      by : TypedExpr → Part
      by whole = record { whole = whole; value = (kind_of e.kind).value whole; lvalue = (kind_of e.kind).lvalue whole }

  pub value_steps : (e : TypedExpr) → value_of tags c e ≡ kind_value tags c (layered (out-TypedKind e.kind)) e
  value_steps e = ap (λ p. p.value) (node_is e) ∙ ap (λ k. k.value e) (kind_is e.kind)

  pub lvalue_steps : (e : TypedExpr) → (part_of tags c e).lvalue ≡ kind_lvalue tags c (layered (out-TypedKind e.kind)) e
  lvalue_steps e = ap (λ p. p.lvalue) (node_is e) ∙ ap (λ k. k.lvalue e) (kind_is e.kind)
