-- What a node is as an address constant, by the nodes below it, which are what they are by themselves.
use Rattle.std.proofs.Common.{◌≡◌, List, refl, ap, ◌∙◌, subst}
use Rattle.std.proofs.lemmas.Simd.{map-map}
use Rattle.c_layout.specs.declared.tags.TagDef.{TagDef}
use Rattle.c_tree.specs.declared.programs.DataDef.{DataDef}
use Rattle.c_tree.specs.declared.typed.TypedExpr.{TypedExpr, roll-TypedExpr}
use Rattle.c_tree.specs.declared.typed.TypedKind.{TypedKind, roll-TypedKind, out-TypedKind, fold-TypedKind}
use Rattle.c_tree.specs.declared.typed.TypedKind.TheFolds.{map-TypedKind, map-TypedExpr, fold-roll-TypedKind, fold-roll-TypedExpr, fold_out-TypedKind, fold_out-TypedExpr, ind-TypedExpr, ind-TypedKind}
use Rattle.c_tree.specs.declared.typed.TypedKind.TheOpen.{TypedKind-F, TypedExpr-F}
use Rattle.c_tree.specs.Paths.{is_trailing}
use Rattle.elab_meaning.specs.Addresses.{Part, KindPart, kind_pointer, kind_place, kind_part, expr_part, part_of}
use Rattle.elab_constants.specs.Operands.{operand}

-- parts of parts
map_map : (A A' B B' C C' : Type 0) (f : A → B) (f' : A' → B') (g : B → C) (g' : B' → C') (y : TypedKind-F A A')
    → map-TypedKind B B' C C' g g' (map-TypedKind A A' B B' f f' y) ≡ map-TypedKind A A' C C' (λ a. g (f a)) (λ a. g' (f' a)) y
map_map A A' B B' C C' f f' g g' (TypedKind-F.Comma all) = ap (λ es. TypedKind-F.Comma es) (map-map g' f' all)
map_map A A' B B' C C' f f' g g' (TypedKind-F.Call callee args) = ap (λ es. TypedKind-F.Call callee es) (map-map g' f' args)
map_map A A' B B' C C' f f' g g' _ = refl

module _ (tags : List TagDef) (objects : List DataDef) where
  abbrev kind_of : TypedKind → KindPart
  kind_of = fold-TypedKind KindPart Part (kind_part tags objects) (expr_part tags objects)

  abbrev IsWholeKind : TypedKind → Type 0
  IsWholeKind k = (kind_of k).whole ≡ k

  abbrev IsWhole : TypedExpr → Type 0
  IsWhole e = (part_of tags objects e).whole ≡ e

  abbrev Kinds : Type 0
  Kinds = (k : TypedKind) × IsWholeKind k

  abbrev Exprs : Type 0
  Exprs = (e : TypedExpr) × IsWhole e

  -- the layer below a kind, whatever it is made of
  kind_below : (y : TypedKind-F Kinds Exprs)
      → (kind_of (roll-TypedKind (map-TypedKind Kinds Exprs TypedKind TypedExpr (λ a. a.0) (λ a. a.0) y))).whole
      ≡ roll-TypedKind (map-TypedKind Kinds Exprs TypedKind TypedExpr (λ a. a.0) (λ a. a.0) y)
  kind_below y =
      ap (λ k. k.whole)
      (fold-roll-TypedKind KindPart Part (kind_part tags objects) (expr_part tags objects)
      (map-TypedKind Kinds Exprs TypedKind TypedExpr (λ a. a.0) (λ a. a.0) y))
      ∙ ap (λ k. roll-TypedKind (map-TypedKind KindPart Part TypedKind TypedExpr (λ p. p.whole) (λ p. p.whole) k))
      (map_map Kinds Exprs TypedKind TypedExpr KindPart Part (λ a. a.0) (λ a. a.0) kind_of (part_of tags objects) y)
      ∙ ap roll-TypedKind
      (map_map Kinds Exprs KindPart Part TypedKind TypedExpr (λ a. kind_of a.0) (λ a. part_of tags objects a.0) (λ p. p.whole) (λ p. p.whole) y)
      ∙ ap (λ f. roll-TypedKind (map-TypedKind Kinds Exprs TypedKind TypedExpr f (λ a. (part_of tags objects a.0).whole) y)) (λ i a. a.1 i)
      ∙ ap (λ g. roll-TypedKind (map-TypedKind Kinds Exprs TypedKind TypedExpr (λ a. a.0) g y)) (λ i a. a.1 i)

  kind_whole : (x : TypedKind-F TypedKind TypedExpr) (y : TypedKind-F Kinds Exprs)
      → map-TypedKind Kinds Exprs TypedKind TypedExpr (λ a. a.0) (λ a. a.0) y ≡ x → IsWholeKind (roll-TypedKind x)
  kind_whole x y is = subst (λ x. IsWholeKind (roll-TypedKind x)) is (kind_below y)

  expr_below : (y : TypedExpr-F Kinds Exprs)
      → IsWhole (roll-TypedExpr (map-TypedExpr Kinds Exprs TypedKind TypedExpr (λ a. a.0) (λ a. a.0) y))
  expr_below y =
      ap (λ p. p.whole)
      (fold-roll-TypedExpr KindPart Part (kind_part tags objects) (expr_part tags objects)
      (map-TypedExpr Kinds Exprs TypedKind TypedExpr (λ a. a.0) (λ a. a.0) y))
      ∙ ap (λ k. record { kind = k; ctype = y.ctype; place = y.place }) y.kind.1

  expr_whole : (x : TypedExpr-F TypedKind TypedExpr) (y : TypedExpr-F Kinds Exprs)
      → map-TypedExpr Kinds Exprs TypedKind TypedExpr (λ a. a.0) (λ a. a.0) y ≡ x → IsWhole (roll-TypedExpr x)
  expr_whole x y is = subst (λ x. IsWhole (roll-TypedExpr x)) is (expr_below y)

  whole_is : (e : TypedExpr) → IsWhole e
  whole_is = ind-TypedExpr IsWholeKind IsWhole kind_whole expr_whole

  whole_kind : (k : TypedKind) → IsWholeKind k
  whole_kind = ind-TypedKind IsWholeKind IsWhole kind_whole expr_whole

  operand_is : (e : TypedExpr) → part_of tags objects e ≡ operand tags objects e
  operand_is e =
      ap (λ w. record { whole = w; pointer = (part_of tags objects e).pointer; place = (part_of tags objects e).place }) (whole_is e)

  -- a kind over its operands
  abbrev pub layered : TypedKind-F TypedKind TypedExpr → TypedKind-F KindPart Part
  layered k = map-TypedKind TypedKind TypedExpr KindPart Part kind_of (operand tags objects) k

  kind_is : (k : TypedKind) → kind_of k ≡ kind_part tags objects (layered (out-TypedKind k))
  kind_is k =
      fold_out-TypedKind KindPart Part (kind_part tags objects) (expr_part tags objects) k
      ∙ ap (λ f. kind_part tags objects (map-TypedKind TypedKind TypedExpr KindPart Part kind_of f (out-TypedKind k))) (λ i e. operand_is e i)

  -- a node by its kind
  node_is : (e : TypedExpr) → part_of tags objects e
      ≡ record { whole = e; pointer = (kind_of e.kind).pointer; place = (kind_of e.kind).place (is_trailing tags e) }
  node_is e =
      fold_out-TypedExpr KindPart Part (kind_part tags objects) (expr_part tags objects) e
      ∙ ap (λ k. by (record { kind = k; ctype = e.ctype; place = e.place })) (whole_kind e.kind)
    where
      by : TypedExpr → Part
      by whole = record { whole = whole; pointer = (kind_of e.kind).pointer; place = (kind_of e.kind).place (is_trailing tags whole) }

  pub pointer_is : (e : TypedExpr) → (part_of tags objects e).pointer ≡ kind_pointer tags objects (layered (out-TypedKind e.kind))
  pointer_is e = ap (λ p. p.pointer) (node_is e) ∙ ap (λ k. k.pointer) (kind_is e.kind)

  pub place_is : (e : TypedExpr)
      → (part_of tags objects e).place ≡ kind_place tags objects (layered (out-TypedKind e.kind)) (is_trailing tags e)
  place_is e = ap (λ p. p.place) (node_is e) ∙ ap (λ k. k.place (is_trailing tags e)) (kind_is e.kind)
