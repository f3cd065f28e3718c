-- Every expression under two meanings of calls, where the second extends the first: induction on the tree.
use Rattle.std.proofs.Common.{◌≡◌, ℕ, List, [], ◌∷◌, map, refl, sym, ap, ◌∙◌, subst}
use Rattle.std.proofs.lemmas.Simd.{map-map}
use Rattle.c_layout.specs.declared.tags.TagDef.{TagDef}
use Rattle.c_layout.specs.declared.types.CType.{CType}
use Rattle.c_tree.specs.declared.operators.PrefixOp.TheVariants as prefix_op
use Rattle.c_tree.specs.declared.typed.TypedExpr.{TypedExpr, roll-TypedExpr}
use Rattle.c_tree.specs.declared.typed.TypedKind.{TypedKind, roll-TypedKind, fold-TypedKind}
use Rattle.c_tree.specs.declared.typed.TypedKind.TheFolds.{map-TypedKind, map-TypedExpr, fold-roll-TypedKind, fold-roll-TypedExpr, ind-TypedExpr}
use Rattle.c_tree.specs.declared.typed.TypedKind.TheOpen.{TypedKind-F, TypedExpr-F}
use Rattle.fc_base.specs.declared.refusals.Place.{Place}
use Rattle.object_meaning.specs.declared.values.Value.{Value}
use Rattle.object_meaning.specs.declared.values.Value.TheVariants.{Int}
use Rattle.plain_meaning.specs.Actions.{pure}
use Rattle.plain_meaning.specs.Expressions.{Calls, Part, KindPart, type_of, kind_value, kind_lvalue, kind_part, expr_part, part_of, value_of}
use Rattle.plain_meaning.specs.Values.{size_in}
use Rattle.plain_meaning.proofs.Extends.{Extends, extends_pure}
use Rattle.plain_meaning.proofs.ExtendsValues.{extends_variable}
use Rattle.plain_meaning.proofs.ExtendsNodes.{part, Alike, alike, AllAlike, none, more, extends_indirection, extends_indexed, extends_selected, extends_data_object, extends_loaded, extends_cast, extends_binary, extends_chosen, extends_last, extends_assignment, extends_prefix, extends_postfix, extends_called, extends_sized}

pub record KindAlike (low high : ℕ) (k l : KindPart) : Type 0 where
  pub whole : k.whole ≡ l.whole
  pub value : (e : TypedExpr) → Extends low high (k.value e) (l.value e)
  pub lvalue : (e : TypedExpr) → Extends low high (k.lvalue e) (l.lvalue e)

wholes : {low high : ℕ} (ps qs : List Part) → AllAlike low high ps qs → map (λ p. p.whole) ps ≡ map (λ p. p.whole) qs
wholes _ _ none = refl
wholes _ _ (more _ _ ps qs (alike e v w x y h k) all) = ap (λ es. e ∷ es) (wholes ps qs all)

same_whole : {low high : ℕ} (p q : Part) → Alike low high p q → p.whole ≡ q.whole
same_whole _ _ (alike e v w x y h k) = refl

-- parts of parts
pub map_map : (A A' B B' C C' : Type 0) (f : A → B) (f' : A' → B') (g : B → C) (g' : B' → C') (y : TypedKind-F A A')
    → map-TypedKind B B' C C' g g' (map-TypedKind A A' B B' f f' y) ≡ map-TypedKind A A' C C' (λ a. g (f a)) (λ a. g' (f' a)) y
map_map A A' B B' C C' f f' g g' (TypedKind-F.Comma all) = ap (λ es. TypedKind-F.Comma es) (map-map g' f' all)
map_map A A' B B' C C' f f' g g' (TypedKind-F.Call callee args) = ap (λ es. TypedKind-F.Call callee es) (map-map g' f' args)
map_map A A' B B' C C' f f' g g' _ = refl

module _ {low high : ℕ} (tags : List TagDef) (c d : Calls)
    (calls : (n : ℕ) (at : Place) (vs : List Value) → Extends low high (c n at vs) (d n at vs)) where
  -- a node whose kind is alike
  node_alike : (k l : KindPart) (t : CType) (at : Place) → KindAlike low high k l
      → Alike low high (expr_part tags c (record { kind = k; ctype = t; place = at })) (expr_part tags d (record { kind = l; ctype = t; place = at }))
  node_alike k l t at h =
      let e : TypedKind → TypedExpr = λ kind. record { kind = kind; ctype = t; place = at } in
      subst (λ kind. Alike low high (expr_part tags c (record { kind = k; ctype = t; place = at })) (part (e kind) (l.value (e kind)) (l.lvalue (e kind))))
      h.whole
      (alike (e k.whole) (k.value (e k.whole)) (l.value (e k.whole)) (k.lvalue (e k.whole)) (l.lvalue (e k.whole)) (h.value (e k.whole)) (h.lvalue (e k.whole)))

  extends_size : (p q : Part) → Alike low high p q
      → Extends low high (pure (Int (size_in tags (type_of p)))) (pure (Int (size_in tags (type_of q))))
  extends_size _ _ (alike e v w x y h k) = extends_pure _

  -- a kind whose parts are alike
  module _ (A A' : Type 0) (left right : A → KindPart) (p q : A' → Part) (exprs : (a : A') → Alike low high (p a) (q a)) where
    all_alike : (es : List A') → AllAlike low high (map p es) (map q es)
    all_alike [] = none
    all_alike (e ∷ es) = more _ _ _ _ (exprs e) (all_alike es)

    layer_whole : (y : TypedKind-F A A')
        → map-TypedKind KindPart Part TypedKind TypedExpr (λ p. p.whole) (λ p. p.whole) (map-TypedKind A A' KindPart Part left p y)
        ≡ map-TypedKind KindPart Part TypedKind TypedExpr (λ p. p.whole) (λ p. p.whole) (map-TypedKind A A' KindPart Part right q y)
    layer_whole (TypedKind-F.Local n) = refl
    layer_whole (TypedKind-F.Object n) = refl
    layer_whole (TypedKind-F.Number n) = refl
    layer_whole (TypedKind-F.Str text) = refl
    layer_whole (TypedKind-F.Comma all) = ap (λ es. TypedKind-F.Comma es) (wholes _ _ (all_alike all))
    layer_whole (TypedKind-F.Assign o to from) = cc (same_whole _ _ (exprs to), same_whole _ _ (exprs from))
    layer_whole (TypedKind-F.Cond t a b) = cc (same_whole _ _ (exprs t), same_whole _ _ (exprs a), same_whole _ _ (exprs b))
    layer_whole (TypedKind-F.Binary o a b) = cc (same_whole _ _ (exprs a), same_whole _ _ (exprs b))
    layer_whole (TypedKind-F.Cast of added) = cc (same_whole _ _ (exprs of))
    layer_whole (TypedKind-F.Prefix o of) = cc (same_whole _ _ (exprs of))
    layer_whole (TypedKind-F.Postfix o of) = cc (same_whole _ _ (exprs of))
    layer_whole (TypedKind-F.SizeofExpr of) = cc (same_whole _ _ (exprs of))
    layer_whole (TypedKind-F.SizeofType of) = refl
    layer_whole (TypedKind-F.Index a b) = cc (same_whole _ _ (exprs a), same_whole _ _ (exprs b))
    layer_whole (TypedKind-F.Call callee args) = ap (λ es. TypedKind-F.Call callee es) (wholes _ _ (all_alike args))
    layer_whole (TypedKind-F.Member base arrow member) = cc (same_whole _ _ (exprs base))
    layer_whole (TypedKind-F.SizeCall pointer mode) = cc (same_whole _ _ (exprs pointer), same_whole _ _ (exprs mode))

    layer_value : (y : TypedKind-F A A') (e : TypedExpr)
        → Extends low high (kind_value tags c (map-TypedKind A A' KindPart Part left p y) e) (kind_value tags d (map-TypedKind A A' KindPart Part right q y) e)
    layer_value (TypedKind-F.Local n) e = extends_loaded tags c d calls _ _ e (extends_variable n)
    layer_value (TypedKind-F.Object n) e = extends_loaded tags c d calls _ _ e (extends_data_object tags c d calls n)
    layer_value (TypedKind-F.Number n) e = extends_pure _
    layer_value (TypedKind-F.Str text) e = extends_pure _
    layer_value (TypedKind-F.Comma all) e = extends_last tags c d calls _ _ (all_alike all)
    layer_value (TypedKind-F.Assign o to from) e = extends_assignment tags c d calls o _ _ _ _ e (exprs to) (exprs from)
    layer_value (TypedKind-F.Cond t a b) e = extends_chosen tags c d calls _ _ _ _ _ _ e (exprs t) (exprs a) (exprs b)
    layer_value (TypedKind-F.Binary o a b) e = extends_binary tags c d calls o _ _ _ _ e (exprs a) (exprs b)
    layer_value (TypedKind-F.Cast of added) e = extends_cast tags c d calls _ _ e (exprs of)
    layer_value (TypedKind-F.Prefix o of) e = extends_prefix tags c d calls o _ _ e (exprs of)
    layer_value (TypedKind-F.Postfix o of) e = extends_postfix tags c d calls o _ _ e (exprs of)
    layer_value (TypedKind-F.SizeofExpr of) e = extends_size _ _ (exprs of)
    layer_value (TypedKind-F.SizeofType of) e = extends_pure _
    layer_value (TypedKind-F.Index a b) e = extends_loaded tags c d calls _ _ e (extends_indexed tags c d calls _ _ _ _ e (exprs a) (exprs b))
    layer_value (TypedKind-F.Call callee args) e = extends_called tags c d calls callee _ _ e (all_alike args)
    layer_value (TypedKind-F.Member base arrow member) e =
        extends_loaded tags c d calls _ _ e (extends_selected tags c d calls _ _ arrow member e (exprs base))
    layer_value (TypedKind-F.SizeCall pointer mode) e = extends_sized tags c d calls _ _ _ _ e (exprs pointer) (exprs mode)

    layer_lvalue : (y : TypedKind-F A A') (e : TypedExpr)
        → Extends low high (kind_lvalue tags c (map-TypedKind A A' KindPart Part left p y) e) (kind_lvalue tags d (map-TypedKind A A' KindPart Part right q y) e)
    layer_lvalue (TypedKind-F.Local n) e = extends_variable n
    layer_lvalue (TypedKind-F.Object n) e = extends_data_object tags c d calls n
    layer_lvalue (TypedKind-F.Prefix prefix_op.Indirection of) e = extends_indirection tags c d calls _ _ e (exprs of)
    layer_lvalue (TypedKind-F.Index a b) e = extends_indexed tags c d calls _ _ _ _ e (exprs a) (exprs b)
    layer_lvalue (TypedKind-F.Member base arrow member) e = extends_selected tags c d calls _ _ arrow member e (exprs base)
    layer_lvalue _ e = extends_pure _

    layer_alike : (y : TypedKind-F A A')
        → KindAlike low high (kind_part tags c (map-TypedKind A A' KindPart Part left p y)) (kind_part tags d (map-TypedKind A A' KindPart Part right q y))
    layer_alike y = record { whole = ap roll-TypedKind (layer_whole y); value = layer_value y; lvalue = layer_lvalue y }

  abbrev kind_by : Calls → TypedKind → KindPart
  kind_by c = fold-TypedKind KindPart Part (kind_part tags c) (expr_part tags c)

  abbrev IsKindAlike : TypedKind → Type 0
  IsKindAlike k = KindAlike low high (kind_by c k) (kind_by d k)

  abbrev pub IsAlike : TypedExpr → Type 0
  IsAlike e = Alike low high (part_of tags c e) (part_of tags d e)

  -- a kind by what is below it, in whichever form that is given
  module _ (A A' : Type 0) (f : A → TypedKind) (g : A' → TypedExpr) where
    abbrev below : Calls → TypedKind-F A A' → KindPart
    below c y = kind_part tags c (map-TypedKind A A' KindPart Part (λ a. kind_by c (f a)) (λ a. part_of tags c (g a)) y)

    abbrev rolled : TypedKind-F A A' → TypedKind
    rolled y = roll-TypedKind (map-TypedKind A A' TypedKind TypedExpr f g y)

    kind_is : (c : Calls) (y : TypedKind-F A A') → kind_by c (rolled y) ≡ below c y
    kind_is c y =
        fold-roll-TypedKind KindPart Part (kind_part tags c) (expr_part tags c) (map-TypedKind A A' TypedKind TypedExpr f g y)
        ∙ ap (kind_part tags c) (map_map A A' TypedKind TypedExpr KindPart Part f g (kind_by c) (part_of tags c) y)

    rolled_alike : ((a : A') → IsAlike (g a)) → (y : TypedKind-F A A') → IsKindAlike (rolled y)
    rolled_alike exprs y =
        subst (λ k. KindAlike low high k (kind_by d (rolled y))) (sym (kind_is c y))
        (subst (λ k. KindAlike low high (below c y) k) (sym (kind_is d y))
        (layer_alike A A' (λ a. kind_by c (f a)) (λ a. kind_by d (f a)) (λ a. part_of tags c (g a)) (λ a. part_of tags d (g a)) exprs y))

    kind_alike : ((a : A') → IsAlike (g a)) → (x : TypedKind-F TypedKind TypedExpr) (y : TypedKind-F A A')
        → map-TypedKind A A' TypedKind TypedExpr f g y ≡ x → IsKindAlike (roll-TypedKind x)
    kind_alike exprs x y is = subst (λ x. IsKindAlike (roll-TypedKind x)) is (rolled_alike exprs y)

    abbrev node : TypedExpr-F A A' → TypedExpr
    node y = roll-TypedExpr (map-TypedExpr A A' TypedKind TypedExpr f g y)

    node_is : (c : Calls) (y : TypedExpr-F A A')
        → part_of tags c (node y) ≡ expr_part tags c (record { kind = kind_by c (f y.kind); ctype = y.ctype; place = y.place })
    node_is c y = fold-roll-TypedExpr KindPart Part (kind_part tags c) (expr_part tags c) (map-TypedExpr A A' TypedKind TypedExpr f g y)

    node_rolled : ((a : A) → IsKindAlike (f a)) → (y : TypedExpr-F A A') → IsAlike (node y)
    node_rolled kinds y =
        subst (λ p. Alike low high p (part_of tags d (node y))) (sym (node_is c y))
        (subst (λ p. Alike low high (expr_part tags c (record { kind = kind_by c (f y.kind); ctype = y.ctype; place = y.place })) p) (sym (node_is d y))
        (node_alike (kind_by c (f y.kind)) (kind_by d (f y.kind)) y.ctype y.place (kinds y.kind)))

    expr_alike : ((a : A) → IsKindAlike (f a)) → (x : TypedExpr-F TypedKind TypedExpr) (y : TypedExpr-F A A')
        → map-TypedExpr A A' TypedKind TypedExpr f g y ≡ x → IsAlike (roll-TypedExpr x)
    expr_alike kinds x y is = subst (λ x. IsAlike (roll-TypedExpr x)) is (node_rolled kinds y)

  pub all_exprs : (e : TypedExpr) → IsAlike e
  all_exprs = ind-TypedExpr IsKindAlike IsAlike (λ x y is. kind_alike _ _ (λ a. a.0) (λ a. a.0) (λ a. a.1) x y is)
      (λ x y is. expr_alike _ _ (λ a. a.0) (λ a. a.0) (λ a. a.1) x y is)

  extends_part : (p q : Part) → Alike low high p q → Extends low high p.value q.value
  extends_part _ _ (alike e v w x y h k) = h

  pub extends_value : (e : TypedExpr) → Extends low high (value_of tags c e) (value_of tags d e)
  extends_value e = extends_part _ _ (all_exprs e)
