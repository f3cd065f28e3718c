-- The leaves of a list are those of its initialisers, one after the other.
use Rattle.std.proofs.Common.{◌≡◌, ℕ, ◌+◌, ◌<◌, List, [], ◌∷◌, ◌++◌, length, get_or, drop, sym, ap, ◌∙◌, append_assoc}
use Rattle.std.specs.Prelude.{flat_map}
use Rattle.std.proofs.lemmas.List.{at_drop_more}
use Rattle.std.proofs.lemmas.List.Elements.{filter_map-append}
use Rattle.std.proofs.lemmas.List.Folds.{flat_map-map}
use Rattle.fc_base.specs.declared.refusals.Place.{Place}
use Rattle.c_layout.specs.declared.tags.TagDef.{TagDef}
use Rattle.c_tree.specs.declared.programs.DataDef.{DataDef}
use Rattle.c_tree.specs.declared.programs.Link.{Link}
use Rattle.c_tree.specs.declared.typed.TypedExpr.{TypedExpr}
use Rattle.c_tree.specs.declared.typed.TypedInit.{TypedInit}
use Rattle.c_tree.specs.declared.typed.TypedInit.TheFolds.{fold-roll-TypedInit}
use Rattle.c_tree.specs.declared.typed.TypedInit.TheVariants as init
use Rattle.elab_meaning.specs.Initialisers.{Leaf, leaves, leaves_layer, link_of, links_of}

pub leaves-Expr : (at : ℕ) (x : TypedExpr) → leaves (init.Expr at x) ≡ record { offset = at; value = x } ∷ []
leaves-Expr at x = ap leaves (sym (init.rolls-Expr at x)) ∙ fold-roll-TypedInit (List Leaf) leaves_layer _

pub leaves-List : (items : List TypedInit) (place : Place) → leaves (init.List items place) ≡ flat_map leaves items
leaves-List items place =
    ap leaves (sym (init.rolls-List items place)) ∙ fold-roll-TypedInit (List Leaf) leaves_layer _ ∙ flat_map-map (λ ls. ls) leaves items

module _ (tags : List TagDef) (objects : List DataDef) where
  -- the links up to an initialiser, its own, and those behind it
  pub next_linked : (links : List Link) (items : List TypedInit) (i : ℕ) (item : TypedInit) → i < length items → item ≡ get_or items i item
      → (links ++ links_of tags objects (leaves item)) ++ links_of tags objects (flat_map leaves (drop (i + 1) items))
      ≡ links ++ links_of tags objects (flat_map leaves (drop i items))
  next_linked links items i item h is =
      append_assoc links _ _
      ∙ ap (λ ls. links ++ ls) (sym (filter_map-append (link_of tags objects) (leaves item) (flat_map leaves (drop (i + 1) items))))
      ∙ ap (λ x. links ++ links_of tags objects (leaves x ++ flat_map leaves (drop (i + 1) items))) is
      ∙ sym (at_drop_more (λ rest. links ++ links_of tags objects (flat_map leaves rest)) items i item h)
