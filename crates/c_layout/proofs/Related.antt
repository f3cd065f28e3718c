-- One induction over types for all facts that compare two layouts of one type.
use Rattle.std.proofs.Common.{ℕ, ◌≤◌, subst, Option, None, Some, arith}
use Rattle.std.specs.Option.{option_map}
use Rattle.fc_base.specs.declared.levels.Width.TheVariants.{W1, W2, W4, W8}
use Rattle.fc_base.specs.declared.levels.Width.{Width}
use Rattle.fc_base.specs.Widths.{width_bytes}
use Rattle.c_layout.specs.declared.types.CType.{CType, ind-CType, roll-CType}
use Rattle.c_layout.specs.declared.types.CType.TheOpen.{CType-F}
use Rattle.c_layout.specs.declared.types.CType.TheFolds.{fold-roll-CType, map-CType}
use Rattle.c_layout.specs.declared.types.Layout.{Layout}
use Rattle.c_layout.specs.Layouts.{scalar, repeated, layer_layout, type_layout}

module _ (R : Option Layout → Option Layout → Type 0) (f g : ℕ → Option Layout) (none : R None None)
    (scalars : (n : ℕ) → 1 ≤ n → n ≤ 8 → R (Some (scalar n)) (Some (scalar n)))
    (arrays : (n : ℕ) (a b : Option Layout) → R a b → R (option_map (repeated n) a) (option_map (repeated n) b))
    (tags : (k : ℕ) → R (f k) (g k)) where
  integers : (w : Width) → R (Some (scalar (width_bytes w))) (Some (scalar (width_bytes w)))
  integers W1 = scalars 1 (omega arith) (omega arith)
  integers W2 = scalars 2 (omega arith) (omega arith)
  integers W4 = scalars 4 (omega arith) (omega arith)
  integers W8 = scalars 8 (omega arith) (omega arith)

  layers : (E : Type 0) (t : E → CType) → ((e : E) → R (type_layout f (t e)) (type_layout g (t e))) → (y : CType-F E) →
      R (layer_layout f (map-CType CType (Option Layout) (type_layout f) (map-CType E CType t y)))
      (layer_layout g (map-CType CType (Option Layout) (type_layout g) (map-CType E CType t y)))
  layers E t h CType-F.Void = none
  layers E t h (CType-F.Int w s c l) = integers w
  layers E t h (CType-F.Ptr of) = scalars 8 (omega arith) (omega arith)
  layers E t h (CType-F.Array of n) = arrays n _ _ (h of)
  layers E t h (CType-F.OpenArray of) = none
  layers E t h (CType-F.Struct k) = tags k
  layers E t h (CType-F.Union k) = tags k

  pub types_related : (t : CType) → R (type_layout f t) (type_layout g t)
  types_related = ind-CType (λ t. R (type_layout f t) (type_layout g t)) (λ x y is.
      subst (λ z. R (type_layout f (roll-CType z)) (type_layout g (roll-CType z))) is
      (rw (fold-roll-CType (Option Layout) (layer_layout f), fold-roll-CType (Option Layout) (layer_layout g))
      (layers _ (λ e. e.0) (λ e. e.1) y)))
