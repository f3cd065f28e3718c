-- The layouts of types by their forms.
use Rattle.std.proofs.Common.{◌≡◌, ℕ, rules, Option}
use Rattle.std.specs.Option.{option_map}
use Rattle.c_layout.specs.declared.types.CType.{CType, the_lemmas}
use Rattle.c_layout.specs.declared.types.CType.TheVariants.{Array}
use Rattle.c_layout.specs.declared.types.Layout.{Layout}
use Rattle.c_layout.specs.Layouts.{repeated, type_layout}

pub type_layout-array : (f : ℕ → Option Layout) (of : CType) (n : ℕ) → type_layout f (Array of n) ≡ option_map (repeated n) (type_layout f of)
type_layout-array f of n = search (rules, the_lemmas)
