-- The counts of the functions that are worked by hand.
use Rattle.std.proofs.Common.{rules, [], ◌∷◌, refl}
use Rattle.c_layout.specs.declared.types.CType as c
use Rattle.c_tree.specs.declared.typed.TypedInit as i
use Rattle.c_tree.specs.declared.typed.TypedKind as k
use Rattle.c_tree.specs.declared.typed.TypedStmt as t
use Rattle.c_tree.specs.Rows.{HasCounts, form, counting, inlined}

pub form_row : HasCounts (form ∷ []) form 672
form_row = (search (rules, c.the_lemmas, i.the_lemmas, k.the_lemmas, t.the_lemmas), refl)

pub counting_row : HasCounts (counting ∷ inlined ∷ []) counting 2432
counting_row = (search (rules, c.the_lemmas, i.the_lemmas, k.the_lemmas, t.the_lemmas), refl)
