-- A map of macros after a write.
use Rattle.std.proofs.Common.{◌≡◌, ℕ, Bool, true, false, cond, if◌then◌else◌, nat_eq, List, Option, option_map, refl, ap, ◌∙◌}
use Rattle.std.specs.Borrow.{Bor}
use Rattle.std.specs.Cmp.Lexicographic.{pointwise}
use Rattle.indexmap.specs.IndexMap.{IndexMap, UpdatesBy}
use Rattle.macro_items.specs.declared.Macro.{Macro}
use Rattle.macro_meaning.specs.Macros.{Name, same_name, with_macro}
use Rattle.macro_items.specs.Views.{table, macro_at, meaning_view}

abbrev pub same_key : Bor (List ℕ) → Bor (List ℕ) → Bool
same_key a b = pointwise nat_eq a.now b.now

key : Name → Bor (List ℕ)
key name = record { ref_ptr = (0, 0); now = name }

by_bool : (b : Bool) (w g : Option Macro)
    → option_map meaning_view (cond b w g) ≡ (if b then option_map meaning_view w else option_map meaning_view g)
by_bool true w g = refl
by_bool false w g = refl

pub table_updated : {S : Type 0} (m n : IndexMap (Bor (List ℕ)) Macro S) (name : Name) (w : Option Macro)
    → UpdatesBy same_key (λ k. pointwise nat_eq name k.now) m n w
    → table n ≡ with_macro name (option_map meaning_view w) (table m)
unfolding key
table_updated m n name w u =
    λ i other. (ap (option_map meaning_view) (u.0 (key other)) ∙ by_bool (same_name name other) w (macro_at m other)) i
