-- What is known before the first line.
use Rattle.std.proofs.Common.{◌≡◌, ℕ, nat_eq, List, [], Some, option_map, ap, ◌∙◌}
use Rattle.std.specs.Borrow.{Bor}
use Rattle.std.specs.Cmp.Lexicographic.{pointwise}
use Rattle.std.specs.Map.{lookup}
use Rattle.indexmap.specs.IndexMap.{IndexMap}
use Rattle.fc_base.specs.declared.Level.{Level}
use Rattle.macro_meaning.specs.Macros.{Name, Meaning, Macros, with_macro, no_macros}
use Rattle.macro_meaning.specs.Definitions.{fortify_source}
use Rattle.macro_meaning.specs.Moves.{State, start}
use Rattle.macro_items.specs.declared.Macro.{Macro}
use Rattle.macro_items.specs.Views.{table, meaning_view}

-- an empty map has no macros
pub table_empty : {S : Type 0} (m : IndexMap (Bor (List ℕ)) Macro S) → m.entries ≡ [] → table m ≡ no_macros
table_empty m e = λ i name. option_map meaning_view (lookup (λ k. pointwise nat_eq name k.now) (e i))

pub started : (ms new : Macros) (e : Name × Meaning) (level : Level) → ms ≡ no_macros → e ≡ fortify_source level
    → new ≡ with_macro e.0 (Some e.1) ms
    → ◌≡◌ {A = State} (record { macros = new; groups = []; headers = [] }) (start level)
started ms new e level m f n =
    let same : new ≡ with_macro (fortify_source level).0 (Some (fortify_source level).1) no_macros = n
    ∙ ap (λ (x : Name × Meaning). with_macro x.0 (Some x.1) ms) f
    ∙ ap (with_macro (fortify_source level).0 (Some (fortify_source level).1)) m in
    let see : Macros → State = λ x. record { macros = x; groups = []; headers = [] } in ap see same
