use Rattle.std.proofs.Common.{◌≡◌, ◌∷◌, [], true, Ok, refl, ap, ◌∙◌}
use Rattle.std.proofs.lemmas.Result.{IfOk-weaker}
use Rattle.macro_meaning.specs.Macros.{has}
use Rattle.macro_items.specs.HideSets.{names}
use Rattle.macro_items.proofs.Merging.{merge, merged_ascends, merged_is, one_ascends, has_it}
use Rattle.macro_items.proofs.Searching.{found, inserted}
use Rattle.macro_items.proofs.hide.HideSet.with.Goals.{In_ok-names-in-Err}
use Rattle.macro_items.proofs.hide.HideSet.with.Goals as goal

merges : (c : In_ok-names-in-Err) → names c.in_ok-names-in-Err.names.items ≡ merge (c.args.name.now ∷ []) (names c.names-names.result.now)
merges c =
    inserted c.args.name.now c.names-names.result.now c.names-names.ensures.ascends c.args.name refl c.in_ok-names-in-Err.names.items
    c.in-Err.at c.in-Err.ensures.bound c.in-Err.ensures.position c.in_ok-names-in-Err.ensures

pub of-requires : goal.of-requires
of-requires c = merged_ascends (c.args.name ∷ []) _ c.in_ok-names-in-Err.names.items (merges c)
    (one_ascends c.args.name.now) c.names-names.ensures.ascends

pub returns-in-Ok : goal.returns-in-Ok
returns-in-Ok c =
    let is : true ≡ has (names c.names-names.result.now) c.args.name.now =
    found c.args.name.now c.names-names.result.now c.names-names.ensures.ascends
    (Ok c.in-Ok.field-0) c.in-Ok.ensures.bound c.in-Ok.ensures.position in
    IfOk-weaker c.copied.result _ _
    (λ s e. ap has e ∙ has_it c.args.name.now c.args.self.now (rw (← c.names-names.ensures.names) is)) c.copied.ensures

pub returns-in_ok-names-in-Err : goal.returns-in_ok-names-in-Err
returns-in_ok-names-in-Err c =
    IfOk-weaker c.of.result _ _
    (λ s e. ap has e ∙ merged_is (c.args.name ∷ []) _ c.in_ok-names-in-Err.names.items
    (c.args.name.now ∷ []) _ refl c.names-names.ensures.names (merges c.before)) c.of.ensures
