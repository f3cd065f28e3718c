use Rattle.std.proofs.Common.{ap, ◌∙◌}
use Rattle.std.proofs.lemmas.Result.{IfOk-weaker}
use Rattle.macro_meaning.specs.Macros.{has}
use Rattle.macro_items.proofs.Merging.{merged_ascends, merged_is}
use Rattle.macro_items.proofs.hide.HideSet.union.Goals as goal

pub of-requires : goal.of-requires
of-requires c = merged_ascends _ _ c.in_ok-names.names.items c.in_ok-names.ensures c.names-2.ensures.ascends c.names-3.ensures.ascends

pub returns : goal.returns
returns c = IfOk-weaker c.of.result _ _
    (λ s e. ap has e ∙ merged_is _ _ c.in_ok-names.names.items _ _ c.names-2.ensures.names c.names-3.ensures.names c.in_ok-names.ensures)
    c.of.ensures
