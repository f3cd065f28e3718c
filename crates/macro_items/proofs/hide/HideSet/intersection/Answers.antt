use Rattle.std.proofs.Common.{ap, ◌∙◌}
use Rattle.std.proofs.lemmas.Result.{IfOk-weaker}
use Rattle.macro_meaning.specs.Macros.{has}
use Rattle.macro_items.proofs.Merging.{shared_ascends, shared_is}
use Rattle.macro_items.proofs.hide.HideSet.intersection.Goals as goal

pub of-requires : goal.of-requires
of-requires c = shared_ascends _ _ c.in_ok-names.names.items c.in_ok-names.ensures c.names.ensures.ascends

pub returns : goal.returns
returns c = IfOk-weaker c.of.result _ _
    (λ s e. ap has e ∙ shared_is _ _ c.in_ok-names.names.items _ _ c.names.ensures.names c.names-2.ensures.names c.in_ok-names.ensures)
    c.of.ensures
