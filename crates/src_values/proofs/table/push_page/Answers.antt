use Rattle.std.proofs.Common.{ap, ◌++◌, ◌∷◌, [], ◌∙◌}
use Rattle.src_values.proofs.Numbered.{push_page_is}
use Rattle.src_values.proofs.table.push_page.Goals as goal

pub returns-clause-pushed : goal.returns-clause-pushed
returns-clause-pushed c =
    push_page_is c.args.pages.now.items c.push-2.new.self.items c.push.new.self c.args.object c.requires.filled c.requires.full
    (c.in_ok-push.ensures.pushed ∙ ap (λ p. p ++ c.args.object ∷ []) c.none-page.ensures) c.in_ok-push-2.ensures.items
