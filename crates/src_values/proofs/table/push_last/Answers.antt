use Rattle.std.proofs.Common.{◌∙◌}
use Rattle.src_values.proofs.Numbered.{push_last_is}
use Rattle.src_values.proofs.table.push_last.Goals as goal

pub returns-clause-pushed : goal.returns-clause-pushed
returns-clause-pushed c =
    push_last_is c.args.pages.now.items c.index_mut-page.result.now c.push.new.self c.args.object c.len-last.result c.requires.filled
    c.requires.room
    (c.len-last.ensures ∙ c.args.pages.now.ok.0) c.index_mut-page.ensures.value c.in_ok-push.ensures.pushed
