use Rattle.macro_items.specs.Views.{table, meaning_view}
use Rattle.c_macros.proofs.Starting.{table_empty, started}
use Rattle.c_macros.proofs.expansion.start.Goals as goal

pub returns : goal.returns
returns c =
    rw (c.new-groups.ensures.items, c.new-headers.ensures.items)
    (started (table c.new-macros.result) (table c.set_macro.new.macros)
    (c.in_ok-name.name.now, meaning_view c.in_ok-name.meaning) c.args.level
    (table_empty c.new-macros.result c.new-macros.ensures.empty) c.in_ok-name.ensures c.in_ok-set_macro.ensures)
