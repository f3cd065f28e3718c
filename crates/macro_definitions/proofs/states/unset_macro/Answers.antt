use Rattle.std.proofs.Common.{None}
use Rattle.macro_definitions.proofs.Tables.{table_updated}
use Rattle.macro_definitions.proofs.states.unset_macro.Goals as goal

pub returns : goal.returns
returns c = table_updated c.args.macros.now c.swap_remove.new.self c.args.name.now None c.swap_remove.ensures.updates
