use Rattle.std.proofs.Common.{Some}
use Rattle.macro_definitions.proofs.Tables.{table_updated}
use Rattle.macro_definitions.proofs.states.set_macro.Goals as goal

pub returns : goal.returns
returns c = table_updated c.args.macros.now c.insert.new.self c.args.name.now (Some c.args.meaning) c.in_ok-insert.ensures.updates
