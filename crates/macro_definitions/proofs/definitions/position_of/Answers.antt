use Rattle.std.proofs.Common.{◌∙◌}
use Rattle.macro_meaning.specs.Macros.{same_name}
use Rattle.macro_definitions.proofs.Searches.{position_named}
use Rattle.macro_definitions.proofs.definitions.position_of.Goals as goal

pub returns : goal.returns
returns c = c.get_index_of.ensures.index ∙ position_named (same_name c.args.name.now) c.args.parameters.now.keys
