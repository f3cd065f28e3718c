use Rattle.std.proofs.Common.{◌∙◌, ap, not}
use Rattle.macro_meaning.specs.Macros.{same_name}
use Rattle.macro_definitions.proofs.Searches.{any_named}
use Rattle.macro_definitions.proofs.definitions.add_parameter.Goals as goal

pub returns-clause-new : goal.returns-clause-new
returns-clause-new c = c.in_ok-is_new.ensures.added ∙ ap not (any_named (same_name c.args.name.now) c.args.parameters.now.keys)
