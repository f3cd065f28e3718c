-- Definitions and their parameters as plain data.
use Rattle.std.specs.Prelude.{List, option_map}
use Rattle.std.specs.Borrow.{Bor}
use Rattle.c_tokens.specs.declared.Token.{Token}
use Rattle.macro_meaning.specs.Macros.{Name}
use Rattle.macro_meaning.specs.Definitions.{Definition, Parameters}
use Rattle.macro_items.specs.Views.{names}
use Rattle.macro_definitions.specs.declared.definitions.Definition.{Definition as Read}
use Rattle.macro_definitions.specs.declared.definitions.Parameters.{Parameters as Names}

abbrev pub definition_view : Read → Definition
definition_view d = record { name = d.name.now; parameters = option_map (λ s. names s.keys) d.parameters; body = d.body.now }

abbrev pub parameters_view : Names → Parameters
parameters_view p = record { names = names p.names.keys; rest = p.rest.now }

-- the parameters of these names, and the tokens after them
abbrev pub with_rest : List Name → Bor (List Token) → Parameters
with_rest names rest = record { names = names; rest = rest.now }
