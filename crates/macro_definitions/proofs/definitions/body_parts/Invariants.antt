use Rattle.std.proofs.Common.{◌≡◌, map, take, option_map}
use Rattle.macro_meaning.specs.Definitions.{body_part}
use Rattle.macro_items.specs.Views.{names, body_part_views}
use Rattle.macro_definitions.proofs.definitions.body_parts.Given as goal

abbrev pub invariant-loop-token : goal.invariant-loop-token
invariant-loop-token l =
    body_part_views l.body.items ≡ map (body_part (option_map (λ s. names s.keys) l.parameters)) (take l.token-index l.tokens)
