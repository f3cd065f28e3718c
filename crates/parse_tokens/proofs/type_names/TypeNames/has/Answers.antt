use Rattle.std.proofs.Common.{◌∙◌, ap}
use Rattle.parse_meaning.specs.Terminals.{has}
use Rattle.parse_tokens.proofs.Names.{has_keys}
use Rattle.parse_tokens.proofs.type_names.TypeNames.has.Goals as goal

pub returns : goal.returns
returns c = c.contains.ensures ∙ has_keys (λ key. key.items) c.self.inside.names.keys c.args.name.now
    ∙ ap (λ names. has names c.args.name.now) c.self.view_is
