use Rattle.std.proofs.Common.{◌∙◌, ap, map}
use Rattle.parse_tokens.specs.Names.{with_name}
use Rattle.parse_tokens.proofs.Names.{keys_pushed}
use Rattle.parse_tokens.proofs.type_names.TypeNames.push.Goals as goal

pub returns-clause-ok : goal.returns-clause-ok
returns-clause-ok c =
    ap (map (λ key. key.items)) c.in_ok-insert.ensures.keys ∙ keys_pushed (λ key. key.items) c.self.inside.names.keys c.in_ok-name.name
    ∙ ap (λ names. with_name c.in_ok-name.name.items names) c.self.view_is
    ∙ ap (λ name. with_name name c.args.self.now) (c.in_ok-name.ensures.items ∙ c.bytes.ensures)
