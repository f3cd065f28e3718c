use Rattle.std.proofs.Common.{map, ap, ◌∙◌}
use Rattle.elab_scope.specs.Functions.{with_name}
use Rattle.elab_scope.proofs.NamesOnce.{named_once}
use Rattle.elab_scope.proofs.numbered.Numbered.push.Goals as goal

pub returns-clause-ok : goal.returns-clause-ok
returns-clause-ok c =
    ap (map (λ key. key.items)) c.in_ok-insert.ensures.keys ∙ named_once (λ key. key.items) c.self.inside.names.keys c.in_ok-name.name
    ∙ ap (λ name. with_name name (map (λ key. key.items) c.self.inside.names.keys)) c.in_ok-name.ensures.items ∙ ap (with_name c.args.name.now) c.self.view_is
