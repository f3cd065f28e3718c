use Rattle.std.proofs.Common.{ap, ◌∙◌}
use Rattle.std.specs.Prelude.{position}
use Rattle.std.specs.Str.{bytes_eq}
use Rattle.elab_scope.proofs.NamesOnce.{first_of}
use Rattle.elab_scope.proofs.numbered.Numbered.number_of.Goals as goal

pub returns : goal.returns
returns c =
    c.get_index_of.ensures.index ∙ first_of (λ key. key.items) c.args.name.now c.self.inside.names.keys
    ∙ ap (position (λ other. bytes_eq other c.args.name.now)) c.self.view_is
