use Rattle.std.proofs.Common.{ap, ◌∙◌}
use Rattle.std.specs.Prelude.{is_some}
use Rattle.elab_meaning.specs.Scope.{has_enum}
use Rattle.elab_scope.specs.Names.{names_of}
use Rattle.elab_scope.proofs.LastNumbers.{some_last}
use Rattle.elab_scope.proofs.scope.Scope.has_enum.Goals as goal

pub returns : goal.returns
returns c =
    c.is_some.ensures ∙ ap is_some c.last.ensures ∙ some_last 0 c.args.name.now (names_of c.self.inside.enums)
    ∙ ap (has_enum c.args.name.now) c.self.view_is
