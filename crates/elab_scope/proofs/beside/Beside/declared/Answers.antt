use Rattle.std.proofs.Common.{ap, ◌∙◌}
use Rattle.std.specs.Option.{option_map}
use Rattle.elab_meaning.specs.Typing.{Beside}
use Rattle.elab_meaning.specs.Externals.{declared_of}
use Rattle.elab_scope.specs.Functions.{declared}
use Rattle.elab_scope.proofs.Said.{nothing_said, last_said}
use Rattle.elab_scope.proofs.beside.Beside.declared.Goals as goal

pub returns-in_err-number : goal.returns-in_err-number
returns-in_err-number c =
    ap (option_map (λ facts. declared c.args.name.now facts.now)) c.from_residual.ensures
    ∙ nothing_said c.args.name.now c.self.inside.functions c.in_err-number.ensures
    ∙ ap (λ (b : Beside). declared_of b.functions c.args.name.now) c.self.view_is

pub returns : goal.returns
returns c =
    last_said c.args.name.now c.self.inside.functions c.in_ok-number.number c.get.result c.in_ok-number.ensures c.get.ensures
    ∙ ap (λ (b : Beside). declared_of b.functions c.args.name.now) c.self.view_is
