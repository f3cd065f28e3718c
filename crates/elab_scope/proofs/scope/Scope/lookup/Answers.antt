use Rattle.std.proofs.Common.{ap, ◌∙◌}
use Rattle.std.specs.Option.{option_map}
use Rattle.elab_meaning.specs.Scope.{lookup}
use Rattle.elab_scope.proofs.LastNumbers.{not_named, not_kept, named}
use Rattle.elab_scope.proofs.scope.Scope.lookup.Goals as goal

pub returns-in_err-number : goal.returns-in_err-number
returns-in_err-number c =
    ap (option_map (λ found. (found.0, found.1.now))) c.from_residual.ensures
    ∙ not_named c.args.name.now c.self.inside.names c.in_err-number.ensures ∙ ap (lookup c.args.name.now) c.self.view_is

pub returns-in_err-what : goal.returns-in_err-what
returns-in_err-what c =
    ap (option_map (λ found. (found.0, found.1.now))) c.from_residual-in_err-what.ensures
    ∙ not_kept c.args.name.now c.self.inside.names c.in_ok-number.number c.in_ok-number.ensures c.in_err-what.ensures ∙ ap (lookup c.args.name.now) c.self.view_is

pub returns : goal.returns
returns c =
    named c.args.name.now c.self.inside.names c.in_ok-number.number c.in_ok-what.what.now c.in_ok-number.ensures c.in_ok-what.ensures
    ∙ ap (lookup c.args.name.now) c.self.view_is
