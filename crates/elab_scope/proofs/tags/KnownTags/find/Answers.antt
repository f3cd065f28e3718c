use Rattle.std.proofs.Common.{ap, ◌∙◌}
use Rattle.std.specs.Prelude.{position}
use Rattle.elab_meaning.specs.Scope.{is_named}
use Rattle.elab_scope.proofs.Positions.{found_first, found_behind}
use Rattle.elab_scope.proofs.tags.KnownTags.find.Goals as goal

pub returns-in-Some : goal.returns-in-Some
returns-in-Some c =
    found_first (is_named c.args.name.now) c.self.inside.given c.self.inside.tags c.in-Some.number c.self.invariant.within c.in-Some.ensures
    ∙ ap (position (is_named c.args.name.now)) c.self.view_is

pub returns-in-None : goal.returns-in-None
returns-in-None c =
    c.get.ensures ∙ c.self.invariant.found c.args.name.now
    ∙ found_behind (is_named c.args.name.now) c.self.inside.given c.self.inside.tags c.self.invariant.within c.in-None.ensures
    ∙ ap (position (is_named c.args.name.now)) c.self.view_is
