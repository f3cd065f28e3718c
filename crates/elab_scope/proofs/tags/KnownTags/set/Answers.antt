use Rattle.std.proofs.Common.{sym, subst}
use Rattle.std.specs.Prelude.{◌≡◌, IsSomeAnd, slice_get}
use Rattle.elab_scope.specs.Tags.{AreFound}
use Rattle.elab_scope.proofs.Positions.{kept_found}
use Rattle.elab_scope.proofs.tags.KnownTags.set.Goals as goal

pub invariant_of-self : goal.invariant_of-self
invariant_of-self c =
    subst (λ defs. AreFound defs c.self.inside.given c.self.inside.added) (sym c.set.ensures)
    (kept_found c.self.inside.tags c.self.inside.given c.self.inside.added c.args.tag c.args.def c.self.invariant
    (subst (λ defs. IsSomeAnd (slice_get defs c.args.tag) (λ old. old.name ≡ c.args.def.name)) (sym c.self.view_is) c.requires.named))
