use Rattle.std.proofs.Common.{◌∷◌, sym, subst, ap, ◌∙◌, arith}
use Rattle.src_lib.specs.Owners.{AreBelow, AreNumbers, blocks_of}
use Rattle.src_lib.proofs.Owning.{pushed_is, pushed_numbers}
use Rattle.src_lib.proofs.owners.Blocks.push.Goals as goal

pub invariant_of-self-2 : goal.invariant_of-self-2
invariant_of-self-2 c =
    subst AreNumbers (sym c.in_ok-insert.ensures.entries)
    (pushed_numbers c.self.inside.places.entries c.args.place c.args.object c.self.invariant)

pub returns-clause-pushed : goal.returns-clause-pushed
returns-clause-pushed c =
    let fits = c.ranges.object.fits in
    ap blocks_of c.in_ok-insert.ensures.entries
    ∙ pushed_is c.self.inside.places.entries c.args.place c.args.object c.self.invariant (omega (arith, fits))
    (subst (AreBelow c.args.object) (sym c.self.view_is) c.requires)
    ∙ ap (λ blocks. (c.args.place, c.args.object) ∷ blocks) c.self.view_is
