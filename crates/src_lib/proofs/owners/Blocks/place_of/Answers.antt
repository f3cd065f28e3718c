use Rattle.std.proofs.Common.{ap, ◌∙◌, arith}
use Rattle.object_meaning.specs.Allocations.{block_place}
use Rattle.src_lib.proofs.Owning.{place_is}
use Rattle.src_lib.proofs.owners.Blocks.place_of.Goals as goal

pub returns-in-Some : goal.returns-in-Some
returns-in-Some c =
    let fits = c.ranges.object.fits in
    c.in-Some.ensures.value ∙ place_is c.self.inside.places.entries c.args.object c.self.invariant (omega (arith, fits))
    ∙ ap (λ blocks. block_place blocks c.args.object) c.self.view_is

pub returns-in-None : goal.returns-in-None
returns-in-None c =
    let fits = c.ranges.object.fits in
    c.in-None.ensures.value ∙ place_is c.self.inside.places.entries c.args.object c.self.invariant (omega (arith, fits))
    ∙ ap (λ blocks. block_place blocks c.args.object) c.self.view_is
