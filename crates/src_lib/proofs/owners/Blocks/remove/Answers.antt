use Rattle.std.proofs.Common.{not, filter, sym, subst, ap, ◌∙◌, arith}
use Rattle.std.specs.Prelude.{◌==◌}
use Rattle.src_lib.specs.Owners.{AreNumbers, blocks_of}
use Rattle.src_lib.proofs.Owning.{removed_is, removed_numbers}
use Rattle.src_lib.proofs.owners.Blocks.remove.Goals as goal

pub invariant_of-self : goal.invariant_of-self
invariant_of-self c = subst AreNumbers (sym c.remove.ensures.entries) (removed_numbers _ c.self.inside.places.entries c.self.invariant)

pub returns : goal.returns
returns c =
    let fits = c.ranges.object.fits in
    ap blocks_of c.remove.ensures.entries
    ∙ removed_is c.self.inside.places.entries c.args.object c.self.invariant (omega (arith, fits)) c.len-count.ensures.ordered
    ∙ ap (filter (λ block. not (block.1 == c.args.object))) c.self.view_is
