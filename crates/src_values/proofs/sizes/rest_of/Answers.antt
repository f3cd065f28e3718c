use Rattle.std.proofs.Common.{ap, ◌∙◌, w64}
use Rattle.std.proofs.lemmas.Int.{to_z-of_z}
use Rattle.object_meaning.specs.Sizes.{at_least_none, end_in}
use Rattle.src_values.proofs.Numbers.{difference_is}
use Rattle.src_values.proofs.sizes.rest_of.Goals as goal

pub returns : goal.returns
returns c =
    c.at_least_none.ensures
    ∙ ap at_least_none (difference_is c.args.size c.end_in.result c.args.offset
    (end_in c.args.mode c.args.size c.args.end) c.requires.small c.end_in.ensures.within c.requires.starts
    (c.end_in.ensures.end ∙ ap (end_in c.args.mode c.args.size) (to_z-of_z w64 c.args.end c.ranges.end)))
