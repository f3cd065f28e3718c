use Rattle.std.proofs.Common.{ap, ◌∙◌, arith, w32}
use Rattle.std.proofs.lemmas.Int.{ints, to_z-of_z}
use Rattle.elab_meaning.specs.Declarations.{as_int}
use Rattle.elab_types.proofs.enumerations.after.Goals as goal

pub returns : goal.returns
returns c =
    to_z-of_z w32 c.as_int.result (grind (arith, ints, c.as_int.type_inv))
    ∙ (c.as_int.ensures ∙ ap as_int (grind (arith, ints, c.cast_unsigned.ensures, c.from-next.ensures, c.ranges.value.sfits)))
