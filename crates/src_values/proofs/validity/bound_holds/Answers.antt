use Rattle.std.proofs.Common.{sym, subst, arith}
use Rattle.std.proofs.lemmas.Int.{ints}
use Rattle.object_meaning.specs.Provenance.{BoundHolds}
use Rattle.src_values.proofs.validity.bound_holds.Goals as goal

pub returns-then-end-offset : goal.returns-then-end-offset
returns-then-end-offset c = λ e.
    (let first = c.if-end-offset.true in
    let starts = c.requires.starts in
    let ends = c.requires.ends in
    subst (BoundHolds c.args.offset c.args.end) (sym c.in-Bound.is)
    (omega (arith, ints, e, first, starts, ends), omega (arith, ints, e, starts)))
