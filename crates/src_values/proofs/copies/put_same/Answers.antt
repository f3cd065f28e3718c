use Rattle.std.proofs.Common.{◌+◌, replicate, sym, subst, arith}
use Rattle.std.proofs.lemmas.List.{length-replicate, get_or-replicate}
use Rattle.object_meaning.specs.declared.values.Cell.TheVariants.{Byte, Uninit}
use Rattle.src_values.proofs.Putting.{Puts, puts_next}
use Rattle.src_values.proofs.copies.put_same.Goals as goal

pub loop-i-preserved : goal.loop-i-preserved
loop-i-preserved c =
    let long = length-replicate c.args.count (Byte c.args.byte) in
    let less = c.loop-i-test.true in
    let room = c.requires in
    subst (λ now. Puts c.args.object.now now c.args.at (c.loop-i.i + 1) (replicate c.args.count (Byte c.args.byte))) (sym c.put.ensures)
    (puts_next c.args.object.now c.loop-i.object c.args.at c.loop-i.i (replicate c.args.count (Byte c.args.byte)) (Byte c.args.byte)
    (omega (arith, long, less)) (omega (arith, long, room)) (sym (get_or-replicate c.args.count c.loop-i.i (Byte c.args.byte) Uninit less)) c.loop-i.invariant)
