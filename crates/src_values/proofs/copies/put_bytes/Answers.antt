use Rattle.std.proofs.Common.{◌+◌, map, get_or, sym, subst, arith}
use Rattle.std.proofs.lemmas.List.{length-map}
use Rattle.object_meaning.specs.declared.values.Cell.TheVariants.{Byte}
use Rattle.src_values.proofs.Putting.{Puts, puts_next, byte_cell_at}
use Rattle.src_values.proofs.copies.put_bytes.Goals as goal

pub loop-i-preserved : goal.loop-i-preserved
loop-i-preserved c =
    let long = length-map c.args.bytes.now Byte in
    let less = c.loop-i-test.true in
    let room = c.requires in
    subst (λ now. Puts c.args.object.now now c.args.at (c.loop-i.i + 1) (map Byte c.args.bytes.now)) (sym c.put.ensures)
    (puts_next c.args.object.now c.loop-i.object c.args.at c.loop-i.i (map Byte c.args.bytes.now)
    (Byte (get_or c.args.bytes.now c.loop-i.i 0))
    (omega (arith, long, less)) (omega (arith, long, room)) (byte_cell_at c.args.bytes.now c.loop-i.i less) c.loop-i.invariant)
