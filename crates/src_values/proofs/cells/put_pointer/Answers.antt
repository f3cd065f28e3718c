use Rattle.std.proofs.Common.{length, ap, ◌∙◌, ◌++◌, ◌∷◌, [], ◌-◌, ◌+◌, replicate, arith}
use Rattle.src_values.specs.View.{nowhere}
use Rattle.src_values.proofs.Marked.{padded_more}
use Rattle.src_values.proofs.cells.put_pointer.Goals as goal

pub loop-pointers-preserved : goal.loop-pointers-preserved
loop-pointers-preserved c =
    let ok = c.loop-pointers.pointers.ok.0 in
    let few = c.loop-pointers-test.true in (
      ap (λ xs. xs ++ replicate (c.args.at + 1 - length xs) nowhere)
          (c.push_reserved.ensures.items ∙ ap (λ p. c.loop-pointers.pointers.items ++ p ∷ []) c.no_pointer.ensures)
          ∙ padded_more c.loop-pointers.pointers.items c.args.at (omega (arith, few, ok, c.len.ensures)) ∙ c.loop-pointers.invariant.0,
      c.push_reserved.ensures.capacity ∙ c.loop-pointers.invariant.1,
    )
