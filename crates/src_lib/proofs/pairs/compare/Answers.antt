use Rattle.std.proofs.Common.{◌≡◌, ◌+◌, drop, get_or, Err, sym, ap, ◌∙◌, arith}
use Rattle.std.proofs.lemmas.List.{get_or-drop, length-drop}
use Rattle.fc_base.specs.declared.undefined.UndefKind.TheVariants as kind
use Rattle.library_meaning.specs.Scan.{and_then}
use Rattle.object_meaning.specs.Cells.{byte_at}
use Rattle.object_meaning.specs.declared.values.Cell.TheVariants.{Uninit}
use Rattle.src_lib.proofs.Pairing.{right_ends}
use Rattle.src_lib.proofs.pairs.compare.Goals as goal

pub returns-in-Err-byte_at : goal.returns-in-Err-byte_at
returns-in-Err-byte_at c =
    let xs = drop c.args.from c.args.left.now.cells in
    let ys = drop c.args.at c.args.right.now.cells in
    let k = c.loop-k.k in
    let end : k ≡ c.min-most.result = omega (arith, c.loop-k-test.false, c.loop-k.auto.k-end) in
    let left = length-drop c.args.from c.args.left.now.cells in
    let right = length-drop c.args.at c.args.right.now.cells in
    let size = c.size.ensures.cells in
    let other = c.size-2.ensures.cells in
    let most = c.min-most.ensures in
    let more = c.if-most-size.true in
    let here : byte_at (get_or xs k Uninit) ≡ Err c.in-Err-byte_at.kind =
    ap byte_at (get_or-drop c.args.from c.args.left.now.cells k Uninit
    ∙ ap (λ n. get_or c.args.left.now.cells (c.args.from + n) Uninit) end ∙ sym c.cell-then-most-size.ensures) ∙ sym c.byte_at.ensures ∙ c.in-Err-byte_at.is in
    sym (sym c.loop-k.invariant
    ∙ right_ends xs ys k (omega (arith, left, size, end, more)) (omega (arith, right, left, size, other, end, most, more))
    ∙ ap (λ r. and_then r (λ a. Err kind.OutOfObject)) here)
