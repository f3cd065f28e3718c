use Rattle.std.proofs.Common.{◌≡◌, ◌+◌, ◌<◌, take, drop, map, sym, ap, ◌∙◌, arith}
use Rattle.std.proofs.lemmas.Bool.{eq-eqb, ne_eqb}
use Rattle.std.specs.Prelude.{if◌then◌else◌}
use Rattle.library_meaning.specs.Table.{order, order_of}
use Rattle.src_lib.specs.Texts.{byte_in}
use Rattle.src_lib.proofs.Ordering.{both_next, order_less, order_more}
use Rattle.src_lib.proofs.blocks.order.Goals as goal

pub returns-then-first-second-2 : goal.returns-then-first-second-2
returns-then-first-second-2 c =
    let x = c.cell.result in
    let y = c.cell-in-loop-k.result in
    let k = c.loop-k.k in
    let lefts = drop (k + 1) (take c.args.count (drop c.args.from c.args.left.now.cells)) in
    let rights = drop (k + 1) (take c.args.count (drop c.args.at c.args.right.now.cells)) in
    let less = c.if-first-second-2.true in
    let first = c.byte_in-first.ensures in
    let second = c.byte_in-second.ensures in
    sym (sym c.loop-k.invariant
    ∙ both_next c.args.left.now.cells c.args.right.now.cells c.args.from c.args.at c.args.count k x y c.requires.left c.requires.right
    c.loop-k-test.true c.cell.ensures c.cell-in-loop-k.ensures
    ∙ ap (λ b. if b then order_of (map byte_in lefts) (map byte_in rights) else order (byte_in x) (byte_in y))
    (ne_eqb (byte_in x) (byte_in y) (λ e. absurd (omega (arith, e, less, first, second))))
    ∙ order_less (byte_in x) (byte_in y) (omega (arith, less, first, second)))

pub returns-else-first-second-2 : goal.returns-else-first-second-2
returns-else-first-second-2 c =
    let x = c.cell.result in
    let y = c.cell-in-loop-k.result in
    let k = c.loop-k.k in
    let lefts = drop (k + 1) (take c.args.count (drop c.args.from c.args.left.now.cells)) in
    let rights = drop (k + 1) (take c.args.count (drop c.args.at c.args.right.now.cells)) in
    let other = c.if-first-second.true in
    let most = c.if-first-second-2.false in
    let first = c.byte_in-first.ensures in
    let second = c.byte_in-second.ensures in
    let more : byte_in y < byte_in x = omega (arith, other, most, first, second) in
    sym (sym c.loop-k.invariant
    ∙ both_next c.args.left.now.cells c.args.right.now.cells c.args.from c.args.at c.args.count k x y c.requires.left c.requires.right
    c.loop-k-test.true c.cell.ensures c.cell-in-loop-k.ensures
    ∙ ap (λ b. if b then order_of (map byte_in lefts) (map byte_in rights) else order (byte_in x) (byte_in y))
    (ne_eqb (byte_in x) (byte_in y) (λ e. absurd (omega (arith, e, more))))
    ∙ order_more (byte_in x) (byte_in y) more)

pub loop-k-preserved : goal.loop-k-preserved
loop-k-preserved c =
    let x = c.cell.result in
    let y = c.cell-in-loop-k.result in
    let k = c.loop-k.k in
    let lefts = drop (k + 1) (take c.args.count (drop c.args.from c.args.left.now.cells)) in
    let rights = drop (k + 1) (take c.args.count (drop c.args.at c.args.right.now.cells)) in
    let same : byte_in x ≡ byte_in y = sym c.byte_in-first.ensures ∙ c.if-first-second.false ∙ c.byte_in-second.ensures in
    sym (both_next c.args.left.now.cells c.args.right.now.cells c.args.from c.args.at c.args.count k x y c.requires.left c.requires.right
    c.loop-k-test.true c.cell.ensures c.cell-in-loop-k.ensures
    ∙ ap (λ b. if b then order_of (map byte_in lefts) (map byte_in rights) else order (byte_in x) (byte_in y))
    (eq-eqb (byte_in x) (byte_in y) same)) ∙ c.loop-k.invariant
