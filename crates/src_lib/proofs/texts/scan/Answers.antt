use Rattle.std.proofs.Common.{◌≡◌, drop, get_or, Ok, Err, sym, ap, ◌∙◌, arith}
use Rattle.std.proofs.lemmas.List.{get_or-drop, length-drop}
use Rattle.object_meaning.specs.Cells.{byte_at}
use Rattle.object_meaning.specs.declared.values.Cell.TheVariants.{Uninit}
use Rattle.src_lib.proofs.Scans.{scan_stops, scan_fails, scan_ends, scan_leaves}
use Rattle.src_lib.proofs.texts.scan.Goals as goal

pub returns-then-ends_at-clause-found : goal.returns-then-ends_at-clause-found
returns-then-ends_at-clause-found c =
    let cells = c.args.object.now.cells in
    let here : byte_at (get_or (drop c.args.start cells) c.loop-k.k Uninit) ≡ Ok c.in-Ok.byte =
    ap byte_at (get_or-drop c.args.start cells c.loop-k.k Uninit ∙ sym c.cell.ensures) ∙ sym c.byte_at.ensures ∙ c.in-Ok.is in
    let rest = length-drop c.args.start cells in
    let size = c.size.ensures.cells in
    let most = c.min-most.ensures in
    let less = c.loop-k-test.true in
    scan_stops c.args.wanted (drop c.args.start cells) c.args.limit c.loop-k.k c.in-Ok.byte (omega (arith, rest, size, most, less))
    (omega (arith, most, less)) c.loop-k.invariant here (sym c.ends_at.ensures ∙ c.if-ends_at.true)

pub returns-in-Err-clause-found : goal.returns-in-Err-clause-found
returns-in-Err-clause-found c =
    let cells = c.args.object.now.cells in
    let here : byte_at (get_or (drop c.args.start cells) c.loop-k.k Uninit) ≡ Err c.in-Err.kind =
    ap byte_at (get_or-drop c.args.start cells c.loop-k.k Uninit ∙ sym c.cell.ensures) ∙ sym c.byte_at.ensures ∙ c.in-Err.is in
    let rest = length-drop c.args.start cells in
    let size = c.size.ensures.cells in
    let most = c.min-most.ensures in
    let less = c.loop-k-test.true in
    scan_fails c.args.wanted (drop c.args.start cells) c.args.limit c.loop-k.k c.in-Err.kind (omega (arith, rest, size, most, less))
    (omega (arith, most, less)) c.loop-k.invariant here

pub returns-then-most-limit-clause-found : goal.returns-then-most-limit-clause-found
returns-then-most-limit-clause-found c =
    let cells = c.args.object.now.cells in
    let rest = length-drop c.args.start cells in
    let size = c.size.ensures.cells in
    let most = c.min-most.ensures in
    let all = c.loop-k-test.false in
    let same = c.if-most-limit.true in
    scan_ends c.args.wanted (drop c.args.start cells) c.args.limit (omega (arith, rest, size, most, same))
    (λ j lt. c.loop-k.invariant j (omega (arith, lt, all, same)))

pub returns-else-most-limit-clause-found : goal.returns-else-most-limit-clause-found
returns-else-most-limit-clause-found c =
    let cells = c.args.object.now.cells in
    let rest = length-drop c.args.start cells in
    let size = c.size.ensures.cells in
    let most = c.min-most.ensures in
    let all = c.loop-k-test.false in
    let other = c.if-most-limit.false in
    scan_leaves c.args.wanted (drop c.args.start cells) c.args.limit (omega (arith, rest, size, most, other))
    (λ j lt. c.loop-k.invariant j (omega (arith, lt, all, rest, size, most, other)))
