use Rattle.std.proofs.Common.{◌≡◌, ℕ, ◌+◌, ◌<◌, List, length, get_or, eqb, Ok, sym, ap, ◌∙◌, arith}
use Rattle.std.specs.Prelude.{if◌then◌else◌}
use lib.Lanes.{chunk}
use Rattle.std.specs.List.{prefix_len}
use Rattle.std.proofs.lemmas.Simd.{length-chunk, get_or-chunk}
use Rattle.str_chk.proofs.Lanes.{Shared, block_goes, block_stops, goes_on, stop_before, stop_here}
use Rattle.str_chk.proofs.blocks.compare_blocks.Goals as goal

pub shared-both-requires-clause-left : goal.shared-both-requires-clause-left
shared-both-requires-clause-left c = length-chunk 0 32 c.args.left.now (omega (arith, c.requires.left))

pub shared-both-requires-clause-right : goal.shared-both-requires-clause-right
shared-both-requires-clause-right c = length-chunk 0 32 c.args.right.now (omega (arith, c.requires.right))

loaded : (xs : List ℕ) (k : ℕ) → k < 32 → get_or (chunk 0 32 xs) k 0 ≡ get_or xs k 0
loaded xs k short = let e : 0 + k ≡ k = omega arith in get_or-chunk 0 32 xs k 0 short ∙ ap (λ j. get_or xs j 0) e

-- what was loaded of the blocks is the blocks themselves
shares : (l r v : List ℕ) → length v ≡ 32
    → ((k : ℕ) → k < 32 → get_or v k 0 ≡ (if eqb (get_or (chunk 0 32 l) k 0) (get_or (chunk 0 32 r) k 0) then get_or (chunk 0 32 l) k 0 else 0))
    → Shared l r v
shares l r v long each k lt =
    let short : k < 32 = omega (arith, lt, long) in
    each k short ∙ ap (λ x. if eqb x (get_or (chunk 0 32 r) k 0) then x else 0) (loaded l k short)
    ∙ ap (λ y. if eqb (get_or l k 0) y then get_or l k 0 else 0) (loaded r k short)

pub returns-then-stop-lt-BLOCK : goal.returns-then-stop-lt-BLOCK
returns-then-stop-lt-BLOCK c xs ys =
    let l = c.args.left.now in
    let r = c.args.right.now in
    let v = c.shared-both.result in
    let stop = c.before_zero-stop.result in
    let is = shares l r v c.shared-both.ensures.long c.shared-both.ensures.each in
    let n : stop ≡ prefix_len goes_on v = c.before_zero-stop.ensures in
    let here = stop_here l r v is (omega (arith, n, c.shared-both.ensures.long)) in
    block_stops l r xs ys stop (omega (arith, c.requires.left, c.requires.right)) (omega (arith, c.requires.left)) (λ j lt. stop_before l r v is j (omega (arith, lt, n))) (rw n here)
    ∙ ap Ok (sym c.order.ensures)

pub returns-else-stop-lt-BLOCK : goal.returns-else-stop-lt-BLOCK
returns-else-stop-lt-BLOCK c xs ys =
    let l = c.args.left.now in
    let r = c.args.right.now in
    let v = c.shared-both.result in
    let n : c.before_zero-stop.result ≡ prefix_len goes_on v = c.before_zero-stop.ensures in
    let is = shares l r v c.shared-both.ensures.long c.shared-both.ensures.each in
    block_goes l r xs ys (omega (arith, c.requires.left, c.requires.right)) (λ j lt. stop_before l r v is j (omega (arith, lt, n, c.requires.left)))
