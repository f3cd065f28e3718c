use Rattle.std.proofs.Common.{◌≡◌, ℕ, List, ◌++◌, drop, ap, ◌∙◌}
use Rattle.std.specs.Borrow.{Bor}
use Rattle.macro_items.proofs.Merging.{first_over, second_over}
use Rattle.macro_items.proofs.hide.merge_into.Goals.{then-loop-i-test+else-j-b, else-loop-i-test}
use Rattle.macro_items.proofs.hide.merge_into.Goals as goal

pub returns : goal.returns
returns c =
    let front = c.loop-i.all.items in
    let e : c.extend_from_slice-2.new.self.items ≡ (front ++ drop c.loop-i.i c.args.a.now) ++ drop c.loop-i.j c.args.b.now =
    c.in_ok-extend_from_slice-2.ensures.ok
    ∙ ap (λ (t : List (Bor (List ℕ))). t ++ c.split_at-2.result.1.now)
    (c.in_ok-extend_from_slice.ensures.ok ∙ ap (λ (t : List (Bor (List ℕ))). front ++ t) c.split_at.ensures.back)
    ∙ ap (λ (t : List (Bor (List ℕ))). (front ++ drop c.loop-i.i c.args.a.now) ++ t) c.split_at-2.ensures.back in
    elim c.loop-i-test.branch [
      | then-loop-i-test+else-j-b w ↦ second_over front _ _ c.loop-i.i c.loop-i.j c.args.a.now c.args.b.now e
          c.loop-i.invariant.same w.if-j-b.false
      | else-loop-i-test w ↦ first_over front _ _ c.loop-i.i c.loop-i.j c.args.a.now c.args.b.now e
          c.loop-i.invariant.same w.loop-i-test.false
    ]
