use Rattle.std.proofs.Common.{arith, refl}
use Rattle.std.proofs.lemmas.Result.{err_from_is_err_and}
use Rattle.macro_items.specs.Views.{view}
use Rattle.macro_items.proofs.Gathering.{left_pop, left_none}
use Rattle.macro_replacement.proofs.Completions.{completes_refused, completes_over, wrote_kept, wrote_moved}
use Rattle.macro_replacement.proofs.replacement.append_left.Goals.{then-branch+in_ok-push_token, else-branch}
use Rattle.macro_replacement.proofs.replacement.append_left.Goals as goal

pub returns-in_err-stays : goal.returns-in_err-stays
returns-in_err-stays c =
    let p = err_from_is_err_and c.from_residual.result c.from_residual.ensures.1 in
    let o = rw (left_pop c.loop-item.pending.items _ c.in-Some.item c.in-Some.ensures.items) at c.loop-item.invariant.owed in
    rw (p.1, p.2) (completes_refused _ _ _ _ _ _ c.in_err-stays.field-0.0 _ c.in_err-stays.ensures.outcome o)

pub loop-item-preserved-after-branch : goal.loop-item-preserved-after-branch
loop-item-preserved-after-branch c =
    let o = rw (left_pop c.loop-item.pending.items _ c.in-Some.item c.in-Some.ensures.items) at c.loop-item.invariant in
    elim c.if-branch.branch [
      | then-branch+in_ok-push_token w ↦
          let s = rw w.if-branch.true at c.in_ok-stays.ensures.outcome in
          rw (w.done-is, w.in_ok-push_token.ensures, s.1, s.2) (wrote_kept _ _ _ _ _ _ (view c.in-Some.item) _ _ refl s.0 o)
      | else-branch w ↦
          let s = rw w.if-branch.false at c.in_ok-stays.ensures.outcome in
          rw w.done-is (wrote_moved _ _ _ _ _ _ (view c.in-Some.item) _ _ _ s o)
    ]

pub loop-item-preserved : goal.loop-item-preserved
loop-item-preserved c =
    let o = rw (left_pop c.loop-item.pending.items _ c.in-Some.item c.in-Some.ensures.items) at c.loop-item.invariant in
    elim c.if-branch.branch [
      | then-branch+in_ok-push_token w ↦
          let s = rw w.if-branch.true at c.in_ok-stays.ensures.outcome in
          rw (w.done-is, w.in_ok-push_token.ensures, s.1, s.2) (wrote_kept _ _ _ _ _ _ (view c.in-Some.item) _ _ refl s.0 o)
      | else-branch w ↦
          let s = rw w.if-branch.false at c.in_ok-stays.ensures.outcome in
          rw w.done-is (wrote_moved _ _ _ _ _ _ (view c.in-Some.item) _ _ _ s o)
    ]

pub returns : goal.returns
returns c =
    let e = rw c.in_default.is at c.pop.ensures.cases in
    let o = rw (left_none c.loop-item.pending.items (omega arith)) at c.loop-item.invariant.owed in
    (c.loop-item.invariant.written, c.loop-item.invariant.stands, completes_over _ _ _ _ _ _ o)
