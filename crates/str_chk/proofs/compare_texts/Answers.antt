use Rattle.std.proofs.Common.{◌≡◌, ℕ, ◌+◌, ◌++◌, List, drop, sym, ap, ◌∙◌, arith}
use Rattle.std.specs.Prelude.{slice_range}
use Rattle.str_chk.specs.Pairs.{both_scan, order_found}
use Rattle.str_chk.proofs.Compares.{at_end, part_rest}
use Rattle.str_chk.proofs.compare_texts.Goals as goal

-- the texts from a place on, in two parts
parts : (l r : List ℕ) (at n : ℕ)
    → order_found (both_scan (slice_range l at (at + n) ++ drop (at + n) l) (slice_range r at (at + n) ++ drop (at + n) r)) ≡ order_found (both_scan (drop at l) (drop at r))
parts l r at n =
    ap (λ z. order_found (both_scan z (slice_range r at (at + n) ++ drop (at + n) r))) (part_rest l at n) ∙ ap (λ z. order_found (both_scan (drop at l) z)) (part_rest r at n)

pub returns-in-Some : goal.returns-in-Some
returns-in-Some c =
    let l = c.args.left.now in
    let r = c.args.right.now in
    let end = c.loop-at.at + c.min.result in
    sym (rw c.in-Some.is at c.compare_parts.ensures (drop end l) (drop end r)) ∙ parts l r c.loop-at.at c.min.result ∙ c.loop-at.invariant.same

pub loop-at-preserved : goal.loop-at-preserved
loop-at-preserved c =
    let l = c.args.left.now in
    let r = c.args.right.now in
    let end = c.loop-at.at + c.min.result in
    record {
      within = omega (arith, c.min.ensures, c.loop-at.invariant.within);
      same = sym (rw c.in-None.is at c.compare_parts.ensures (drop end l) (drop end r)) ∙ parts l r c.loop-at.at c.min.result ∙ c.loop-at.invariant.same;
    }

pub returns : goal.returns
returns c = sym (ap order_found (at_end c.args.left.now c.args.right.now c.loop-at.at (omega arith))) ∙ c.loop-at.invariant.same
