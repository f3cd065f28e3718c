use Rattle.std.proofs.Common.{ℕ, take, List, None, Some, sym, ap, ◌∙◌, add-one, arith, Ok}
use Rattle.std.specs.Prelude.{if◌then◌else◌}
use Rattle.std.proofs.lemmas.Bool.{eq-eqb, ne_eqb, eqb-true}
use Rattle.memchr.specs.Find.{IsFirstByte, is_byte}
use Rattle.library_meaning.specs.Table.{order_of}
use Rattle.str_chk.specs.Pairs.{both_scan, order_found}
use Rattle.str_chk.proofs.Compares.{NoNul, parts_order, ended_order}
use Rattle.str_chk.proofs.compare_parts.Goals as goal

pub returns-in-Some : goal.returns-in-Some
returns-in-Some c xs ys =
    let l = c.args.left.now in
    let r = c.args.right.now in
    let k = c.in-Some.k in
    let first : IsFirstByte (is_byte 0) l (Some k) = rw c.in-Some.is at c.memchr.ensures in
    ended_order l r xs ys k c.requires first.0.high (λ i lt. first.0.before i (omega arith) lt) (eqb-true _ 0 first.1)
    ∙ ap (λ n. Ok (order_of (take n l) (take n r))) (sym (add-one k)) ∙ ap Ok (sym c.compare.ensures)

no_nul : (l : List ℕ) → IsFirstByte (is_byte 0) l None → NoNul l
no_nul l first = λ i lt. first i (omega arith) lt

pub returns-then-order-eq0 : goal.returns-then-order-eq0
returns-then-order-eq0 c xs ys =
    let first : IsFirstByte (is_byte 0) c.args.left.now None = rw c.in-None.is at c.memchr.ensures in
    parts_order c.args.left.now c.args.right.now xs ys c.requires (no_nul c.args.left.now first)
    ∙ ap (λ t. if t then order_found (both_scan xs ys) else Ok (order_of c.args.left.now c.args.right.now)) (eq-eqb _ 0 (sym c.compare-order.ensures ∙ c.if-order-eq0.true))

pub returns-else-order-eq0 : goal.returns-else-order-eq0
returns-else-order-eq0 c xs ys =
    let first : IsFirstByte (is_byte 0) c.args.left.now None = rw c.in-None.is at c.memchr.ensures in
    parts_order c.args.left.now c.args.right.now xs ys c.requires (no_nul c.args.left.now first)
    ∙ ap (λ t. if t then order_found (both_scan xs ys) else Ok (order_of c.args.left.now c.args.right.now)) (ne_eqb _ 0 (λ e. c.if-order-eq0.false (c.compare-order.ensures ∙ e)))
    ∙ ap Ok (sym c.compare-order.ensures)
