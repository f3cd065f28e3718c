use Rattle.std.proofs.Common.{◌≡◌, ◌-◌, ℕ, List, length, take, drop, refl, sym, ap, ◌∙◌, arith}
use Rattle.std.proofs.lemmas.List.{take_all, length-drop}
use Rattle.library_meaning.specs.Table.{order_of}
use Rattle.host_bytes.proofs.Orders.{order_front, order_behind}
use Rattle.host_bytes.proofs.comparing.compare.Goals as goal

pub returns-then-front-ne0 : goal.returns-then-front-ne0
returns-then-front-ne0 c =
    let l = c.args.left.now in
    let r = c.args.right.now in
    c.order-front.ensures ∙ sym (order_front _ l r (λ e. c.if-front-ne0.true (c.order-front.ensures ∙ e)))

-- the bytes from a place on, as many as there are
whole : (n j : ℕ) (xs : List ℕ) → length xs ≡ n → take (n - j) (drop j xs) ≡ drop j xs
whole n j xs long = take_all (n - j) (drop j xs) (omega (arith, length-drop j xs))

pub returns : goal.returns
returns c =
    let l = c.args.left.now in
    let r = c.args.right.now in
    let n = length l in
    let j = n - 8 in
    c.order-2.ensures ∙ ap (λ z. order_of z (take (length r - j) (drop j r))) (whole n j l refl) ∙ ap (order_of (drop j l)) (whole (length r) j r refl)
    ∙ sym (order_behind j _ l r c.requires (omega arith) (sym c.order-front.ensures ∙ c.if-front-ne0.false))
