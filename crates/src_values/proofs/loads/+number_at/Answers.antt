use Rattle.std.proofs.Common.{◌≡◌, ◌<◌, ◌-◌, suc, get_or, sym, ap, subst, ◌∙◌, arith}
use Rattle.std.specs.Prelude.{IfOk}
use Rattle.object_meaning.specs.declared.values.Cell.TheVariants.{Uninit}
use Rattle.src_values.specs.Numbers.{digit_then, number_in, values_of}
use Rattle.src_values.proofs.Spots.{take_next}
use Rattle.src_values.proofs.loads.+number_at.Goals as goal

pub overflow_add-at : goal.overflow_add-at
overflow_add-at t c = omega (arith, c.size-size.ensures.cells, c.size-size.type_inv, c.requires.within, c.if-count-eq0.false)

pub returns-clause-number : goal.returns-clause-number
returns-clause-number t c =
    let some : 0 < c.args.count = omega (arith, c.if-count-eq0.false) in
    let within = c.requires.within in
    c.join.ensures.number ∙ ap (λ x. digit_then x c.number_at-rest.result) c.cell-first.ensures
    ∙ ap (digit_then (get_or c.args.object.now.cells c.args.at Uninit)) c.number_at-rest.ensures.number
    ∙ ap number_in (sym (take_next c.args.object.now.cells c.args.at c.args.count some (omega (arith, some, within))))

pub returns-clause-small : goal.returns-clause-small
returns-clause-small t c = subst (λ n. IfOk c.join.result (λ x. x < values_of n))
    (let e : suc (c.args.count - 1) ≡ c.args.count = omega (arith, c.if-count-eq0.false) in e) c.join.ensures.within
