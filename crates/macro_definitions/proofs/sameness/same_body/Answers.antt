use Rattle.std.proofs.Common.{refl, sym, ◌∙◌, arith}
use Rattle.macro_definitions.proofs.Pairs.{compared_at}
use Rattle.macro_definitions.proofs.sameness.same_body.Goals as goal

pub returns-then-not-same_part : goal.returns-then-not-same_part
returns-then-not-same_part c =
    let e = compared_at c.args.a.now c.args.b.now c.loop-i.i c.index-a-i.result c.index-b-i.result (omega arith)
    (omega arith) c.index-a-i.is c.index-b-i.is in
    let f = sym c.same_part.ensures ∙ c.if-not-same_part.true in
    sym (sym c.loop-i.invariant ∙ e ∙ rw f refl)
