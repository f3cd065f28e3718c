use Rattle.std.proofs.Common.{◌∙◌, sym, arith}
use Rattle.macro_meaning.specs.Definitions.{is_operator}
use Rattle.macro_definitions.proofs.Searches.{find_here, find_later}
use Rattle.macro_definitions.proofs.definitions.operator.Goals as goal

pub returns-then-is_operator : goal.returns-then-is_operator
returns-then-is_operator c =
    sym (c.loop-token.invariant
    ∙ find_here (λ t. is_operator t.kind) c.args.tokens.now c.loop-token.token-index c.token-item.result (omega arith) c.token-item.is
    (sym c.is_operator.ensures ∙ c.if-is_operator.true))

pub loop-token-preserved : goal.loop-token-preserved
loop-token-preserved c =
    c.loop-token.invariant
    ∙ find_later (λ t. is_operator t.kind) c.args.tokens.now c.loop-token.token-index c.token-item.result (omega arith) c.token-item.is
    (sym c.is_operator.ensures ∙ c.if-is_operator.false)
