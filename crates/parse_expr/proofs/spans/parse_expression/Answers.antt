use Rattle.std.proofs.Common.{◌∙◌, sym, drop, arith}
use Rattle.std.proofs.lemmas.List.{take_rest, length-drop}
use Rattle.std.proofs.lemmas.Result.{err_from_is_err_and}
use Rattle.parse_expr.specs.Forms.{ends_at_commas}
use Rattle.parse_expr.proofs.SpanSteps.{span_within}
use Rattle.parse_expr.proofs.spans.parse_expression.Goals as goal

pub returns-in_err-tree-clause-none : goal.returns-in_err-tree-clause-none
returns-in_err-tree-clause-none c =
    let misses = rw (take_rest c.args.tokens.now c.args.at) at c.in_err-tree.ensures.none in
    let left = err_from_is_err_and c.from_residual.result c.from_residual.ensures.1 in
    rw left.1 (λ e. misses (sym left.2 ∙ e))

pub overflow_add-result : goal.overflow_add-result
overflow_add-result c =
    let len = rw (take_rest c.args.tokens.now c.args.at) at c.in_ok-tree.ensures.len in
    let within = span_within (ends_at_commas c.args.form) 0 0 (drop c.args.at c.args.tokens.now) in
    omega (arith, len, within, length-drop c.args.at c.args.tokens.now)
