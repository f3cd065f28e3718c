use Rattle.std.proofs.Common.{Some}
use Rattle.std.proofs.lemmas.Result.{err_from_is_err_and}
use Rattle.elab_conversions.proofs.Refusals.{same_refusal}
use Rattle.elab_meaning.specs.Expressions.{call_node}
use Rattle.elab_expressions.specs.Calls.{function_of}
use Rattle.elab_expressions.proofs.calls.call_of_function.Goals as goal

-- src/calls.rt: a rule of the call is broken
pub returns-in_err-f : goal.returns-in_err-f
returns-in_err-f c =
    let left = err_from_is_err_and c.from_residual.result c.from_residual.ensures.1 in
    let judged = rw (c.as_slice.ensures, c.in_err-f.ensures.err) at c.judge_call-judged.ensures in
    rw (left.1, left.2)
    (same_refusal _ _ _ _ (call_node (Some (function_of c.args.f)) c.args.args c.args.at) judged)
