use Rattle.elab_expressions.proofs.calls.judge_call.Goals as goal

pub returns : goal.returns
returns c =
    let fit = rw c.as_slice.ensures at c.arguments_fit.ensures in
    rw (fit, c.right_number.ensures, c.further_fit.ensures) at c.judge.ensures
