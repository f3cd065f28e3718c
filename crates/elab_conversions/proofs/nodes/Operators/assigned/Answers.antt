use Rattle.std.proofs.lemmas.Result.{err_from_is_err_and}
use Rattle.c_tree.specs.declared.typed.TypedKind.TheVariants.{Assign}
use Rattle.elab_meaning.specs.Conversions.{converted}
use Rattle.elab_meaning.specs.Nodes.{node}
use Rattle.elab_conversions.proofs.Refusals.{same_refusal}
use Rattle.elab_conversions.proofs.nodes.Operators.assigned.Goals as goal

-- src/nodes.rt: `judge` refuses
pub returns-in_err-to : goal.returns-in_err-to
returns-in_err-to c =
    let left = err_from_is_err_and c.from_residual.result c.from_residual.ensures.1 in
    let judged = rw (c.is_refused.ensures, c.is_modifiable.ensures, c.in_err-to.ensures.err) at c.judge.ensures in
    rw (left.1, left.2)
    (same_refusal _ _ _ _
    (node (Assign c.args.op c.args.to (converted c.args.operation.right c.args.from)) c.args.operation.result c.args.self.now.at) judged)
