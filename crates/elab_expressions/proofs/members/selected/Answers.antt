use Rattle.std.proofs.lemmas.Result.{err_from_is_err_and}
use Rattle.elab_conversions.proofs.Refusals.{same_refusal}
use Rattle.elab_meaning.specs.Expressions.{holder, member_of, member_node}
use Rattle.elab_expressions.proofs.members.selected.Goals as goal

-- src/members.rt: there is no such member
pub returns-in_err-base : goal.returns-in_err-base
returns-in_err-base c =
    let left = err_from_is_err_and c.from_residual.result c.from_residual.ensures.1 in
    let judged = rw c.in_err-base.ensures.err at c.found_member-found.ensures in
    let member = member_of c.args.tags.now (holder c.args.arrow c.args.base.ctype) c.args.name.now in
    rw (left.1, left.2)
    (same_refusal _ _ _ _ (member_node c.args.base c.args.arrow member c.args.at) judged)
