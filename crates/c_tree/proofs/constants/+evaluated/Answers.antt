use Rattle.std.proofs.Common.{◌∙◌, sym}
use Rattle.c_tree.proofs.ConstantKinds.{constant-Cond}
use Rattle.c_tree.proofs.constants.+evaluated.Goals as goal

pub returns-in-Cond : goal.returns-in-Cond
returns-in-Cond t c =
    let form = constant-Cond c.args.tags.now c.args.expr.now c.in-Cond.test c.in-Cond.yes c.in-Cond.no c.in-Some.of c.in-Cond.is
    (sym c.int_type.ensures ∙ c.in-Some.is) in
    rw (
      c.chosen.ensures,
      c.evaluated.ensures,
      c.evaluated-in-Cond.ensures,
      c.evaluated-in-Cond-2.ensures,
      c.get.ensures,
      c.get-in-Cond.ensures,
      c.get-in-Cond-2.ensures,
    ) (sym form)
