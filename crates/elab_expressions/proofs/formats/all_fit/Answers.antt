use Rattle.std.proofs.Common.{arith}
use Rattle.std.proofs.lemmas.Grind.{common_steps}
use Rattle.elab_expressions.proofs.Fitting.{ordinary_takes_none, converted_takes_one}
use Rattle.elab_expressions.proofs.formats.all_fit.Goals.{in-Goes, in-Ends-Ordinary, in-Ends-Converted}
use Rattle.elab_expressions.proofs.formats.all_fit.Goals as goal

pub loop-byte-preserved : goal.loop-byte-preserved
loop-byte-preserved c =
    elim c.match-advance.branch [
      | in-Goes w ↦ grind (arith, common_steps)
      | in-Ends-Ordinary w ↦ grind (arith, common_steps, ordinary_takes_none)
      | in-Ends-Converted w ↦ grind (arith, common_steps, converted_takes_one)
    ]
