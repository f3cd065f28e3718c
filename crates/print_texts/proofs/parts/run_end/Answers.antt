use Rattle.std.proofs.Common.{◌∙◌, arith}
use Rattle.print_texts.proofs.Formats.{run_more}
use Rattle.print_texts.proofs.parts.run_end.Goals as goal

pub loop-end-preserved : goal.loop-end-preserved
loop-end-preserved c = record {
  up = omega arith;
  inside = omega arith;
  is = run_more c.args.format.now c.args.at c.loop-end.end c.loop-end.invariant.up c.loop-end-test.true c.if-format-end-ne37.true ∙ c.loop-end.invariant.is;
}
