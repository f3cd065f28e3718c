use Rattle.std.proofs.Common.{◌-◌, take, drop, sym, ap, ◌∙◌, arith}
use Rattle.print_formats.specs.Formats.{directives_of}
use Rattle.print_texts.specs.Printing.{accepted}
use Rattle.print_texts.proofs.Formats.{accepted_run}
use Rattle.print_texts.proofs.lengths.accepts.Goals as goal

pub loop-behind-preserved-in-Run : goal.loop-behind-preserved-in-Run
loop-behind-preserved-in-Run c =
    let f = c.args.format.now in
    let part = c.in-Run.ensures in
    let up = part.1 in
    record {
      inside = part.2;
      few = omega arith;
      is = sym (accepted_run c.args.passed c.loop-behind.count (take (c.in-Run.behind - c.in-Run.from) (drop c.in-Run.from f)) (directives_of (drop c.in-Run.behind f)))
          ∙ ap (accepted c.args.passed c.loop-behind.count) (sym part.0) ∙ c.loop-behind.invariant.is;
    }
