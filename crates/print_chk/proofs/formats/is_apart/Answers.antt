use Rattle.std.proofs.Common.{◌≡◌, ◌-◌, take, drop, is_some, true, sym, ap, ◌∙◌, subst, arith}
use Rattle.print_formats.specs.Formats.{directives_of}
use Rattle.print_texts.specs.Printing.{apart, listed}
use Rattle.print_texts.proofs.Formats.{apart_run, run_listed}
use Rattle.print_chk.proofs.formats.is_apart.Goals as goal

pub loop-behind-preserved-in-Run : goal.loop-behind-preserved-in-Run
loop-behind-preserved-in-Run c =
    let f = c.args.format.now in
    let args = c.args.args.now in
    let m = c.args.mem.now in
    let part = c.in-Run.ensures in
    let up = part.1 in
    let from = c.in-Run.from in
    let behind = c.in-Run.behind in
    let next = c.loop-behind.next in
    let xs = take (behind - from) (drop from f) in
    let o = directives_of (drop behind f) in
    let rest = run_listed xs o (subst (λ z. is_some z ≡ true) part.0 c.loop-behind.invariant.well) in
    record {
      inside = part.2;
      few = omega arith;
      well = rest.0;
      is = sym (apart_run args m c.args.to c.args.count xs (listed o) next)
          ∙ ap (λ ds. apart args m c.args.to c.args.count ds next) (sym rest.1 ∙ ap listed (sym part.0))
          ∙ c.loop-behind.invariant.is;
    }
