use Rattle.std.proofs.Common.{◌≡◌, ◌&&◌, ◌+◌, ◌-◌, length, take, drop, is_some, true, sym, ap, ◌∙◌, subst, arith}
use Rattle.std.proofs.lemmas.List.{length-take, length-drop}
use Rattle.print_formats.specs.Formats.{directives_of}
use Rattle.print_texts.specs.Printing.{apart, listed, measured}
use Rattle.print_texts.proofs.Formats.{apart_run, measured_run, run_listed}
use Rattle.print_texts.proofs.lengths.measure.Goals as goal

pub loop-from-preserved-in-Run : goal.loop-from-preserved-in-Run
loop-from-preserved-in-Run c =
    let f = c.args.format.now in
    let part = c.in-Run.ensures in
    let from = c.in-Run.from in
    let behind = c.in-Run.behind in
    let up = part.1 in
    let low = part.3 in
    let inside = part.2 in
    let xs = take (behind - from) (drop from f) in
    let o = directives_of (drop behind f) in
    let long : length xs ≡ behind - from = omega (arith, length-take (behind - from) (drop from f), length-drop from f) in
    let next = run_listed xs o (subst (λ z. is_some z ≡ true) part.0 c.loop-from.invariant.well) in
    record {
      inside = part.2;
      few = omega arith;
      small = omega arith;
      well = next.0;
      is = ap (λ k. measured c.args.args.now c.args.mem.now (listed o) c.loop-from.next (c.loop-from.total + k)) (sym long)
          ∙ sym (measured_run c.args.args.now c.args.mem.now xs (listed o) c.loop-from.next c.loop-from.total)
          ∙ ap (λ ds. measured c.args.args.now c.args.mem.now ds c.loop-from.next c.loop-from.total) (sym next.1 ∙ ap listed (sym part.0))
          ∙ c.loop-from.invariant.is;
      far = ap (λ t. c.loop-from.clear && t) (sym (apart_run c.args.args.now c.args.mem.now c.args.to c.args.room xs (listed o) c.loop-from.next)
          ∙ ap (λ ds. apart c.args.args.now c.args.mem.now c.args.to c.args.room ds c.loop-from.next) (sym next.1 ∙ ap listed (sym part.0)))
          ∙ c.loop-from.invariant.far;
    }
