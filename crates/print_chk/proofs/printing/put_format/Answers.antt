use Rattle.std.proofs.Common.{[], ◌+◌, ◌-◌, take, drop, get_or, Ok, Err, refl, subst, arith}
use Rattle.run_meaning.specs.Objects.{stream}
use Rattle.print_formats.specs.Formats.{directives_of}
use Rattle.print_texts.specs.Printing.{conversion_text}
use Rattle.print_chk.specs.Written.{Wrote}
use Rattle.print_chk.proofs.Going.{begins_conversion, begins_run, failed, went}
use Rattle.print_chk.proofs.Parts.{wrote_nothing}
use Rattle.print_chk.proofs.printing.put_format.Goals as goal

pub loop-from-init : goal.loop-from-init
loop-from-init g c = record {
  inside = omega arith;
  few = omega arith;
  so_far = record {
    front = [];
    total = 0;
    well = c.requires.well;
    valid = c.requires.valid;
    whole = refl;
    wrote = wrote_nothing (stream (g.S.Sink.written c.args.sink.now) (g.S.Sink.count c.args.sink.now));
  };
}

pub loop-from-preserved-in-Ok : goal.loop-from-preserved-in-Ok
loop-from-preserved-in-Ok g c =
    let f = c.args.format.now in
    let args = c.args.args.now in
    let m = c.args.mem.now in
    let at = c.loop-from.at in
    let next = c.loop-from.next in
    let part = c.in-Run.ensures in
    let up = part.1 in
    let behind = c.in-Run.behind in
    let xs = take (behind - c.in-Run.from) (drop c.in-Run.from f) in
    let x = stream (g.S.Sink.written c.args.sink.now) (g.S.Sink.count c.args.sink.now) in
    let y = stream (g.S.Sink.written c.loop-from.sink) (g.S.Sink.count c.loop-from.sink) in
    let z = stream (g.S.Sink.written c.put.new.sink) (g.S.Sink.count c.put.new.sink) in
    let so_far = c.loop-from.invariant.so_far in
    record {
      inside = part.2;
      few = omega arith;
      so_far = went args m f at next x y so_far xs behind next z
          (begins_run args m xs (directives_of (drop at f)) (directives_of (drop behind f)) next so_far.total part.0 so_far.well so_far.valid) c.in-Ok.ensures;
    }

pub returns-in-Err : goal.returns-in-Err
returns-in-Err g c =
    let f = c.args.format.now in
    let args = c.args.args.now in
    let m = c.args.mem.now in
    let at = c.loop-from.at in
    let next = c.loop-from.next in
    let part = c.in-Run.ensures in
    let behind = c.in-Run.behind in
    let xs = take (behind - c.in-Run.from) (drop c.in-Run.from f) in
    let x = stream (g.S.Sink.written c.args.sink.now) (g.S.Sink.count c.args.sink.now) in
    let y = stream (g.S.Sink.written c.loop-from.sink) (g.S.Sink.count c.loop-from.sink) in
    let z = stream (g.S.Sink.written c.put.new.sink) (g.S.Sink.count c.put.new.sink) in
    let so_far = c.loop-from.invariant.so_far in
    failed args m f at next x y so_far xs (directives_of (drop behind f)) next c.in-Err.stop z
    (begins_run args m xs (directives_of (drop at f)) (directives_of (drop behind f)) next so_far.total part.0 so_far.well so_far.valid) c.in-Err.ensures

pub returns-in-Err-put_conversion : goal.returns-in-Err-put_conversion
returns-in-Err-put_conversion g c =
    let f = c.args.format.now in
    let args = c.args.args.now in
    let m = c.args.mem.now in
    let at = c.loop-from.at in
    let next = c.loop-from.next in
    let part = c.in-Converted.ensures in
    let behind = c.in-Converted.behind in
    let conversion = c.in-Converted.conversion in
    let stop = c.in-Err-put_conversion.stop in
    let x = stream (g.S.Sink.written c.args.sink.now) (g.S.Sink.count c.args.sink.now) in
    let y = stream (g.S.Sink.written c.loop-from.sink) (g.S.Sink.count c.loop-from.sink) in
    let z = stream (g.S.Sink.written c.put_conversion.new.sink) (g.S.Sink.count c.put_conversion.new.sink) in
    let so_far = c.loop-from.invariant.so_far in
    failed args m f at next x y so_far (conversion_text m conversion (get_or args next 0)) (directives_of (drop behind f)) (next + 1) stop z
    (begins_conversion args m conversion (directives_of (drop at f)) (directives_of (drop behind f)) next so_far.total part.0 so_far.well so_far.valid)
    (subst (λ v. Wrote (conversion_text m conversion v) (Err stop) y z) c.argument.ensures c.in-Err-put_conversion.ensures)

pub loop-from-preserved : goal.loop-from-preserved
loop-from-preserved g c =
    let f = c.args.format.now in
    let args = c.args.args.now in
    let m = c.args.mem.now in
    let at = c.loop-from.at in
    let next = c.loop-from.next in
    let part = c.in-Converted.ensures in
    let up = part.1 in
    let behind = c.in-Converted.behind in
    let conversion = c.in-Converted.conversion in
    let x = stream (g.S.Sink.written c.args.sink.now) (g.S.Sink.count c.args.sink.now) in
    let y = stream (g.S.Sink.written c.loop-from.sink) (g.S.Sink.count c.loop-from.sink) in
    let z = stream (g.S.Sink.written c.put_conversion.new.sink) (g.S.Sink.count c.put_conversion.new.sink) in
    let so_far = c.loop-from.invariant.so_far in
    record {
      inside = part.2;
      few = omega arith;
      so_far = went args m f at next x y so_far (conversion_text m conversion (get_or args next 0)) behind (next + 1) z
          (begins_conversion args m conversion (directives_of (drop at f)) (directives_of (drop behind f)) next so_far.total part.0 so_far.well so_far.valid)
          (subst (λ v. Wrote (conversion_text m conversion v) (Ok tt) y z) c.argument.ensures c.in-Ok-put_conversion.ensures);
    }
