use Rattle.std.proofs.Common.{◌∙◌, subst, decimal}
use Rattle.run_meaning.specs.Objects.{stream}
use Rattle.print_chk.specs.Written.{Wrote}
use Rattle.print_chk.proofs.Parts.{wrote_both, wrote_first}
use Rattle.print_chk.proofs.sizes.put_number.Goals as goal

pub returns-in-Err : goal.returns-in-Err
returns-in-Err g c =
    wrote_first c.args.label.now (decimal c.args.number) c.in-Err.stop
    (stream (g.S.Sink.written c.args.sink.now) (g.S.Sink.count c.args.sink.now)) (stream (g.S.Sink.written c.put.new.sink) (g.S.Sink.count c.put.new.sink)) c.in-Err.ensures

pub returns : goal.returns
returns g c =
    let x = stream (g.S.Sink.written c.args.sink.now) (g.S.Sink.count c.args.sink.now) in
    let y = stream (g.S.Sink.written c.put.new.sink) (g.S.Sink.count c.put.new.sink) in
    let z = stream (g.S.Sink.written c.put-2.new.sink) (g.S.Sink.count c.put-2.new.sink) in
    wrote_both c.args.label.now (decimal c.args.number) c.put-2.result x y z c.in-Ok.ensures
    (subst (λ t. Wrote t c.put-2.result y z) (c.as_bytes.ensures.value ∙ c.format.ensures.text) c.put-2.ensures)
