use Rattle.std.proofs.Common.{◌++◌, replicate, Ok, Err, subst}
use Rattle.run_meaning.specs.Objects.{stream}
use Rattle.print_texts.specs.Numbers.{sign_text}
use Rattle.print_chk.specs.Written.{Wrote}
use Rattle.print_chk.proofs.Parts.{wrote_both, wrote_first}
use Rattle.print_chk.proofs.printing.put_padded.Goals as goal

pub returns-in-Err : goal.returns-in-Err
returns-in-Err g c =
    let p = c.args.padding in
    let sign = sign_text c.args.negative in
    wrote_first (replicate p.before 32) (sign ++ (replicate p.zeros 48 ++ (c.args.body.now ++ replicate p.behind 32))) c.in-Err.stop
    (stream (g.S.Sink.written c.args.sink.now) (g.S.Sink.count c.args.sink.now)) (stream (g.S.Sink.written c.repeat.new.sink) (g.S.Sink.count c.repeat.new.sink)) c.in-Err.ensures

pub returns-in-Err-put : goal.returns-in-Err-put
returns-in-Err-put g c =
    let p = c.args.padding in
    let sign = sign_text c.args.negative in
    let rest = replicate p.zeros 48 ++ (c.args.body.now ++ replicate p.behind 32) in
    let stop = c.in-Err-put.stop in
    let x = stream (g.S.Sink.written c.args.sink.now) (g.S.Sink.count c.args.sink.now) in
    let y = stream (g.S.Sink.written c.repeat.new.sink) (g.S.Sink.count c.repeat.new.sink) in
    let z = stream (g.S.Sink.written c.put.new.sink) (g.S.Sink.count c.put.new.sink) in
    wrote_both (replicate p.before 32) (sign ++ rest) (Err stop) x y z c.in-Ok.ensures
    (wrote_first sign rest stop y z (subst (λ t. Wrote t (Err stop) y z) c.sign_bytes.ensures c.in-Err-put.ensures))

pub returns-in-Err-repeat : goal.returns-in-Err-repeat
returns-in-Err-repeat g c =
    let p = c.args.padding in
    let sign = sign_text c.args.negative in
    let rest = c.args.body.now ++ replicate p.behind 32 in
    let stop = c.in-Err-repeat.stop in
    let x = stream (g.S.Sink.written c.args.sink.now) (g.S.Sink.count c.args.sink.now) in
    let y = stream (g.S.Sink.written c.repeat.new.sink) (g.S.Sink.count c.repeat.new.sink) in
    let z = stream (g.S.Sink.written c.put.new.sink) (g.S.Sink.count c.put.new.sink) in
    let u = stream (g.S.Sink.written c.repeat-2.new.sink) (g.S.Sink.count c.repeat-2.new.sink) in
    wrote_both (replicate p.before 32) (sign ++ (replicate p.zeros 48 ++ rest)) (Err stop) x y u c.in-Ok.ensures
    (wrote_both sign (replicate p.zeros 48 ++ rest) (Err stop) y z u (subst (λ t. Wrote t (Ok tt) y z) c.sign_bytes.ensures c.in-Ok-put.ensures)
    (wrote_first (replicate p.zeros 48) rest stop z u c.in-Err-repeat.ensures))

pub returns-in-Err-put-2 : goal.returns-in-Err-put-2
returns-in-Err-put-2 g c =
    let p = c.args.padding in
    let sign = sign_text c.args.negative in
    let rest = replicate p.behind 32 in
    let body = c.args.body.now in
    let stop = c.in-Err-put-2.stop in
    let x = stream (g.S.Sink.written c.args.sink.now) (g.S.Sink.count c.args.sink.now) in
    let y = stream (g.S.Sink.written c.repeat.new.sink) (g.S.Sink.count c.repeat.new.sink) in
    let z = stream (g.S.Sink.written c.put.new.sink) (g.S.Sink.count c.put.new.sink) in
    let u = stream (g.S.Sink.written c.repeat-2.new.sink) (g.S.Sink.count c.repeat-2.new.sink) in
    let v = stream (g.S.Sink.written c.put-2.new.sink) (g.S.Sink.count c.put-2.new.sink) in
    wrote_both (replicate p.before 32) (sign ++ (replicate p.zeros 48 ++ (body ++ rest))) (Err stop) x y v c.in-Ok.ensures
    (wrote_both sign (replicate p.zeros 48 ++ (body ++ rest)) (Err stop) y z v (subst (λ t. Wrote t (Ok tt) y z) c.sign_bytes.ensures c.in-Ok-put.ensures)
    (wrote_both (replicate p.zeros 48) (body ++ rest) (Err stop) z u v c.in-Ok-repeat.ensures (wrote_first body rest stop u v c.in-Err-put-2.ensures)))

pub returns : goal.returns
returns g c =
    let p = c.args.padding in
    let sign = sign_text c.args.negative in
    let rest = replicate p.behind 32 in
    let body = c.args.body.now in
    let r = c.repeat-3.result in
    let x = stream (g.S.Sink.written c.args.sink.now) (g.S.Sink.count c.args.sink.now) in
    let y = stream (g.S.Sink.written c.repeat.new.sink) (g.S.Sink.count c.repeat.new.sink) in
    let z = stream (g.S.Sink.written c.put.new.sink) (g.S.Sink.count c.put.new.sink) in
    let u = stream (g.S.Sink.written c.repeat-2.new.sink) (g.S.Sink.count c.repeat-2.new.sink) in
    let v = stream (g.S.Sink.written c.put-2.new.sink) (g.S.Sink.count c.put-2.new.sink) in
    let w = stream (g.S.Sink.written c.repeat-3.new.sink) (g.S.Sink.count c.repeat-3.new.sink) in
    wrote_both (replicate p.before 32) (sign ++ (replicate p.zeros 48 ++ (body ++ rest))) r x y w c.in-Ok.ensures
    (wrote_both sign (replicate p.zeros 48 ++ (body ++ rest)) r y z w (subst (λ t. Wrote t (Ok tt) y z) c.sign_bytes.ensures c.in-Ok-put.ensures)
    (wrote_both (replicate p.zeros 48) (body ++ rest) r z u w c.in-Ok-repeat.ensures (wrote_both body rest r u v w c.in-Ok-put-2.ensures c.repeat-3.ensures)))
