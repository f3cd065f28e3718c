use Rattle.std.proofs.Common.{◌-◌, ◌++◌, replicate, Ok, Err, sym, ap, ◌∙◌, subst, arith}
use Rattle.run_meaning.specs.Objects.{stream}
use Rattle.print_chk.specs.Written.{Wrote}
use Rattle.print_chk.proofs.Parts.{replicate_front, replicate_parts, wrote_both, wrote_first}
use Rattle.print_chk.proofs.printing.repeat.Goals as goal

pub loop-left-preserved : goal.loop-left-preserved
loop-left-preserved g c =
    let b = c.args.byte in
    let n = c.args.count in
    let left = c.loop-left.left in
    let x = stream (g.S.Sink.written c.args.sink.now) (g.S.Sink.count c.args.sink.now) in
    let y = stream (g.S.Sink.written c.loop-left.sink) (g.S.Sink.count c.loop-left.sink) in
    let z = stream (g.S.Sink.written c.put.new.sink) (g.S.Sink.count c.put.new.sink) in
    record {
      few = omega arith;
      wrote = subst (λ t. Wrote t (Ok tt) x z) (sym (replicate_parts b (n - left) 32 (n - (left - 32)) (omega arith)))
          (wrote_both (replicate (n - left) b) (replicate 32 b) (Ok tt) x y z c.loop-left.invariant.wrote c.in-Ok.ensures);
    }

pub returns-in-Err : goal.returns-in-Err
returns-in-Err g c =
    let b = c.args.byte in
    let n = c.args.count in
    let left = c.loop-left.left in
    let x = stream (g.S.Sink.written c.args.sink.now) (g.S.Sink.count c.args.sink.now) in
    let y = stream (g.S.Sink.written c.loop-left.sink) (g.S.Sink.count c.loop-left.sink) in
    let z = stream (g.S.Sink.written c.put.new.sink) (g.S.Sink.count c.put.new.sink) in
    let rest = replicate (left - 32) b in
    subst (λ t. Wrote t (Err c.in-Err.stop) x z)
    (sym (replicate_parts b (n - left) left n (omega arith) ∙ ap (λ t. replicate (n - left) b ++ t) (replicate_parts b 32 (left - 32) left (omega arith))))
    (wrote_both (replicate (n - left) b) (replicate 32 b ++ rest) (Err c.in-Err.stop) x y z c.loop-left.invariant.wrote (wrote_first (replicate 32 b) rest c.in-Err.stop y z c.in-Err.ensures))

pub returns : goal.returns
returns g c =
    let b = c.args.byte in
    let n = c.args.count in
    let left = c.loop-left.left in
    let x = stream (g.S.Sink.written c.args.sink.now) (g.S.Sink.count c.args.sink.now) in
    let y = stream (g.S.Sink.written c.loop-left.sink) (g.S.Sink.count c.loop-left.sink) in
    let z = stream (g.S.Sink.written c.put-2.new.sink) (g.S.Sink.count c.put-2.new.sink) in
    subst (λ t. Wrote t c.put-2.result x z) (sym (replicate_parts b (n - left) left n (omega arith)))
    (wrote_both (replicate (n - left) b) (replicate left b) c.put-2.result x y z c.loop-left.invariant.wrote
    (subst (λ t. Wrote t c.put-2.result y z) (replicate_front b left 32 (omega arith)) c.put-2.ensures))
