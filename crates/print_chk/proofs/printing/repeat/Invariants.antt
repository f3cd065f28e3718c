use Rattle.std.proofs.Common.{◌-◌, ◌≤◌, replicate, Ok}
use Rattle.run_meaning.specs.Objects.{stream}
use Rattle.print_chk.specs.Written.{Wrote}
use Rattle.print_chk.proofs.printing.repeat.Given as goal

abbrev pub invariant-loop-left : goal.invariant-loop-left
invariant-loop-left g l = record {
  few : l.left ≤ l.count;
  wrote : Wrote (replicate (l.count - l.left) l.byte) (Ok tt)
      (stream (g.S.Sink.written l.fn.sink) (g.S.Sink.count l.fn.sink)) (stream (g.S.Sink.written l.sink) (g.S.Sink.count l.sink));
}

abbrev pub decreases-loop-left : goal.decreases-loop-left
decreases-loop-left g l = l.left
