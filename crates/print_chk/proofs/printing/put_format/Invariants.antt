use Rattle.std.proofs.Common.{◌-◌, ◌≤◌, length}
use Rattle.run_meaning.specs.Objects.{stream}
use Rattle.print_chk.specs.Written.{PutSoFar}
use Rattle.print_chk.proofs.printing.put_format.Given as goal

abbrev pub invariant-loop-from : goal.invariant-loop-from
invariant-loop-from g l = record {
  inside : l.at ≤ length l.format;
  few : l.next ≤ l.at;
  so_far : PutSoFar l.args l.mem l.format l.at l.next
      (stream (g.S.Sink.written l.fn.sink) (g.S.Sink.count l.fn.sink)) (stream (g.S.Sink.written l.sink) (g.S.Sink.count l.sink));
}

abbrev pub decreases-loop-from : goal.decreases-loop-from
decreases-loop-from g l = length l.format - l.at
