use Rattle.std.proofs.Common.{◌≡◌, ◌≤◌, ◌-◌}
use Rattle.run_meaning.specs.Objects.{stream, streams}
use Rattle.byte_machine.specs.Performing.{IsGoing}
use Rattle.byte_machine.proofs.Runs.{CarriedBy}
use Rattle.byte_machine.proofs.machine.Machine.run.Given as goal

-- the machine runs, and what it did since the call is that many instructions
abbrev pub invariant-loop-done : goal.invariant-loop-done
invariant-loop-done g l = record {
  done : l.done ≤ l.budget;
  program : l.self.program ≡ l.fn.self.program;
  going : IsGoing l.self;
  carried : CarriedBy l.done l.fn.self.program l.fn.self.core l.self.core
      (streams (stream (g.I.Source.left l.fn.input) (g.I.Source.count l.fn.input))
      (stream (g.O.Sink.written l.fn.out) (g.O.Sink.count l.fn.out)) (stream (g.E.Sink.written l.fn.err) (g.E.Sink.count l.fn.err)))
      (streams (stream (g.I.Source.left l.input) (g.I.Source.count l.input)) (stream (g.O.Sink.written l.out) (g.O.Sink.count l.out))
      (stream (g.E.Sink.written l.err) (g.E.Sink.count l.err)));
}

abbrev pub decreases-loop-done : goal.decreases-loop-done
decreases-loop-done g l = l.budget - l.done
