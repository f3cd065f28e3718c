use Rattle.std.proofs.Common.{◌-◌, ◌≤◌}
use Rattle.run_meaning.specs.Objects.{stream}
use Rattle.fd_chk.specs.Taken.{TookTo}
use Rattle.fd_chk.proofs.taking.take_to.Given as goal

-- the first `count` bytes are taken
abbrev pub invariant-loop-count : goal.invariant-loop-count
invariant-loop-count g l = record {
  within : l.count ≤ l.most;
  took : TookTo l.at l.count l.fn.mem l.mem
      (stream (g.I.Source.left l.fn.input) (g.I.Source.count l.fn.input)) (stream (g.I.Source.left l.input) (g.I.Source.count l.input));
  grew : g.I.Source.count l.fn.input ≤ g.I.Source.count l.input;
}

abbrev pub decreases-loop-count : goal.decreases-loop-count
decreases-loop-count g l = l.most - l.count
