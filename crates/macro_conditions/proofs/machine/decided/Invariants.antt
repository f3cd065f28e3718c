use Rattle.std.proofs.Common.{◌≡◌, [], true, drop}
use Rattle.macro_conditions.specs.Machine.{wants, run}
use Rattle.macro_conditions.specs.Reading.{frames, phase_view}
use Rattle.macro_conditions.specs.Conditions.{now}
use Rattle.macro_conditions.proofs.machine.decided.Given as goal

abbrev pub invariant-loop-kind : goal.invariant-loop-kind
invariant-loop-kind l = run (phase_view l.phase (frames l.stack.items)) (now (drop l.kind-index l.line)) ≡ run (wants [] true) (now l.line)
