use Rattle.std.proofs.Common.{◌∙◌, arith}
use Rattle.macro_conditions.specs.Reading.{frames, phase_view}
use Rattle.macro_conditions.proofs.Steps.{stops, ends}
use Rattle.macro_conditions.proofs.machine.decided.Goals as goal

pub returns-in-None : goal.returns-in-None
returns-in-None c =
    let s = rw c.in-None.is at c.in_ok-next.ensures in
    stops c.args.line.now c.loop-kind.kind-index c.kind-item.result
    (phase_view c.loop-kind.phase (frames c.loop-kind.stack.items)) c.loop-kind-test.true c.kind-item.is s c.loop-kind.invariant

pub returns : goal.returns
returns c = c.holds.ensures
    ∙ ends c.args.line.now c.loop-kind.kind-index (phase_view c.loop-kind.phase (frames c.loop-kind.stack.items)) c.finish.result
    (omega arith) c.finish.ensures c.loop-kind.invariant
