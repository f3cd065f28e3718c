use Rattle.std.proofs.Common.{◌≡◌}
use Rattle.byte_machine.specs.State.{after}
use Rattle.byte_machine.specs.Stack.{window}
use Rattle.byte_machine.specs.View.{IsCall}
use Rattle.byte_machine.specs.Straight.{Around, running_at}
use Rattle.byte_machine.proofs.straight.straight.Given as goal

-- so many instructions were carried out, whatever calls wait
abbrev pub invariant-loop-turn : goal.invariant-loop-turn
invariant-loop-turn l = record {
  call : IsCall (record { functions = l.functions.records.now; code = l.functions.code.now }) (record (window l.mark l.registers) { at = l.at });
  stays : (a : Around) → after (record { functions = l.functions.records.now; code = l.functions.code.now }) l.turn
      (running_at a l.mark.base l.mark.at l.fn.registers l.fn.memory l.fn.slots) ≡ running_at a l.mark.base l.at l.registers l.memory l.slots;
}
