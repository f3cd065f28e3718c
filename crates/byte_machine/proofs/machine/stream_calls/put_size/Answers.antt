-- What was written is the line of the numbers.
use Rattle.byte_machine.proofs.Noted.{note_writes, note_fails}
use Rattle.byte_machine.proofs.machine.stream_calls.put_size.Goals as goal

pub returns-in-Ok-clause-row : goal.returns-in-Ok-clause-row
returns-in-Ok-clause-row g c = λ memory.
    note_writes c.args.line c.args.column c.args.mode c.args.value c.mode_at.result memory _ _ c.mode_at.ensures c.in-Ok.ensures

pub returns-in-Err-clause-row : goal.returns-in-Err-clause-row
returns-in-Err-clause-row g c = λ memory.
    note_fails c.args.line c.args.column c.args.mode c.args.value c.mode_at.result memory c.in-Err.stop _ _ c.mode_at.ensures c.in-Err.ensures
