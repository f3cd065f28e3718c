-- The law of stopped machines.
use Rattle.byte_machine.proofs.Runs.{stopped_stays_lem}
use Rattle.byte_machine.proofs.laws.stopped_stays.Goals as goal

pub returns : goal.returns
returns c = stopped_stays_lem
