use Rattle.std.proofs.Common.{sym}
use Rattle.src_lib.proofs.Asking.{copy_stops}
use Rattle.src_lib.proofs.requests.copy_exceeds.Goals as goal

pub returns-in-Err : goal.returns-in-Err
returns-in-Err c = sym (copy_stops c.args.memory.now c.args.s c.args.size c.in-Err.kind c.in-Err.ensures.found)
