-- The write lies behind the registers of the callers.
use Rattle.std.proofs.Common.{◌+◌, refl, arith}
use Rattle.std.proofs.lemmas.List.{drop-set-add, take-set-le}
use Rattle.byte_machine.proofs.windows.Windows.set.Goals as goal

pub returns : goal.returns
returns c =
    let w = c.self.inside in
    let start = w.running.start in
    let above = drop-set-add start w.registers.items c.args.r c.args.number in
    let below = take-set-le start w.registers.items (start + c.args.r) c.args.number (omega arith) in
    rw (← c.self.view_is, above, below) refl
