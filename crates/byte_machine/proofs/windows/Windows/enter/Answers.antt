-- There is room for one more caller.
use Rattle.std.proofs.Common.{◌≡◌, ◌<◌, length, take, reverse, vec_len, vec_capacity, sym, ◌∙◌, ap, arith}
use Rattle.std.proofs.lemmas.List.{length-reverse}
use Rattle.byte_machine.specs.Stack.{stack_of}
use Rattle.byte_machine.proofs.Stacked.{length_windows}
use Rattle.byte_machine.proofs.windows.Windows.enter.Goals as goal

pub push_reserved-requires : goal.push_reserved-requires
push_reserved-requires c =
    let w = c.self.inside in
    let len : vec_len w.callers ≡ length w.callers.items = w.callers.ok.0 in
    let many = length_windows (reverse w.callers.items) (take w.running.start w.registers.items) ∙ length-reverse w.callers.items in
    let callers = ap (λ s. length s.callers) c.self.view_is in
    let room = ap (λ s. s.room) c.self.view_is in
    let below = c.requires.room in
    omega (arith, len, many, callers, room, below)
