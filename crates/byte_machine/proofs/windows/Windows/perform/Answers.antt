-- The registers of the running call stand in the list.
use Rattle.std.proofs.Common.{ap}
use Rattle.byte_machine.proofs.Stacked.{start_within}
use Rattle.byte_machine.proofs.windows.Windows.perform.Goals as goal

pub slice_bounds-perform-count : goal.slice_bounds-perform-count
slice_bounds-perform-count c =
    start_within c.self.inside.running.start _ _ _ c.deref_mut.ensures.value (ap (λ s. s.running.registers) c.self.view_is) c.requires.some

pub slice_bounds-perform-start : goal.slice_bounds-perform-start
slice_bounds-perform-start c =
    start_within c.self.inside.running.start _ _ _ c.deref_mut.ensures.value (ap (λ s. s.running.registers) c.self.view_is) c.requires.some
