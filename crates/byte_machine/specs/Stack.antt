-- The calls of a machine as its code keeps them. It serves the proofs alone.
use Rattle.std.specs.Prelude.{◌≡◌, ℕ, ◌≤◌, List, [], ◌∷◌, ◌++◌, length, take, drop, reverse, replicate, sum_by, vec_len, vec_capacity, slice_set, ◌-◌}
use Rattle.byte_machine.specs.declared.windows.Mark.{Mark}
use Rattle.byte_machine.specs.declared.windows.Windows.TheInside.{Inside}
use Rattle.byte_machine.specs.Calls.{Stack, registers_in}
use Rattle.byte_machine.specs.State.{Window, stack_weights}

-- a call with its registers
abbrev pub window : Mark → List ℕ → Window
window mark registers = record { function = mark.function; at = mark.at; base = mark.base; registers = registers }

-- the calls from the newest on, whose registers are the last of the list
abbrev pub windows : List Mark → List ℕ → List Window
windows [] registers = []
windows (mark ∷ marks) registers = window mark (drop mark.start registers) ∷ windows marks (take mark.start registers)

abbrev pub stack_of : Inside → Stack
stack_of w = record {
  running = window w.running (drop w.running.start w.registers.items);
  callers = windows (reverse w.callers.items) (take w.running.start w.registers.items);
  room = vec_capacity w.callers;
}

-- each register is a call's, and there is room for as many as the weights of all calls may sum to
pub record IsStack (w : Inside) : Type 0 where
  pub registers : registers_in ((stack_of w).running ∷ (stack_of w).callers) ≡ vec_len w.registers
  pub room : stack_weights ≤ vec_capacity w.registers
