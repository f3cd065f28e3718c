-- The calls of a machine apart from the rest of it. It serves the proofs alone.
use Rattle.std.specs.Prelude.{ℕ, List, [], ◌∷◌, ◌++◌, length, replicate, sum_by, slice_set, ◌-◌, Bool, true, false}
use Rattle.byte_machine.specs.State.{Window}

-- the running call, those that wait for it from the newest on, and for how many there is room
pub record Stack : Type 0 where
  pub running : Window
  pub callers : List Window
  pub room : ℕ

-- how many registers the calls have
abbrev pub registers_in : List Window → ℕ
registers_in calls = sum_by (λ w. length w.registers) calls

-- so many registers, of which the first are given
abbrev pub registers_from : List ℕ → ℕ → List ℕ
registers_from given count = given ++ replicate (count - length given) 0

-- the running call waits for another
abbrev pub entered : Window → Stack → Stack
entered callee s = record s { running = callee; callers = s.running ∷ s.callers }

-- the running call is over, and its caller goes on; the first call has none
abbrev pub left : List Window → Stack → Stack
left [] s = s
left (caller ∷ callers) s = record s { running = caller; callers = callers }

-- a call waits
abbrev pub waits : List Window → Bool
waits [] = false
waits (caller ∷ callers) = true

-- the running call stands elsewhere, or has another number in a register
abbrev pub stands_at : ℕ → Stack → Stack
stands_at at s = record s { running = record s.running { at = at } }

abbrev pub has_set : ℕ → ℕ → Stack → Stack
has_set r number s = record s { running = record s.running { registers = slice_set s.running.registers r number } }
