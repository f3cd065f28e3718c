-- Laws of the machine: its moves come to an end, and to what the plain meaning says.
use Rattle.std.specs.Prelude.{◌≡◌, ◌<◌, ℕ, true, false, List, Option}
use Rattle.c_layout.specs.declared.tags.TagDef.{TagDef}
use Rattle.fc_base.specs.declared.refusals.Place.{Place}
use Rattle.object_meaning.specs.declared.values.Value.{Value}
use Rattle.plain_meaning.specs.Actions.{State}
use Rattle.plain_meaning.specs.Expressions.{Calls}
use Rattle.mean_steps.specs.After.{Answer, answer_at}
use Rattle.mean_steps.specs.Machine.{Move}
use Rattle.mean_steps.specs.Weights.{advance, is_running, moved, work}

-- a move: the machine is on its way to the same answer, however many steps are left, and has less work before it
pub record Advances (tags : List TagDef) (call : Calls) (ends : Option Place → Value → State → ℕ → Answer) (m : Move) : Type 0 where
  pub same : (left : ℕ) → answer_at tags call ends (advance tags m) left ≡ answer_at tags call ends m left
  pub less : is_running m ≡ true → work (advance tags m) < work m

-- for any meaning of the file's functions, and of a value that no work waits for
abbrev pub EachMoveAdvances : Type 0
EachMoveAdvances =
    (tags : List TagDef) (call : Calls) (ends : Option Place → Value → State → ℕ → Answer) (m : Move) → Advances tags call ends m

-- so the machine comes to where it hands on its last value, calls a function or is over, with the same answer before it
pub record Settles (tags : List TagDef) (call : Calls) (ends : Option Place → Value → State → ℕ → Answer) (m : Move) : Type 0 where
  pub over : is_running (moved tags (work m) m) ≡ false
  pub same : (left : ℕ) → answer_at tags call ends (moved tags (work m) m) left ≡ answer_at tags call ends m left

abbrev pub EachRunSettles : Type 0
EachRunSettles =
    (tags : List TagDef) (call : Calls) (ends : Option Place → Value → State → ℕ → Answer) (m : Move) → Settles tags call ends m
