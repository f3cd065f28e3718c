-- What a call that types a part of a file has done.
use Rattle.std.specs.Prelude.{◌≡◌, length, take, Result, Ok, Err}
use Rattle.fc_base.specs.declared.refusals.Fault.{Fault}
use Rattle.fc_base.specs.declared.refusals.Fault.TheVariants as fault
use Rattle.elab_meaning.specs.Typing.{State as Meant, Typing}
use Rattle.elab_scope.specs.declared.state.State.{State}

-- the state as the definition has it
abbrev pub state_of : State → Meant
state_of s = record { scope = s.scope; beside = s.beside }

-- Exactly what the definition says: what it gives, with the state behind it, or its refusal. For want of memory nothing is said.
abbrev pub Types : {A : Type 0} → Typing A → State → Result A Fault → State → Type 0
Types part old (Ok a) new = part (state_of old) ≡ Ok (a, state_of new)
Types part old (Err (fault.Refused r)) new = part (state_of old) ≡ Err r
Types part old (Err fault.NoMemory) new = Unit {0}

-- The names that were there are there still, behind a refusal and want of memory too.
pub record Grows (old new : State) : Type 0 where
  pub names : take (length old.scope.names) new.scope.names ≡ old.scope.names
