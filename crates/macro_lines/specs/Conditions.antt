-- Whether the condition of a line holds, as plain data.
use Rattle.std.specs.Prelude.{◌≡◌, ℕ, Bool, List, Some, Result, Ok, Err}
use Rattle.fc_base.specs.declared.Place.{Place}
use Rattle.fc_base.specs.declared.Fault.{Fault}
use Rattle.fc_base.specs.declared.Fault.TheVariants.{Refused, NoMemory}
use Rattle.c_tokens.specs.declared.Token.{Token}
use Rattle.macro_meaning.specs.declared.Group.{Group}
use Rattle.macro_meaning.specs.Macros.{Macros}
use Rattle.macro_meaning.specs.Moves.{State, refuses, decides, decided}
use Rattle.macro_meaning.specs.Expansion.{Comes}

-- the condition of a line is decided for every conditional, with the count after it, or refused
abbrev pub HoldsAs : Result (Bool × ℕ) Fault → Macros → ℕ → Place → List Token → Type 0
HoldsAs (Ok r) ms count place line = (st : State) (g : Group) (gs : List Group) → st.macros ≡ ms
    → Comes st count (decides place line g gs) (decided st place g gs (Some r.0)) r.1
HoldsAs (Err NoMemory) ms count place line = Unit {0}
HoldsAs (Err (Refused e)) ms count place line = (st : State) (g : Group) (gs : List Group) → st.macros ≡ ms
    → (c : ℕ) × Comes st count (decides place line g gs) (refuses e) c
