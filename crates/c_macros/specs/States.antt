-- What is known between two directives, and where a directive goes, as plain data.
use Rattle.std.specs.Prelude.{◌≡◌, List, reverse, Result, Ok, Err}
use Rattle.fc_base.specs.declared.Fault.{Fault}
use Rattle.fc_base.specs.declared.Fault.TheVariants.{Refused, NoMemory}
use Rattle.c_tokens.specs.declared.Token.{Token}
use Rattle.macro_meaning.specs.Moves.{State, Next, refuses, goes, Move, over, moves}
use Rattle.macro_items.specs.Views.{table}
use Rattle.macro_definitions.specs.declared.State.{State as Held}

abbrev pub state_view : Held → State
state_view st = record { macros = table st.macros; groups = reverse st.groups.items; headers = st.headers.items }

-- where a function went to, by the state afterwards
abbrev pub GoesAs : {X : Type 0} → Result X Fault → (X → List Token) → State → Next → Type 0
GoesAs (Ok x) given st n = n ≡ goes st (given x)
GoesAs (Err NoMemory) given st n = Unit {0}
GoesAs (Err (Refused e)) given st n = n ≡ refuses e

-- the end of a list
abbrev pub EndsAs : Result (Unit {0}) Fault → Move → Type 0
EndsAs (Ok u) m = m ≡ over
EndsAs (Err NoMemory) m = Unit {0}
EndsAs (Err (Refused e)) m = m ≡ moves (refuses e)
