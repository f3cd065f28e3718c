-- The words in which the plain meaning is written (C11 5.1.2.3: the abstract machine). This project's own.
--
-- An action goes on from a state and a number of steps that are left, and gives a value with what is left of both, or a run that is
-- over: `Action A`. Actions follow each other by `◌>>=◌`, that is in `do` blocks: behind a run that is over nothing is done. So each
-- equation of the meaning is a `do` block of what C11 says, in its order.
use Rattle.std.specs.Prelude.{ℕ, zero, suc, ⊤, List, [], ◌∷◌, ◌++◌, Result, Ok, Err, set, get_or}
use Rattle.fc_base.specs.declared.levels.End.{End}
use Rattle.fc_base.specs.declared.refusals.Place.{Place}
use Rattle.fc_base.specs.declared.undefined.UndefKind.{UndefKind}
use Rattle.fc_base.specs.declared.undefined.UndefKind.TheVariants as kind
use Rattle.run_meaning.specs.Events.{Event}
use Rattle.run_meaning.specs.Runs.{Standing, Ended, Undefined, Going}
use Rattle.run_meaning.specs.Worlds.{Input}
use Rattle.object_meaning.specs.Allocations.{Store}
use Rattle.object_meaning.specs.Objects.{Object}
use Rattle.object_meaning.specs.Touches.{Test, tested}
use Rattle.object_meaning.specs.declared.values.Value.{Value}
use Rattle.object_meaning.specs.declared.values.Value.TheVariants.{Uninit}

infixl 20 ◌>>=◌
infixl 20 ◌>>◌
-- ---- states

-- where a variable of the running function is: its value, where it is a register variable, or its object
pub data Variable : Type 0 where
  Register : (value : Value) → Variable
  InObject : (object : ℕ) → Variable

-- What a run has come to: the variables of the running function by their numbers; objects, heap and blocks; what is left to take; the
-- events so far; and the frames and weights of the live calls, inline ones left away, in bytes and in units of weight
pub record State : Type 0 where
  pub variables : List Variable
  pub store : Store
  pub input : Input
  pub events : List Event
  pub frames : ℕ
  pub weights : ℕ

-- ---- outcomes

-- a value, with the state behind it and the steps left; or a run that is over, by its events and how it stands
pub data Outcome (A : Type 0) : Type 0 where
  On : (value : A) (s : State) (left : ℕ) → Outcome A
  Stop : (events : List Event) (standing : Standing) → Outcome A

abbrev pub bind : {A B : Type 0} → Outcome A → (A → State → ℕ → Outcome B) → Outcome B
bind (On value s left) go = go value s left
bind (Stop events standing) go = Stop events standing

-- ---- actions

abbrev pub Action : Type 0 → Type 0
Action A = State → ℕ → Outcome A

abbrev pub pure : {A : Type 0} → A → Action A
pure a s left = On a s left

abbrev pub ◌>>=◌ : {A B : Type 0} → Action A → (A → Action B) → Action B
◌>>=◌ first rest s left = bind (first s left) rest

abbrev pub ◌>>◌ : {A B : Type 0} → Action A → Action B → Action B
◌>>◌ first rest = first >>= (λ _. rest)

-- reads the state, and changes it
abbrev pub look : {A : Type 0} → (State → A) → Action A
look what s left = On (what s) s left

abbrev pub change : (State → State) → Action ⊤
change what s left = On tt (what s) left

-- the run is over
abbrev pub stop : {A : Type 0} → Standing → Action A
stop standing s left = Stop s.events standing

abbrev pub ends : {A : Type 0} → End → Action A
ends end = stop (Ended end)

abbrev pub undefined : {A : Type 0} → Place → UndefKind → Action A
undefined at kind = stop (Undefined kind at)

-- the result of an operation of the node at this place, unless it is undefined (C11 4p2 and 3.4.3)
abbrev pub defined : {A : Type 0} → Place → Result A UndefKind → Action A
defined at (Ok a) = pure a
defined at (Err kind) = undefined at kind

-- the first test that fails is what the node at this place is undefined by
abbrev pub passes : Place → List Test → Action ⊤
passes at tests = defined at (tested tests (Ok tt))

-- one more event
abbrev pub note : Event → Action ⊤
note event = change (λ s. record s { events = s.events ++ event ∷ [] })

-- A step of those that are left. Where none is left the run goes on at a larger bound
abbrev pub step : Action ⊤
step s zero = Stop s.events Going
step s (suc left) = On tt s left

-- an action that can't be undefined or end the run by itself: where it would, the operation at this place is a bad size argument
abbrev pub argument_standing : Place → Standing → Standing
argument_standing at (Ended end) = Undefined kind.SizeArgument at
argument_standing at (Undefined k p) = Undefined kind.SizeArgument at
argument_standing at Going = Going

abbrev pub argument_outcome : {A : Type 0} → Place → Outcome A → Outcome A
argument_outcome at (On value s left) = On value s left
argument_outcome at (Stop events standing) = Stop events (argument_standing at standing)

abbrev pub as_argument : {A : Type 0} → Place → Action A → Action A
as_argument at action s left = argument_outcome at (action s left)

-- ---- the state's parts

abbrev pub objects : Action (List Object)
objects = look (λ s. s.store.objects)

abbrev pub set_objects : List Object → Action ⊤
set_objects objs = change (λ s. record s { store = record s.store { objects = objs } })

abbrev pub variable_at : ℕ → State → Variable
variable_at n s = get_or s.variables n (Register Uninit)

abbrev pub set_variable : ℕ → Variable → Action ⊤
set_variable n variable = change (λ s. record s { variables = set s.variables n variable })
