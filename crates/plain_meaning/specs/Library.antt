-- Calls of the library (C11 7; POSIX; glibc): the steps of a call in their order, with the events between them. What a call does stands in
-- `object_meaning` over the rows of `library_meaning`.
use Rattle.std.specs.Prelude.{ℕ, Bool, false, List, [], ◌∷◌, ◌++◌, map, Option, None, Some, Result, Ok, Err}
use Rattle.c_library.specs.declared.functions.CheckedForm.{CheckedForm}
use Rattle.c_library.specs.declared.functions.LibFn.{LibFn}
use Rattle.c_library.specs.Library.{row_of}
use Rattle.fc_base.specs.declared.refusals.Place.{Place}
use Rattle.fc_base.specs.declared.levels.End.TheVariants as end
use Rattle.fc_base.specs.declared.levels.Mode.{Mode}
use Rattle.run_meaning.specs.Events.{Event, Moved, Asked, Check}
use Rattle.run_meaning.specs.Runs.{Shown}
use Rattle.run_meaning.specs.Worlds.{World}
use Rattle.object_meaning.specs.Allocations.{CallEnd, Gave, Ends, Undefined}
use Rattle.object_meaning.specs.LibraryCalls.{destination_of, asks, acts}
use Rattle.object_meaning.specs.OnObjects as on
use Rattle.object_meaning.specs.OnObjects.{ObjectStop, pointer_at, call_tests}
use Rattle.object_meaning.specs.Sizes.{size_of, true_size, is_resolved}
use Rattle.object_meaning.specs.declared.values.PtrValue.{PtrValue}
use Rattle.object_meaning.specs.declared.values.Value.{Value}
use Rattle.plain_meaning.specs.Actions.{Action, ◌>>=◌, ◌>>◌, pure, look, change, ends, undefined, passes, note, objects}

-- the size of a pointer is asked, and is what the rules tell
abbrev pub asked : Place → Mode → Bool → PtrValue → Action ℕ
asked at mode written v = do
  objs ← objects
  note (Asked at mode (size_of objs mode v) (true_size objs mode v) (is_resolved v) written)
  pure (size_of objs mode v)

-- what a call may take, and nothing that has moved before it
abbrev pub world : Action World
world = look (λ s. record { input = s.input; shown = [] })

-- the bytes that a call has moved, which are all on one descriptor
abbrev pub moved_by : Shown → List Event
moved_by [] = []
moved_by ((descriptor, byte) ∷ rest) = Moved descriptor (byte ∷ map (λ pair. pair.1) rest) ∷ []

-- the end of a call whose called name stands at this place
abbrev pub ended : Place → CallEnd → Action Value
ended at (Gave value new after) = do
  change (λ s. record s { store = new; input = after.input; events = s.events ++ moved_by after.shown })
  pure value
ended at (Ends end) = ends end
ended at (Undefined kind) = undefined at kind

abbrev pub act : Place → LibFn → List Value → Bool → Action Value
act at f args exceeds = do
  w ← world
  s ← look (λ s. s.store)
  ended at (acts exceeds f args s w)

-- what stops a call before its check
abbrev pub judged : {A : Type 0} → Place → Result A ObjectStop → Action A
judged at (Ok a) = pure a
judged at (Err on.Overflow) = ends end.Overflow
judged at (Err on.BadFormat) = ends end.BadFormat
judged at (Err (on.Undefined kind)) = undefined at kind

-- the check of a call with a checked form: the size of its destination is asked, then the cells are looked at that tell the request
abbrev pub checked : Place → LibFn → List Value → Option CheckedForm → Action Bool
checked at f args None = pure false
checked at f args (Some form) = do
  size ← asked at form.mode false (pointer_at args form.destination)
  objs ← objects
  w ← world
  exceeds ← judged at (asks f args objs w)
  note (Check at size exceeds)
  pure exceeds

-- A call on arguments that are evaluated. The run goes on behind a check that exceeds, as without one: where it is cut off there is said of
-- the events (`checked` of `run_meaning`)
abbrev pub library : Place → LibFn → List Value → Action Value
library at f args = do
  objs ← objects
  passes at (call_tests args objs (destination_of f))
  exceeds ← checked at f args (row_of f).checked
  act at f args exceeds
