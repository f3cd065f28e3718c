-- The events of the plain meaning, and what of them is shown at a level. The overflow line is glibc's `__chk_fail`
-- text; the form of the size line is this project's own.
use Rattle.std.specs.Prelude.{◌≡◌, ℕ, ◌≤◌, List, [], ◌∷◌, ◌++◌, Bool, true, Option, Some, ⊤, codes, decimal, cond}
use Rattle.run_meaning.specs.Runs.{Shown, Standing, Ended, on_descriptor}
use Rattle.fc_base.specs.declared.levels.End.TheVariants as ends
use Rattle.fc_base.specs.declared.levels.Level.{Level}
use Rattle.fc_base.specs.declared.levels.Level.TheVariants as levels
use Rattle.fc_base.specs.declared.levels.Mode.{Mode}
use Rattle.fc_base.specs.declared.levels.Mode.TheVariants as modes
use Rattle.fc_base.specs.declared.refusals.Place.{Place}

-- what the plain meaning does that is seen or asked: bytes taken from descriptor 0 or written on 1 or 2 by one
-- library call; a size that is asked, by a size expression that is written in the source or by a call with a checked
-- form, with its true number where the pointer has one, and whether the pointer was resolved; and the check of such a
-- call
pub data Event : Type 0 where
  Moved : (descriptor : ℕ) → (bytes : List ℕ) → Event
  Asked : (place : Place) → (mode : Mode) → (value : ℕ) → (true_size : Option ℕ) → (resolved : Bool) → (written : Bool) → Event
  Check : (place : Place) → (size : ℕ) → (exceeds : Bool) → Event

-- the events up to the first check that exceeds, which ends the run
abbrev pub checked : List Event → Standing → List Event × Standing
checked [] end = ([], end)
checked (Check place size true ∷ events) end = ([], Ended ends.Overflow)
checked (event ∷ events) end = (event ∷ (checked events end).0, (checked events end).1)

-- at level 3 the calls are checked, at level 0 none is
abbrev pub at_level : Level → List Event → Standing → List Event × Standing
at_level levels.Zero events end = (events, end)
at_level levels.Three events end = checked events end

-- the number of a mode
abbrev pub mode_number : Mode → ℕ
mode_number modes.M0 = 0
mode_number modes.M1 = 1
mode_number modes.M2 = 2
mode_number modes.M3 = 3

-- a size that was computed at run time: `size LINE:COLUMN mode MODE = VALUE`
unfoldable pub size_text : Place → Mode → ℕ → List ℕ
size_text place mode value =
    codes "size " ++ decimal place.line ++ codes ":" ++ decimal place.col ++ codes " mode "
    ++ decimal (mode_number mode) ++ codes " = " ++ decimal value

-- its line
abbrev pub size_line : Place → Mode → ℕ → List ℕ
size_line place mode value = size_text place mode value ++ 10 ∷ []

-- a size against the true one: at least that in the maximum modes, at most that in the minimum modes
abbrev pub Bounds : Mode → ℕ → ℕ → Type 0
Bounds modes.M0 value true_size = true_size ≤ value
Bounds modes.M1 value true_size = true_size ≤ value
Bounds modes.M2 value true_size = value ≤ true_size
Bounds modes.M3 value true_size = value ≤ true_size

-- a size that was asked bounds the true one, and is that one where the pointer was resolved
abbrev pub Brackets : Event → Type 0
Brackets (Asked place mode value (Some true_size) resolved written) =
    Bounds mode value true_size × (resolved ≡ true → value ≡ true_size)
Brackets _ = ⊤

-- which sizes write their line: those that are written in the source, and at level 3 those of checked calls too
abbrev pub writes_line : Level → Bool → Bool
writes_line levels.Zero written = written
writes_line levels.Three written = true

-- what one event shows, with or without the size lines
abbrev pub shown_of : Level → Bool → Event → Shown
shown_of level sizes (Moved descriptor bytes) = on_descriptor descriptor bytes
shown_of level sizes (Asked place mode value true_size resolved written) =
    cond sizes (cond (writes_line level written) (on_descriptor 2 (size_line place mode value)) []) []
shown_of level sizes (Check place size exceeds) = []

-- what the events show in order
abbrev pub shown_by : Level → Bool → List Event → Shown
shown_by level sizes [] = []
shown_by level sizes (event ∷ events) = shown_of level sizes event ++ shown_by level sizes events

-- what a checked call writes on standard error before it aborts
abbrev pub overflow_line : List ℕ
overflow_line = codes "*** buffer overflow detected ***: terminated" ++ 10 ∷ []

-- what an end itself shows
abbrev pub shown_at_end : Standing → Shown
shown_at_end (Ended ends.Overflow) = on_descriptor 2 overflow_line
shown_at_end _ = []

-- what a source with these events and this end shows at a level, and how it stands
abbrev pub source_shown : Level → Bool → List Event → Standing → Shown × Standing
source_shown level sizes events end =
    let run = at_level level events end in
    (shown_by level sizes run.0 ++ shown_at_end run.1, run.1)
