-- A call behind its check, as code does it.
use Rattle.std.specs.Prelude.{◌≡◌, ℕ, suc, Bool, true, false, List, [], ◌∷◌, Option, None, Some, Result, Ok, Err, ltb, if◌then◌else◌}
use Rattle.c_library.specs.Library.{row_of}
use Rattle.c_library.specs.declared.functions.LibFn.{LibFn}
use Rattle.c_library.specs.declared.functions.LibFn.TheVariants as fn
use Rattle.c_library.specs.declared.functions.LibType.{LibType}
use Rattle.fc_base.specs.declared.undefined.UndefKind.{UndefKind}
use Rattle.run_meaning.specs.Worlds.{World}
use Rattle.library_meaning.specs.Rows.{Row, Answer, run}
use Rattle.object_meaning.specs.LibraryCalls.{given_by, number_at, number_in}
use Rattle.object_meaning.specs.Objects.{Object}
use Rattle.object_meaning.specs.OnObjects.{ObjectStop, as_pointer, on_objects, operand, pointer_at, value_of}
use Rattle.object_meaning.specs.declared.values.Value.{Value}
use Rattle.object_meaning.specs.declared.values.Value.TheVariants.{Int, Pointer}
use Rattle.src_lib.specs.Ends.{stop_of}
use Rattle.src_lib.specs.Reaches.{pointed}
use Rattle.src_lib.specs.Requests.{is_number}
use Rattle.src_lib.specs.declared.ends.Stop.{Stop}

-- the functions whose rows move bytes of memory alone: they show and take nothing
abbrev pub is_silent : LibFn → Bool
is_silent fn.Memcpy = true
is_silent fn.Memmove = true
is_silent fn.Mempcpy = true
is_silent fn.Memset = true
is_silent fn.Bzero = true
is_silent fn.ExplicitBzero = true
is_silent fn.Memcmp = true
is_silent fn.Strcpy = true
is_silent fn.Stpcpy = true
is_silent fn.Strncpy = true
is_silent fn.Strcat = true
is_silent fn.Strncat = true
is_silent fn.Strlen = true
is_silent fn.Strcmp = true
is_silent fn.Strchr = true
is_silent _ = false

-- what a function did by its row, the world being as it was: its value, or nothing where it is of type void
abbrev pub DidBy : LibFn → List Value → World → Result (Answer (List Object)) ObjectStop → List Object → List Object → Result Value Stop → Type 0
DidBy f args w (Ok a) old new (Ok v) = (v ≡ given_by (row_of f).gives (value_of args a.given)) × (new ≡ a.memory) × (a.world ≡ w)
DidBy f args w (Ok a) old new (Err stop) = ⊥
DidBy f args w (Err e) old new (Ok v) = ⊥
DidBy f args w (Err e) old new (Err stop) = (stop_of stop ≡ e) × (new ≡ old)

abbrev pub DoesBy : LibFn → List Value → World → Option Row → List Object → List Object → Result Value Stop → Type 0
DoesBy f args w None old new result = ⊥
DoesBy f args w (Some row) old new result = DidBy f args w (run (on_objects args) row old w) old new result

-- arguments that have their types, one by one
abbrev pub typed_value : Bool → Value → Value
typed_value number v = if number then Int (number_in v) else Pointer (as_pointer v)

abbrev pub typed_list : List LibType → List Value → ℕ → List Value
typed_list [] args i = []
typed_list (t ∷ ts) args i = typed_value (is_number t) (operand args i) ∷ typed_list ts args (suc i)

-- a look at the pointers of a call whose scans begin anew, behind a check that exceeds
abbrev pub looked : List Object → LibFn → List Value → Result (Unit {0}) UndefKind
looked objs fn.Strcpy args = pointed objs (pointer_at args 0) (pointer_at args 1) true true
looked objs fn.Stpcpy args = pointed objs (pointer_at args 0) (pointer_at args 1) true true
looked objs fn.Strcat args = pointed objs (pointer_at args 0) (pointer_at args 1) true true
looked objs fn.Strncat args = pointed objs (pointer_at args 0) (pointer_at args 1) true (ltb 0 (number_at args 2))
looked objs _ args = Ok tt
