-- The calls of the library over objects, in the order in which they are looked at: an argument that was never given; for a function with
-- a checked form (glibc's `__memcpy_chk` and its kin) a dead destination, then the size of the destination, the cells that tell the
-- request, and whether it exceeds the size; and the rest. A call that exceeds goes on as the plain form does. This project's own.
use Rattle.std.specs.Prelude.{ℕ, ◌-◌, ◌*◌, ◌%◌, ◌==◌, Bool, true, false, List, [], ◌∷◌, length, Option, None, Some, Result, Ok, Err, if◌then◌else◌}
use Rattle.std.specs.Option.{option_map, option_map_or}
use Rattle.c_library.specs.Library.{row_of}
use Rattle.c_library.specs.declared.functions.CheckedForm.{CheckedForm}
use Rattle.c_library.specs.declared.functions.LibFn.{LibFn}
use Rattle.c_library.specs.declared.functions.LibFn.TheVariants as fn
use Rattle.c_library.specs.declared.functions.LibType.{LibType}
use Rattle.c_library.specs.declared.functions.LibType.TheVariants as type
use Rattle.fc_base.specs.declared.levels.End.TheVariants as ends
use Rattle.fc_base.specs.declared.undefined.UndefKind.{UndefKind}
use Rattle.library_meaning.specs.Prints as prints
use Rattle.library_meaning.specs.Rows.{Row, Ask, Point, Answer, run, request}
use Rattle.library_meaning.specs.Scan.{and_then}
use Rattle.library_meaning.specs.Table as table
use Rattle.library_meaning.specs.Table.{no_limit, pointers, second_for}
use Rattle.run_meaning.specs.Worlds.{World}
use Rattle.object_meaning.specs.Allocations.{Store, CallEnd, Gave, Ends, Undefined, unless_undefined, malloc, calloc, realloc, free}
use Rattle.object_meaning.specs.Objects.{Object}
use Rattle.object_meaning.specs.OnObjects as on
use Rattle.object_meaning.specs.OnObjects.{ObjectStop, on_objects, operand, pointer_at, value_of, call_tests}
use Rattle.object_meaning.specs.Sizes.{size_of}
use Rattle.object_meaning.specs.Touches.{tested}
use Rattle.object_meaning.specs.declared.values.Value.{Value}
use Rattle.object_meaning.specs.declared.values.Value.TheVariants.{Int, Pointer, Uninit, Nothing}

-- ---- each function's row

-- the row of a function that moves bytes, by how many arguments follow a format, and the size of the destination. Those that act on the
-- heap or end the run have none
abbrev pub row_for : LibFn → ℕ → ℕ → Option Row
row_for fn.Memcpy passed size = Some (table.memcpy size)
row_for fn.Memmove passed size = Some (table.memmove size)
row_for fn.Mempcpy passed size = Some (table.mempcpy size)
row_for fn.Memset passed size = Some (table.memset size)
row_for fn.Bzero passed size = Some (table.bzero size)
row_for fn.ExplicitBzero passed size = Some (table.bzero size)
row_for fn.Memcmp passed size = Some table.memcmp
row_for fn.Strcpy passed size = Some (table.strcpy size)
row_for fn.Stpcpy passed size = Some (table.stpcpy size)
row_for fn.Strncpy passed size = Some (table.strncpy size)
row_for fn.Strcat passed size = Some (table.strcat size)
row_for fn.Strncat passed size = Some (table.strncat size)
row_for fn.Strlen passed size = Some table.strlen
row_for fn.Strcmp passed size = Some table.strcmp
row_for fn.Strchr passed size = Some table.strchr
row_for fn.Printf passed size = Some (prints.printf passed)
row_for fn.Puts passed size = Some table.puts
row_for fn.Putchar passed size = Some table.putchar
row_for fn.Dprintf passed size = Some (prints.dprintf passed)
row_for fn.Sprintf passed size = Some (prints.sprintf passed size)
row_for fn.Snprintf passed size = Some (prints.snprintf passed size)
row_for fn.Read passed size = Some (table.read size)
row_for fn.Write passed size = Some table.write
row_for fn.Getchar passed size = Some table.getchar
row_for fn.Exit passed size = None
row_for fn.Abort passed size = None
row_for fn.Malloc passed size = None
row_for fn.Calloc passed size = None
row_for fn.Realloc passed size = None
row_for fn.Free passed size = None
row_for fn.Note passed size = None

-- how many arguments follow the format
abbrev pub passed_to : LibFn → List Value → ℕ
passed_to f args = length args - length (row_of f).parameters

-- How a call goes on behind a check that it exceeds: as the plain form. Where the scan that told the request stopped at the size, it
-- begins anew, behind a look at all pointers of the call
abbrev pub unchecked : LibFn → Row → Row
unchecked fn.Strcpy row = Point pointers pointers row
unchecked fn.Stpcpy row = Point pointers pointers row
unchecked fn.Strcat row = Point pointers pointers row
unchecked fn.Strncat row = Ask 2 (λ n. Point pointers (second_for n) row)
unchecked f row = row

-- ---- the check

-- the computed size of a call's destination
abbrev pub size_for : List Object → List Value → CheckedForm → ℕ
size_for objs args form = size_of objs form.mode (pointer_at args form.destination)

abbrev pub limit : LibFn → List Value → List Object → ℕ
limit f args objs = option_map_or (size_for objs args) (row_of f).checked no_limit

-- the place of the destination among the arguments
abbrev pub destination_of : LibFn → Option ℕ
destination_of f = option_map (λ form. form.destination) (row_of f).checked

-- whether the request of a call exceeds the size of its destination, once the cells are looked at that tell it
abbrev pub asks : LibFn → List Value → List Object → World → Result Bool ObjectStop
asks f args objs w =
    option_map_or (λ row. request (on_objects args) row objs w) (row_for f (passed_to f args) (limit f args objs)) (Ok false)

-- ---- the call

abbrev pub stopped : ObjectStop → CallEnd
stopped on.Overflow = Ends ends.Overflow
stopped on.BadFormat = Ends ends.BadFormat
stopped (on.Undefined kind) = Undefined kind

-- a function of type void gives nothing
abbrev pub given_by : LibType → Value → Value
given_by type.Void v = Nothing
given_by _ v = v

-- what a call did by its row
abbrev pub answered : LibFn → List Value → Store → Result (Answer (List Object)) ObjectStop → CallEnd
answered f args s (Ok a) = Gave (given_by (row_of f).gives (value_of args a.given)) (record s { objects = a.memory }) a.world
answered f args s (Err stop) = stopped stop

abbrev pub by_row : LibFn → List Value → Option Row → Store → World → CallEnd
by_row f args None s w = Gave Nothing s w
by_row f args (Some row) s w = answered f args s (run (on_objects args) row s.objects w)

-- a number among the arguments. There is none behind what is no number; the types of a call's arguments rule it out
abbrev pub number_in : Value → ℕ
number_in (Int n) = n
number_in (Pointer v) = 0
number_in Uninit = 0
number_in Nothing = 0

abbrev pub number_at : List Value → ℕ → ℕ
number_at args i = number_in (operand args i)

-- the row of a call whose check said this
abbrev pub checked_row : Bool → LibFn → List Value → List Object → Option Row
checked_row false f args objs = row_for f (passed_to f args) (limit f args objs)
checked_row true f args objs = option_map (unchecked f) (row_for f (passed_to f args) no_limit)

-- what a call does behind its check, or where it has none (exit and abort: C11 7.22.4.4 and 7.22.4.1)
abbrev pub acts : Bool → LibFn → List Value → Store → World → CallEnd
acts exceeds fn.Exit args s w = Ends (ends.Exit (number_at args 0 % 256))
acts exceeds fn.Abort args s w = Ends ends.Abort
acts exceeds fn.Malloc args s w = malloc (number_at args 0) s w
acts exceeds fn.Calloc args s w = calloc (number_at args 0 * number_at args 1) s w
acts exceeds fn.Realloc args s w = realloc (pointer_at args 0) (number_at args 1) s w
acts exceeds fn.Free args s w = free (pointer_at args 0) s w
acts exceeds f args s w = by_row f args (checked_row exceeds f args s.objects) s w

-- the size of the destination, and whether the request exceeds it
pub record SizeCheck : Type 0 where
  pub size : ℕ
  pub exceeds : Bool

abbrev pub size_check : ℕ → Bool → SizeCheck
size_check size exceeds = record { size = size; exceeds = exceeds }

-- a call up to its check
abbrev pub checks : LibFn → List Value → List Object → World → Option CheckedForm → Result SizeCheck ObjectStop
checks f args objs w None = Ok (size_check no_limit false)
checks f args objs w (Some form) = and_then (asks f args objs w) (λ exceeds. Ok (size_check (limit f args objs) exceeds))

abbrev pub lib_request : LibFn → List Value → List Object → World → Result SizeCheck ObjectStop
lib_request f args objs w =
    and_then (on.unless_undefined (tested (call_tests args objs (destination_of f)) (Ok (tt {0})))) (λ _. checks f args objs w (row_of f).checked)

abbrev pub after_check : LibFn → List Value → Store → World → Result SizeCheck ObjectStop → CallEnd
after_check f args s w (Ok check) = acts check.exceeds f args s w
after_check f args s w (Err stop) = stopped stop

-- a whole call
abbrev pub lib_call : LibFn → List Value → Store → World → CallEnd
lib_call f args s w = after_check f args s w (lib_request f args s.objects w)
