-- What a call asks for, as code asks it.
use Rattle.std.specs.Prelude.{ℕ, ◌+◌, ◌-◌, min, Bool, true, false, not, ◌&&◌, is_some, List, [], ◌∷◌, length, Option, None, Some, Result, Ok, Err, ltb, if◌then◌else◌}
use Rattle.std.specs.List.{list_any}
use Rattle.c_library.specs.Library.{row_of}
use Rattle.c_library.specs.declared.functions.CheckedForm.{CheckedForm}
use Rattle.c_library.specs.declared.functions.LibFn.{LibFn}
use Rattle.c_library.specs.declared.functions.LibFn.TheVariants as fn
use Rattle.c_library.specs.declared.functions.LibType.{LibType}
use Rattle.c_library.specs.declared.functions.LibType.TheVariants as type
use Rattle.fc_base.specs.declared.undefined.UndefKind.{UndefKind}
use Rattle.fc_base.specs.declared.undefined.UndefKind.TheVariants as kind
use Rattle.library_meaning.specs.Scan.{and_then}
use Rattle.library_meaning.specs.Table.{no_limit, nul}
use Rattle.object_meaning.specs.LibraryCalls as calls
use Rattle.object_meaning.specs.LibraryCalls.{number_at, size_for}
use Rattle.object_meaning.specs.Objects.{Object}
use Rattle.object_meaning.specs.OnObjects as on
use Rattle.object_meaning.specs.OnObjects.{ObjectStop, is_missing, pointer_at}
use Rattle.object_meaning.specs.Provenance.{IsPointer}
use Rattle.object_meaning.specs.Touches.{is_dead}
use Rattle.object_meaning.specs.declared.values.PtrValue.{PtrValue}
use Rattle.object_meaning.specs.declared.values.Value.{Value}
use Rattle.object_meaning.specs.declared.values.Value.TheVariants as value
use Rattle.src_lib.specs.Texts.{text_behind}
use Rattle.src_lib.specs.declared.requests.SizeCheck.{SizeCheck}

-- ---- what a call's arguments keep

-- the pointers among them are such
abbrev pub ArePointers : List Object → List Value → Type 0
ArePointers objs args = (i : ℕ) → IsPointer objs (pointer_at args i)

abbrev pub is_number : LibType → Bool
is_number type.Void = false
is_number type.Int = true
is_number type.Long = true
is_number type.Size = true
is_number type.VoidPointer = false
is_number type.CharPointer = false

-- an argument of a type, or one that was never given
abbrev pub fits_type : Bool → Value → Bool
fits_type number (value.Int n) = number
fits_type number (value.Pointer v) = not number
fits_type number value.Uninit = true
fits_type number value.Nothing = true

-- arguments of these types, and others behind a format
abbrev pub all_fit : List LibType → Bool → List Value → Bool
all_fit [] variadic [] = true
all_fit [] variadic (v ∷ vs) = variadic
all_fit (t ∷ ts) variadic [] = false
all_fit (t ∷ ts) variadic (v ∷ vs) = fits_type (is_number t) v && all_fit ts variadic vs

abbrev pub is_typed : LibFn → List Value → Bool
is_typed f args = all_fit (row_of f).parameters (row_of f).variadic args

-- ---- requests

-- strcpy: its source has no NUL in the first bytes that the destination holds
abbrev pub copy_asks : List Object → PtrValue → ℕ → Result Bool UndefKind
copy_asks objs s size = and_then (text_behind objs s nul size) (λ f. Ok (not (is_some f.stop)))

-- how much is read of what is appended: what is left of the destination, and at most n bytes where there is such a number
abbrev pub most_of : Option ℕ → ℕ → ℕ
most_of None left = left
most_of (Some n) left = min n left

-- strcat, and strncat of at most n bytes
abbrev pub append_asks : List Object → PtrValue → PtrValue → Option ℕ → ℕ → Result Bool UndefKind
append_asks objs d s n size =
    and_then (text_behind objs d nul size) (λ f. if is_some f.stop
    then and_then (text_behind objs s nul (most_of n (size - length f.before))) (λ g. Ok (ltb size (length f.before + length g.before + 1)))
    else Ok true)

-- whether the request of a function exceeds the size of its destination. That of `sprintf` is not among these
abbrev pub asked : List Object → LibFn → List Value → ℕ → Result Bool UndefKind
asked objs fn.Memcpy args size = Ok (ltb size (number_at args 2))
asked objs fn.Memmove args size = Ok (ltb size (number_at args 2))
asked objs fn.Mempcpy args size = Ok (ltb size (number_at args 2))
asked objs fn.Memset args size = Ok (ltb size (number_at args 2))
asked objs fn.Bzero args size = Ok (ltb size (number_at args 1))
asked objs fn.ExplicitBzero args size = Ok (ltb size (number_at args 1))
asked objs fn.Strncpy args size = Ok (ltb size (number_at args 2))
asked objs fn.Snprintf args size = Ok (ltb size (number_at args 1))
asked objs fn.Read args size = Ok (ltb size (number_at args 2))
asked objs fn.Strcpy args size = copy_asks objs (pointer_at args 1) size
asked objs fn.Stpcpy args size = copy_asks objs (pointer_at args 1) size
asked objs fn.Strcat args size = append_asks objs (pointer_at args 0) (pointer_at args 1) None size
asked objs fn.Strncat args size = append_asks objs (pointer_at args 0) (pointer_at args 1) (Some (number_at args 2)) size
asked objs _ args size = Ok false

-- the functions whose requests are told here: all but `sprintf`
abbrev pub is_built : LibFn → Bool
is_built fn.Sprintf = false
is_built _ = true

abbrev pub asked_of : List Object → LibFn → List Value → Option CheckedForm → Result SizeCheck UndefKind
asked_of objs f args None = Ok (record { size = no_limit; exceeds = false })
asked_of objs f args (Some form) =
    if is_dead objs (pointer_at args form.destination) then Err kind.DeadObject
    else and_then (asked objs f args (size_for objs args form)) (λ exceeds. Ok (record { size = size_for objs args form; exceeds = exceeds }))

-- a call up to its check
abbrev pub requested : List Object → LibFn → List Value → Result SizeCheck UndefKind
requested objs f args = if list_any is_missing args then Err kind.Uninitialised else asked_of objs f args (row_of f).checked

abbrev pub check_as : Result SizeCheck UndefKind → Result calls.SizeCheck ObjectStop
check_as (Ok check) = Ok (record { size = check.size; exceeds = check.exceeds })
check_as (Err k) = Err (on.Undefined k)
