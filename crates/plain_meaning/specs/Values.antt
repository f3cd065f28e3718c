-- Values and lvalues (C11 6.2.6, 6.3 and 6.5): what is used, tested, loaded and stored. The rules of pointers stand in `object_meaning`,
-- the arithmetic of integers in `c_arithmetic`.
--
-- The value of a structure or union is its place: none is loaded as a whole, and where one is assigned its cells are copied.
use Rattle.std.specs.Prelude.{ℕ, ◌==◌, Bool, not, ⊤, List, [], ◌∷◌, Result, Ok, Err, ℤ, pos, ◌*ℤ◌, neg_ℤ}
use Rattle.std.specs.List.{list_any}
use Rattle.std.specs.Option.{option_map_or}
use Rattle.fc_base.specs.declared.levels.End.TheVariants.{Fpe}
use Rattle.fc_base.specs.declared.refusals.Place.{Place}
use Rattle.fc_base.specs.declared.undefined.UndefKind.{UndefKind}
use Rattle.fc_base.specs.declared.undefined.UndefKind.TheVariants as kind
use Rattle.fc_base.specs.Widths.{extended}
use Rattle.c_arithmetic.specs.declared.operators.BadOperation.{BadOperation}
use Rattle.c_arithmetic.specs.declared.operators.BadOperation.TheVariants.{Division, ShiftCount}
use Rattle.c_arithmetic.specs.Arithmetic.{integer}
use Rattle.c_layout.specs.declared.tags.TagDef.{TagDef}
use Rattle.c_layout.specs.declared.types.CType.{CType, out-CType}
use Rattle.c_layout.specs.declared.types.CType.TheOpen.{CType-F}
use Rattle.c_layout.specs.Layouts.{layout}
use Rattle.c_layout.specs.Types.{pointed}
use Rattle.library_meaning.specs.Scan.{and_then}
use Rattle.object_meaning.specs.Comparisons.{is_given}
use Rattle.object_meaning.specs.LibraryCalls.{number_in}
use Rattle.object_meaning.specs.Memory as memory
use Rattle.object_meaning.specs.Objects.{Object}
use Rattle.object_meaning.specs.OnObjects.{as_pointer, is_missing}
use Rattle.object_meaning.specs.Provenance.{home}
use Rattle.object_meaning.specs.Touches.{test}
use Rattle.object_meaning.specs.declared.values.PtrValue.{PtrValue}
use Rattle.object_meaning.specs.declared.values.Value.{Value}
use Rattle.object_meaning.specs.declared.values.Value.TheVariants.{Int, Pointer, Uninit, Nothing}
use Rattle.c_tree.specs.Operators.{int_type}
use Rattle.plain_meaning.specs.Actions.{Action, ◌>>=◌, ◌>>◌, pure, look, ends, undefined, defined, passes, objects, set_objects, Variable, Register, InObject, variable_at, set_variable}

-- ---- values that are used

-- the node at this place uses these values. What a function gives that ended without a value may be discarded, but not used (6.9.1p12)
abbrev pub uses : Place → List Value → Action ⊤
uses at values = passes at (test (list_any is_missing values) kind.Uninitialised ∷ [])

-- whether a value is unequal to 0 (6.5.3.3p5, 6.8.4.1p2)
abbrev pub truth_in : List Object → Value → Result Bool UndefKind
truth_in objs (Int n) = Ok (not (n == 0))
truth_in objs (Pointer v) = is_given objs v
truth_in objs Uninit = Err kind.Uninitialised
truth_in objs Nothing = Err kind.Uninitialised

abbrev pub holds : Place → Value → Action Bool
holds at v = do
  objs ← objects
  defined at (truth_in objs v)

-- a bad division ends the run, and a shift by a bad count is undefined (6.5.5p5, 6.5.7p3)
abbrev pub computed : Place → Result ℕ BadOperation → Action Value
computed at (Ok n) = pure (Int n)
computed at (Err Division) = ends Fpe
computed at (Err ShiftCount) = undefined at kind.ShiftCount

-- ---- sizes

-- the bytes of a type
abbrev pub size_in : List TagDef → CType → ℕ
size_in tags t = option_map_or (λ l. l.size) (layout tags t) 0

-- the number that a value is by its integer type. No accepted tree asks for that of another type
abbrev pub integer_of : CType → ℕ → ℤ
integer_of t n = option_map_or (λ i. integer i.signed n) (int_type t) (pos n)

-- so many elements as bytes, up or down: a number, which doesn't wrap (6.5.6p8)
abbrev pub bytes_up : List TagDef → CType → CType → ℕ → ℤ
bytes_up tags pointer_type index_type n = integer_of index_type n *ℤ pos (size_in tags (pointed pointer_type))

abbrev pub bytes_down : List TagDef → CType → CType → ℕ → ℤ
bytes_down tags pointer_type index_type n = neg_ℤ (bytes_up tags pointer_type index_type n)

-- ---- lvalues (6.3.2.1p1)

-- what an lvalue designates: a register variable by its number, or a place in an object
pub data Lvalue : Type 0 where
  InRegister : (variable : ℕ) → Lvalue
  InMemory : (place : PtrValue) → Lvalue

-- what is no lvalue: no accepted tree asks for it
abbrev pub no_lvalue : Action Lvalue
no_lvalue = pure (InMemory (as_pointer Nothing))

abbrev pub designated : ℕ → Variable → List Object → Lvalue
designated n (Register value) objs = InRegister n
designated n (InObject o) objs = InMemory (home objs o)

-- a variable (6.5.1p2)
abbrev pub variable : ℕ → Action Lvalue
variable n = look (λ s. designated n (variable_at n s) s.store.objects)

-- its place, which a register variable hasn't: no accepted tree asks for it
abbrev pub place_in : Lvalue → PtrValue
place_in (InRegister n) = as_pointer Nothing
place_in (InMemory v) = v

abbrev pub register_in : Variable → Value
register_in (Register value) = value
register_in (InObject o) = Uninit

-- the value behind a place by its type: a number, a pointer of which nothing is known, or the place of a structure
abbrev pub loaded_layer : List Object → PtrValue → CType-F CType → Result Value UndefKind
loaded_layer objs v (CType-F.Int width signed plain_char long_long) =
    and_then (memory.load objs v width) (λ n. Ok (Int (extended n width signed)))
loaded_layer objs v (CType-F.Ptr of) = and_then (memory.load_pointer objs v) (λ p. Ok (Pointer p))
loaded_layer objs v _ = Ok (Pointer v)

-- lvalue conversion (6.3.2.1p2), by the node at this place: an uninitialised variable or cell is a use of it
abbrev pub load : Place → CType → Lvalue → Action Value
load at t (InRegister n) = do
  v ← look (λ s. register_in (variable_at n s))
  uses at (v ∷ [])
  pure v
load at t (InMemory p) = do
  objs ← objects
  defined at (loaded_layer objs p (out-CType t))

-- the objects with a value of this type behind a place; structures have none to store
abbrev pub stored_layer : List Object → PtrValue → Value → CType-F CType → Result (List Object) UndefKind
stored_layer objs v value (CType-F.Int width signed plain_char long_long) = memory.store objs v width (number_in value)
stored_layer objs v value (CType-F.Ptr of) = memory.store_pointer objs v (as_pointer value)
stored_layer objs v value _ = Ok objs

-- a store into what an lvalue designates (6.5.16p3), by the node at this place
abbrev pub store : Place → CType → Lvalue → Value → Action ⊤
store at t (InRegister n) value = set_variable n (Register value)
store at t (InMemory p) value = do
  objs ← objects
  new ← defined at (stored_layer objs p value (out-CType t))
  set_objects new

-- the cells of a structure or union go from one place to another (6.5.16.1p2), by the node at this place
abbrev pub copy : List TagDef → Place → CType → PtrValue → PtrValue → Action ⊤
copy tags at t to from = do
  objs ← objects
  new ← defined at (memory.copy objs to from (size_in tags t))
  set_objects new

-- ---- pointers that come from others

-- a pointer moved by so many bytes (6.5.6p8)
abbrev pub moved : Place → PtrValue → ℤ → Action Value
moved at v bytes = do
  objs ← objects
  p ← defined at (memory.move_by objs v bytes)
  pure (Pointer p)
