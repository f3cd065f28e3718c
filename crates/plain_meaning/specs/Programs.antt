-- The plain meaning of a source (C11 5.1.2.2 and 6.9): what it does on arguments and input, in at most so many steps. The objects with
-- static storage and the program's arguments are there from the start.
use Rattle.std.specs.Prelude.{ℕ, ◌+◌, ◌*◌, ◌%◌, Bool, true, List, [], ◌∷◌, ◌++◌, length, map, replicate, slice_get, Option, None, Some, pos, codes}
use Rattle.bm_heap.specs.Heaps.{whole_heap}
use Rattle.fc_base.specs.declared.levels.End.TheVariants.{Exit}
use Rattle.fc_base.specs.declared.refusals.Place.{Place}
use Rattle.c_layout.specs.declared.types.CType.{CType}
use Rattle.c_tree.specs.declared.programs.DataDef.{DataDef}
use Rattle.c_tree.specs.declared.programs.FnDef.{FnDef}
use Rattle.c_tree.specs.declared.programs.Link.{Link}
use Rattle.c_tree.specs.declared.programs.TypedTree.{TypedTree}
use Rattle.library_meaning.specs.Memory.{put}
use Rattle.run_meaning.specs.Events.{Event}
use Rattle.run_meaning.specs.Runs.{Standing, Ended}
use Rattle.run_meaning.specs.Worlds.{Input}
use Rattle.object_meaning.specs.Cells.{cells_of}
use Rattle.object_meaning.specs.LibraryCalls.{number_in}
use Rattle.object_meaning.specs.Objects.{Object}
use Rattle.object_meaning.specs.Provenance.{place}
use Rattle.object_meaning.specs.declared.values.Cell.{Cell}
use Rattle.object_meaning.specs.declared.values.Cell.TheVariants.{Byte}
use Rattle.object_meaning.specs.declared.values.PtrValue.TheVariants.{At}
use Rattle.object_meaning.specs.declared.values.Tag.TheVariants.{Known, Unknown}
use Rattle.object_meaning.specs.declared.values.Value.{Value}
use Rattle.object_meaning.specs.declared.values.Value.TheVariants.{Int, Pointer, Nothing}
use Rattle.plain_meaning.specs.Actions.{Action, ◌>>◌, pure, Outcome, On, Stop, State}
use Rattle.plain_meaning.specs.Functions.{body_of, call_of, deepest, enter_frame}

-- ---- objects with static storage (6.2.4p3, 6.7.9p10)

abbrev pub object_of : Bool → List Cell → Object
object_of writable cells = record { size = length cells; alive = true; writable = writable; cells = cells }

-- an address constant, as what it points to is stored: all of it is known
abbrev pub linked : List Link → List Cell → List Cell
linked [] cells = cells
linked (l ∷ ls) cells = put l.at (cells_of (At (place l.target (pos l.offset) (pos l.end) Known))) (linked ls cells)

abbrev pub data_object : DataDef → Object
data_object d = object_of d.writable (linked d.links (map Byte d.bytes))

-- ---- the program's arguments (5.1.2.2.1p2)

-- the words, the program's name first
abbrev pub words : List (List ℕ) → List (List ℕ)
words args = codes "prog" ∷ args

abbrev pub string_object : List ℕ → Object
string_object word = object_of true (map Byte (word ++ 0 ∷ []))

-- the pointers to the strings, whose objects have the numbers from `first` on, and a null pointer
abbrev pub string_pointers : ℕ → List (List ℕ) → List Cell
string_pointers first [] = replicate 8 (Byte 0)
string_pointers first (word ∷ more) =
    cells_of (At (place first (pos 0) (pos (length word + 1)) Unknown)) ++ string_pointers (first + 1) more

abbrev pub argument_objects : ℕ → List (List ℕ) → List Object
argument_objects first all = map string_object all ++ object_of true (string_pointers first all) ∷ []

-- argc and argv
abbrev pub main_values : ℕ → List (List ℕ) → List Value
main_values first all =
    Int (length all) ∷ Pointer (At (place (first + length all) (pos 0) (pos (8 * (length all + 1))) Unknown)) ∷ []

-- where main has parameters
abbrev pub objects_for : List CType → ℕ → List (List ℕ) → List Object
objects_for [] first args = []
objects_for (t ∷ ts) first args = argument_objects first (words args)

abbrev pub values_for : List CType → ℕ → List (List ℕ) → List Value
values_for [] first args = []
values_for (t ∷ ts) first args = main_values first (words args)

-- ---- a run

abbrev pub start : List DataDef → List CType → List (List ℕ) → Input → State
start data_defs params args input = record {
  variables = [];
  store = record {
    objects = map data_object data_defs ++ objects_for params (length data_defs) args;
    heap = whole_heap;
    blocks = [];
  };
  input = input;
  events = [];
  frames = 0;
  weights = 0;
}

-- main is called by no one, and takes no step (5.1.2.2)
abbrev pub nowhere : Place
nowhere = record { line = 1; col = 1 }

abbrev pub entry : TypedTree → List (List ℕ) → Option FnDef → Action Value
entry tree args None = pure Nothing
entry tree args (Some f) = do
  enter_frame f
  body_of tree (call_of tree (deepest tree)) tree.main f nowhere (values_for f.params (length tree.objects) args)

-- a return from main is a call of `exit` (5.1.2.2.3)
abbrev pub answer_of : Outcome Value → List Event × Standing
answer_of (On v s left) = (s.events, Ended (Exit (number_in v % 256)))
answer_of (Stop events standing) = (events, standing)

abbrev pub params_of : Option FnDef → List CType
params_of None = []
params_of (Some f) = f.params

-- The events of a source on these arguments and this input, and how it stands where at most so many steps may be taken
abbrev pub plain : TypedTree → List (List ℕ) → Input → ℕ → List Event × Standing
plain tree args input n =
    let f = slice_get tree.functions tree.main in
    answer_of (entry tree args f (start tree.objects (params_of f) args input) n)
