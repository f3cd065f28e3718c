-- The law: a call on bytes follows the call on objects, whatever its row. What is undefined on objects is left open on bytes.
use Rattle.std.specs.Prelude.{◌≡◌, ℕ, Bool, List, get_or, Result, Ok, Err, ⊤}
use Rattle.run_meaning.specs.Worlds.{AreBytes, World}
use Rattle.library_meaning.specs.OnBytes.{on_bytes, number_of}
use Rattle.library_meaning.specs.Properties.{OfEachRow, IsForgotten}
use Rattle.library_meaning.specs.Rows.{Row, Answer, Given, Behind, run, request}
use Rattle.library_meaning.specs.declared.stops.HostStop.{HostStop}
use Rattle.library_meaning.specs.declared.stops.HostStop.TheVariants as host
use Rattle.object_meaning.specs.Memory.{SameObjects}
use Rattle.object_meaning.specs.Objects.{Object, is_live}
use Rattle.object_meaning.specs.OnObjects.{ObjectStop, Overflow, BadFormat, Undefined, operand, on_objects, forgotten, value_of}
use Rattle.object_meaning.specs.declared.values.PtrValue.{PtrValue}
use Rattle.object_meaning.specs.declared.values.Value.{Value}
use Rattle.object_meaning.specs.declared.values.Value.TheVariants.{Pointer}
use Rattle.objects_on_bytes.specs.Relation.{ValueIs, Memories}
use Rattle.objects_on_bytes.specs.Rows.{IsBytewise}

-- the numbers of a call's operands are what their values say
abbrev pub ValuesAre : (ℕ → ℕ) → (ℕ → Bool) → List Value → List ℕ → Type 0
ValuesAre at alive args numbers = (i : ℕ) → ValueIs at alive (operand args i) (get_or numbers i 0)

-- both calls have ended well: memory corresponds at the same addresses, with the same objects live; they have moved the same, and the
-- number that is given is what the value that is given says
pub record EndedAlike (at : ℕ → ℕ) (args : List Value) (numbers : List ℕ) (objs : List Object) (a : Answer (List Object)) (b : Answer (List ℕ)) : Type 0 where
  pub memories : Memories at a.memory b.memory
  pub same : SameObjects objs a.memory
  pub world : b.world ≡ a.world
  pub result : ValueIs at (is_live a.memory) (value_of args a.given) (number_of numbers b.given)

-- bytes do what objects do, up to what is undefined
abbrev pub Leads : {X Y : Type 0} → (X → Y → Type 0) → Result X ObjectStop → Result Y HostStop → Type 0
Leads {X} {Y} P (Ok x) r = (y : Y) × (r ≡ Ok y) × P x y
Leads P (Err Overflow) r = r ≡ Err host.Overflow
Leads P (Err BadFormat) r = r ≡ Err host.BadFormat
Leads P (Err (Undefined k)) r = ⊤

-- a call on bytes does what the call on objects does, and asks for what that asks for, where memories and operands correspond
pub record RowFollows (row : Row) : Type 0 where
  pub runs : (at : ℕ → ℕ) (objs : List Object) (m : List ℕ) (args : List Value) (numbers : List ℕ) (w : World)
      → Memories at objs m → ValuesAre at (is_live objs) args numbers → AreBytes w.input.bytes
      → Leads (EndedAlike at args numbers objs) (run (on_objects args) row objs w) (run (on_bytes numbers) row m w)
  pub asks : (at : ℕ → ℕ) (objs : List Object) (m : List ℕ) (args : List Value) (numbers : List ℕ) (w : World)
      → Memories at objs m → ValuesAre at (is_live objs) args numbers → AreBytes w.input.bytes
      → Leads (λ exceeds too. too ≡ exceeds) (request (on_objects args) row objs w) (request (on_bytes numbers) row m w)

pub record CallsFollow : Type 0 where
  -- for every row that stores bytes where it reads bytes, and so for each row of the library
  pub each : (row : Row) → IsBytewise row → RowFollows row
  pub library : OfEachRow RowFollows
  -- a pointer that is given as it is keeps its claim and what is known of it, and of others nothing is known
  pub same : (args : List Value) (i : ℕ) (v : PtrValue) → operand args i ≡ Pointer v → value_of args (Behind i 0) ≡ Pointer v
  pub forgot : (args : List Value) (given : Given) → IsForgotten given → forgotten (value_of args given) ≡ value_of args given
