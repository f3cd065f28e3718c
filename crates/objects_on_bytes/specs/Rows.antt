-- What rows are made of, and laws of rows over both memories.
use Rattle.std.specs.Prelude.{◌≡◌, ℕ, true, List, Result, Ok, Err, IfOk, ⊤}
use Rattle.run_meaning.specs.Worlds.{AreBytes, World}
use Rattle.library_meaning.specs.OnBytes.{quiet, on_bytes}
use Rattle.library_meaning.specs.Properties.{ChecksOnce}
use Rattle.library_meaning.specs.Rows.{Row, Gives, Malformed, Check, Ask, Text, Bytes, Both, Point, Touch, Apart, Store, Show, Take, Stored, These, Cells, Side, Answer, answer, run, request}
use Rattle.library_meaning.specs.Scan.{Found, Pair}
use Rattle.object_meaning.specs.Objects.{Object}
use Rattle.object_meaning.specs.OnObjects.{on_objects}
use Rattle.object_meaning.specs.declared.values.Value.{Value}

abbrev pub StoresBytes : Stored → Type 0
StoresBytes (These bytes) = AreBytes bytes
StoresBytes (Cells from) = ⊤

-- a row that stores bytes where it reads bytes
abbrev pub IsBytewise : Row → Type 0
IsBytewise (Gives given) = ⊤
IsBytewise Malformed = ⊤
IsBytewise (Check exceeds next) = IsBytewise next
IsBytewise (Ask i next) = (n : ℕ) → IsBytewise (next n)
IsBytewise (Text stops from next) = (f : Found) → AreBytes f.before → IsBytewise (next f)
IsBytewise (Bytes from next) = (bytes : List ℕ) → AreBytes bytes → IsBytewise (next bytes)
IsBytewise (Both a b next) = (p : Pair) → IsBytewise (next p)
IsBytewise (Point pointers touched next) = IsBytewise next
IsBytewise (Touch all next) = IsBytewise next
IsBytewise (Apart strict to from next) = IsBytewise next
IsBytewise (Store i k what next) = StoresBytes what × IsBytewise next
IsBytewise (Show descriptor bytes next) = IsBytewise next
IsBytewise (Take n next) = (bytes : List ℕ) → AreBytes bytes → IsBytewise (next bytes)

-- a row that shows nothing and takes nothing
abbrev pub IsSilent : Row → Type 0
IsSilent (Gives given) = ⊤
IsSilent Malformed = ⊤
IsSilent (Check exceeds next) = IsSilent next
IsSilent (Ask i next) = (n : ℕ) → IsSilent (next n)
IsSilent (Text stops from next) = (f : Found) → IsSilent (next f)
IsSilent (Bytes from next) = (bytes : List ℕ) → IsSilent (next bytes)
IsSilent (Both a b next) = (p : Pair) → IsSilent (next p)
IsSilent (Point pointers touched next) = IsSilent next
IsSilent (Touch all next) = IsSilent next
IsSilent (Apart strict to from next) = IsSilent next
IsSilent (Store i k what next) = IsSilent next
IsSilent (Show descriptor bytes next) = ⊥
IsSilent (Take n next) = ⊥

abbrev pub in_world : {M E : Type 0} → World → Result (Answer M) E → Result (Answer M) E
in_world w (Ok a) = Ok (answer a.memory w a.given)
in_world w (Err e) = Err e

-- a call whose request exceeds ends with the overflow
abbrev pub Exceeds : {M E : Type 0} → Side M E → Row → M → World → Type 0
Exceeds side row m w = IfOk (request side row m w) (λ exceeds. exceeds ≡ true → run side row m w ≡ Err side.overflow)

-- a call whose request is undefined or malformed ends so itself
abbrev pub StopsAsAsked : {M E : Type 0} → Side M E → Row → M → World → Type 0
StopsAsAsked {M} {E} side row m w = (e : E) → request side row m w ≡ Err e → run side row m w ≡ Err e

-- and only a call whose request exceeds ends with the overflow
abbrev pub OnlyExceeding : {M E : Type 0} → Side M E → Row → M → World → Type 0
OnlyExceeding side row m w = ChecksOnce row → run side row m w ≡ Err side.overflow → request side row m w ≡ Ok true

-- a silent call leaves the world alone, and does not look at it
abbrev pub LeavesWorld : {M E : Type 0} → Side M E → Row → M → World → Type 0
LeavesWorld side row m w = IsSilent row → run side row m w ≡ in_world w (run side row m quiet)

pub record RowLaws {M E : Type 0} (side : Side M E) (row : Row) (m : M) (w : World) : Type 0 where
  pub exceeds : Exceeds side row m w
  pub only : OnlyExceeding side row m w
  pub stops : StopsAsAsked side row m w
  pub silent : LeavesWorld side row m w

pub record RowsLaw : Type 0 where
  pub on_objects : (args : List Value) (row : Row) (objs : List Object) (w : World) → RowLaws (on_objects args) row objs w
  pub on_bytes : (args : List ℕ) (row : Row) (m : List ℕ) (w : World) → RowLaws (on_bytes args) row m w
