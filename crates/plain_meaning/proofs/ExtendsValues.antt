-- Values and lvalues that are used, loaded and stored, and calls of the library: none looks at the steps that are left.
use Rattle.std.proofs.Common.{ℕ, List, [], ◌∷◌, Bool, Option, Some, None}
use Rattle.std.specs.Prelude.{Result, Ok, Err, ℤ}
use Rattle.c_arithmetic.specs.declared.operators.BadOperation.{BadOperation}
use Rattle.c_arithmetic.specs.declared.operators.BadOperation.TheVariants.{Division, ShiftCount}
use Rattle.c_layout.specs.declared.tags.TagDef.{TagDef}
use Rattle.c_layout.specs.declared.types.CType.{CType}
use Rattle.c_library.specs.declared.functions.CheckedForm.{CheckedForm}
use Rattle.c_library.specs.declared.functions.LibFn.{LibFn}
use Rattle.fc_base.specs.declared.levels.Mode.{Mode}
use Rattle.fc_base.specs.declared.refusals.Place.{Place}
use Rattle.object_meaning.specs.Allocations.{CallEnd, Gave, Ends, Undefined}
use Rattle.object_meaning.specs.LibraryCalls.{acts}
use Rattle.object_meaning.specs.OnObjects as on
use Rattle.object_meaning.specs.OnObjects.{ObjectStop}
use Rattle.object_meaning.specs.declared.values.PtrValue.{PtrValue}
use Rattle.object_meaning.specs.declared.values.Value.{Value}
use Rattle.plain_meaning.specs.Actions.{objects}
use Rattle.plain_meaning.specs.Library.{asked, world, moved_by, ended, act, judged, checked, library}
use Rattle.plain_meaning.specs.Values.{uses, holds, computed, variable, Lvalue, InRegister, InMemory, load, store, copy, moved}
use Rattle.plain_meaning.proofs.Extends.{Extends, extends_bind, extends_then, extends_pure, extends_look, extends_stop, extends_change, extends_note, extends_set_objects, extends_set_variable, extends_defined, extends_passes, extends_argument, front_self, front_of}

pub extends_objects : {low high : ℕ} → Extends low high objects objects
extends_objects = extends_look _

pub ruleset single = (extends_bind, extends_then, extends_pure, extends_look, extends_stop, extends_objects, extends_note, extends_set_objects, extends_set_variable, extends_defined, extends_passes)

-- ---- values

pub extends_uses : {low high : ℕ} (at : Place) (values : List Value) → Extends low high (uses at values) (uses at values)
extends_uses at values = search single

pub extends_holds : {low high : ℕ} (at : Place) (v : Value) → Extends low high (holds at v) (holds at v)
extends_holds at v = search single

pub extends_computed : {low high : ℕ} (at : Place) (result : Result ℕ BadOperation)
    → Extends low high (computed at result) (computed at result)
extends_computed at (Ok n) = search single
extends_computed at (Err Division) = search single
extends_computed at (Err ShiftCount) = search single

pub extends_variable : {low high : ℕ} (n : ℕ) → Extends low high (variable n) (variable n)
extends_variable n = extends_look _

pub extends_load : {low high : ℕ} (at : Place) (t : CType) (x : Lvalue) → Extends low high (load at t x) (load at t x)
extends_load at t (InRegister n) =
    extends_bind _ _ _ _ (extends_look _) (λ v. extends_then _ _ _ _ (extends_uses at (v ∷ [])) (extends_pure v))
extends_load at t (InMemory p) = search single

pub extends_store : {low high : ℕ} (at : Place) (t : CType) (x : Lvalue) (v : Value) → Extends low high (store at t x v) (store at t x v)
extends_store at t (InRegister n) v = search single
extends_store at t (InMemory p) v = search single

pub extends_copy : {low high : ℕ} (tags : List TagDef) (at : Place) (t : CType) (to from : PtrValue)
    → Extends low high (copy tags at t to from) (copy tags at t to from)
extends_copy tags at t to from = search single

pub extends_moved : {low high : ℕ} (at : Place) (v : PtrValue) (bytes : ℤ) → Extends low high (moved at v bytes) (moved at v bytes)
extends_moved at v bytes = search single

-- ---- calls of the library

pub extends_asked : {low high : ℕ} (at : Place) (mode : Mode) (written : Bool) (v : PtrValue)
    → Extends low high (asked at mode written v) (asked at mode written v)
extends_asked at mode written v = search single

extends_ended : {low high : ℕ} (at : Place) (end : CallEnd) → Extends low high (ended at end) (ended at end)
extends_ended at (Gave v new after) = extends_then _ _ _ _ (extends_change _ (λ s. front_of s.events (moved_by after.shown))) (extends_pure v)
extends_ended at (Ends end) = search single
extends_ended at (Undefined kind) = search single

extends_act : {low high : ℕ} (at : Place) (f : LibFn) (args : List Value) (exceeds : Bool)
    → Extends low high (act at f args exceeds) (act at f args exceeds)
extends_act at f args exceeds =
    extends_bind world world _ _ (extends_look _) (λ w. extends_bind _ _ _ _ (extends_look (λ s. s.store)) (λ s. extends_ended at (acts exceeds f args s w)))

extends_judged : {low high : ℕ} {A : Type 0} (at : Place) (result : Result A ObjectStop)
    → Extends low high (judged at result) (judged at result)
extends_judged at (Ok a) = search single
extends_judged at (Err on.Overflow) = search single
extends_judged at (Err on.BadFormat) = search single
extends_judged at (Err (on.Undefined kind)) = search single

extends_checked : {low high : ℕ} (at : Place) (f : LibFn) (args : List Value) (form : Option CheckedForm)
    → Extends low high (checked at f args form) (checked at f args form)
extends_checked at f args None = search single
extends_checked at f args (Some form) = search (single, extends_asked, extends_judged) depth 12

pub extends_library : {low high : ℕ} (at : Place) (f : LibFn) (args : List Value) → Extends low high (library at f args) (library at f args)
extends_library at f args = search (single, extends_checked, extends_act)
