-- Operations: none looks at the steps that are left, or takes one.
use Rattle.std.proofs.Common.{◌≡◌, ℕ, List, [], ◌∷◌, Bool, true, false, Option, Some, None, refl, ap, ◌∙◌}
use Rattle.std.specs.Prelude.{Result, Ok, Err, ℤ, if◌then◌else◌}
use Rattle.c_arithmetic.specs.declared.operators.BadOperation.{BadOperation}
use Rattle.c_arithmetic.specs.declared.operators.BadOperation.TheVariants.{Division, ShiftCount}
use Rattle.c_arithmetic.specs.declared.operators.BinaryOperator.{BinaryOperator}
use Rattle.c_arithmetic.specs.declared.operators.BinaryOperator.TheVariants as op
use Rattle.c_arithmetic.specs.declared.operators.UnaryOperator.{UnaryOperator}
use Rattle.c_layout.specs.declared.tags.TagDef.{TagDef}
use Rattle.c_layout.specs.declared.types.CType.{CType}
use Rattle.c_library.specs.declared.functions.CheckedForm.{CheckedForm}
use Rattle.c_library.specs.declared.functions.LibFn.{LibFn}
use Rattle.c_tree.specs.declared.typed.TypedExpr.{TypedExpr}
use Rattle.fc_base.specs.declared.levels.Mode.{Mode}
use Rattle.fc_base.specs.declared.refusals.Place.{Place}
use Rattle.fc_base.specs.declared.undefined.UndefKind.{UndefKind}
use Rattle.run_meaning.specs.Events.{Event}
use Rattle.run_meaning.specs.Runs.{Standing, Undefined}
use Rattle.object_meaning.specs.Allocations.{CallEnd, Gave, Ends}
use Rattle.object_meaning.specs.Allocations as allocations
use Rattle.object_meaning.specs.LibraryCalls.{acts}
use Rattle.object_meaning.specs.Objects.{Object}
use Rattle.object_meaning.specs.OnObjects as on
use Rattle.object_meaning.specs.OnObjects.{ObjectStop}
use Rattle.object_meaning.specs.Touches.{Test, tested}
use Rattle.object_meaning.specs.declared.values.PtrValue.{PtrValue}
use Rattle.object_meaning.specs.declared.values.Value.{Value}
use Rattle.plain_meaning.specs.Actions.{State, Outcome, On, Stop, bind, Action, ◌>>=◌, ◌>>◌, pure, look, change, stop, defined, passes, note, objects, set_objects, Variable, set_variable}
use Rattle.plain_meaning.specs.Expressions.{element_of, data_object, loaded, on_pointer, operated, combined, unknown}
use Rattle.plain_meaning.specs.Library.{asked, world, ended, act, judged, checked, library}
use Rattle.plain_meaning.specs.Values.{uses, holds, computed, variable, Lvalue, InRegister, InMemory, load, store, copy, moved}
use Rattle.mean_steps.specs.Operations.{uncalled, indirected, convert, tested_by, negated, applied, assign_to, element_at, member_at, decayed, operate, copy_to, combine_to, step_at, old_at, new_at, size_by}

module _ {A : Type 0} where
  abbrev pub at_left : ℕ → Outcome A → Outcome A
  at_left l (On v s k) = On v s l
  at_left l (Stop events standing) = Stop events standing

pub record IsSteady {A : Type 0} (a : Action A) : Type 0 where
  pub at_any : (s : State) (l k : ℕ) → a s l ≡ at_left l (a s k)

module _ {A : Type 0} where
  pub steady_pure : (v : A) → IsSteady (pure v)
  steady_pure v = record { at_any = λ s l k. refl }

  pub steady_look : (what : State → A) → IsSteady (look what)
  steady_look what = record { at_any = λ s l k. refl }

  pub steady_stop : (standing : Standing) → IsSteady {A = A} (stop standing)
  steady_stop standing = record { at_any = λ s l k. refl }

  pub steady_defined : (at : Place) (result : Result A UndefKind) → IsSteady (defined at result)
  steady_defined at (Ok a) = steady_pure a
  steady_defined at (Err kind) = steady_stop (Undefined kind at)

  pub steady_if : (t : Bool) (a b : Action A) → IsSteady a → IsSteady b → IsSteady (if t then a else b)
  steady_if true a b h g = h
  steady_if false a b h g = g

pub steady_change : (what : State → State) → IsSteady (change what)
steady_change what = record { at_any = λ s l k. refl }

module _ {A B : Type 0} where
  bind_left : (l k : ℕ) (o : Outcome A) (f : A → Action B) → ((v : A) → IsSteady (f v)) → bind (at_left l o) f ≡ at_left l (bind o f)
  bind_left l k (On v s j) f h = (h v).at_any s l j
  bind_left l k (Stop events standing) f h = refl

  pub steady_bind : (a : Action A) (f : A → Action B) → IsSteady a → ((v : A) → IsSteady (f v)) → IsSteady (a >>= f)
  steady_bind a f h g = record { at_any = λ s l k. ap (λ o. bind o f) (h.at_any s l k) ∙ bind_left l k (a s k) f g }

  pub steady_then : (a : Action A) (b : Action B) → IsSteady a → IsSteady b → IsSteady (a >> b)
  steady_then a b h g = steady_bind a (λ v. b) h (λ v. g)

pub steady_objects : IsSteady objects
steady_objects = steady_look _

pub steady_passes : (at : Place) (tests : List Test) → IsSteady (passes at tests)
steady_passes at tests = steady_defined at (tested tests (Ok tt))

pub steady_note : (event : Event) → IsSteady (note event)
steady_note event = steady_change _

pub steady_set_objects : (objs : List Object) → IsSteady (set_objects objs)
steady_set_objects objs = steady_change _

pub steady_set_variable : (n : ℕ) (variable : Variable) → IsSteady (set_variable n variable)
steady_set_variable n variable = steady_change _

pub ruleset single = (
  steady_bind,
  steady_then,
  steady_pure,
  steady_look,
  steady_stop,
  steady_objects,
  steady_note,
  steady_set_objects,
  steady_set_variable,
  steady_defined,
  steady_passes,
  steady_if,
)

-- ---- values

pub steady_uses : (at : Place) (values : List Value) → IsSteady (uses at values)
steady_uses at values = search single

pub steady_holds : (at : Place) (v : Value) → IsSteady (holds at v)
steady_holds at v = search single

pub steady_computed : (at : Place) (result : Result ℕ BadOperation) → IsSteady (computed at result)
steady_computed at (Ok n) = search single
steady_computed at (Err Division) = search single
steady_computed at (Err ShiftCount) = search single

pub steady_variable : (n : ℕ) → IsSteady (variable n)
steady_variable n = steady_look _

pub steady_load : (at : Place) (t : CType) (x : Lvalue) → IsSteady (load at t x)
steady_load at t (InRegister n) = steady_bind _ _ (steady_look _) (λ v. steady_then _ _ (steady_uses at (v ∷ [])) (steady_pure v))
steady_load at t (InMemory p) = search single

pub steady_store : (at : Place) (t : CType) (x : Lvalue) (v : Value) → IsSteady (store at t x v)
steady_store at t (InRegister n) v = search single
steady_store at t (InMemory p) v = search single

pub steady_copy : (tags : List TagDef) (at : Place) (t : CType) (to from : PtrValue) → IsSteady (copy tags at t to from)
steady_copy tags at t to from = search single

pub steady_moved : (at : Place) (v : PtrValue) (bytes : ℤ) → IsSteady (moved at v bytes)
steady_moved at v bytes = search single

-- ---- calls of the library

pub steady_asked : (at : Place) (mode : Mode) (written : Bool) (v : PtrValue) → IsSteady (asked at mode written v)
steady_asked at mode written v = search single

steady_ended : (at : Place) (end : CallEnd) → IsSteady (ended at end)
steady_ended at (Gave v new after) = steady_then _ _ (steady_change _) (steady_pure v)
steady_ended at (Ends end) = search single
steady_ended at (allocations.Undefined kind) = search single

steady_act : (at : Place) (f : LibFn) (args : List Value) (exceeds : Bool) → IsSteady (act at f args exceeds)
steady_act at f args exceeds =
    steady_bind world _ (steady_look _) (λ w. steady_bind _ _ (steady_look (λ s. s.store)) (λ s. steady_ended at (acts exceeds f args s w)))

steady_judged : {A : Type 0} (at : Place) (result : Result A ObjectStop) → IsSteady (judged at result)
steady_judged at (Ok a) = search single
steady_judged at (Err on.Overflow) = search single
steady_judged at (Err on.BadFormat) = search single
steady_judged at (Err (on.Undefined kind)) = search single

steady_checked : (at : Place) (f : LibFn) (args : List Value) (form : Option CheckedForm) → IsSteady (checked at f args form)
steady_checked at f args None = search single
steady_checked at f args (Some form) = search (single, steady_asked, steady_judged) depth 12

pub steady_library : (at : Place) (f : LibFn) (args : List Value) → IsSteady (library at f args)
steady_library at f args = search (single, steady_checked, steady_act)

-- ---- what nodes do

pub ruleset operations = (
  single,
  steady_uses,
  steady_holds,
  steady_computed,
  steady_load,
  steady_store,
  steady_copy,
  steady_moved,
  steady_asked,
)

pub steady_indirected : (e : TypedExpr) (v : Value) → IsSteady (indirected e v)
steady_indirected e v = search operations

pub steady_convert : (e : TypedExpr) (v : Value) → IsSteady (convert e v)
steady_convert e v = search operations

pub steady_tested_by : (e : TypedExpr) (v : Value) → IsSteady (tested_by e v)
steady_tested_by e v = search operations

pub steady_negated : (e : TypedExpr) (v : Value) → IsSteady (negated e v)
steady_negated e v = search operations

pub steady_applied : (o : UnaryOperator) (e : TypedExpr) (v : Value) → IsSteady (applied o e v)
steady_applied o e v = search operations

pub steady_assign_to : (left : Lvalue) (e : TypedExpr) (v : Value) → IsSteady (assign_to left e v)
steady_assign_to left e v = search operations

module _ (tags : List TagDef) where
  steady_element_of : (t u : CType) (e : TypedExpr) (x y : Value) → IsSteady (element_of tags (uncalled tags) t u e x y)
  steady_element_of t u e x y = search operations

  pub steady_element_at : (t u : CType) (e : TypedExpr) (x y : Value) → IsSteady (element_at tags t u e x y)
  steady_element_at t u e x y = search (operations, steady_element_of) depth 12

  pub steady_member_at : (t : CType) (arrow : Bool) (member : ℕ) (e : TypedExpr) (v : Value) → IsSteady (member_at tags t arrow member e v)
  steady_member_at t arrow member e v = search operations depth 12

  pub steady_decayed : (of : TypedExpr) (x : Lvalue) → IsSteady (decayed tags of x)
  steady_decayed of x = search operations depth 12

  pub steady_data_object : (n : ℕ) → IsSteady (data_object tags (uncalled tags) n)
  steady_data_object n = search operations

  pub steady_loaded : (x : Action Lvalue) (e : TypedExpr) → IsSteady x → IsSteady (loaded tags (uncalled tags) x e)
  steady_loaded x e h = search operations

  steady_on_pointer : (o : BinaryOperator) (t u : CType) (e : TypedExpr) (x y : Value)
      → IsSteady (on_pointer tags (uncalled tags) o t u e x y)
  steady_on_pointer op.Subtract t u e x y = search operations
  steady_on_pointer _ t u e x y = search operations

  steady_operated : (a b : Bool) (o : BinaryOperator) (t u : CType) (e : TypedExpr) (x y : Value)
      → IsSteady (operated tags (uncalled tags) a b o t u e x y)
  steady_operated false false o t u e x y = search operations
  steady_operated true false o t u e x y = steady_on_pointer o t u e x y
  steady_operated false true o t u e x y = steady_on_pointer o u t e y x
  steady_operated true true o t u e x y = search operations

  pub steady_operate : (o : BinaryOperator) (t u : CType) (e : TypedExpr) (x y : Value) → IsSteady (operate tags o t u e x y)
  steady_operate o t u e x y = search (operations, steady_operated)

  pub steady_copy_to : (left : Lvalue) (e : TypedExpr) (v : Value) → IsSteady (copy_to tags left e v)
  steady_copy_to left e v = search operations

  steady_combined : (o : BinaryOperator) (t u : CType) (e : TypedExpr) (x y : Value) → IsSteady (combined tags (uncalled tags) o t u e x y)
  steady_combined o t u e x y = search (operations, steady_on_pointer) depth 12

  pub steady_combine_to : (o : BinaryOperator) (left : Lvalue) (old : Value) (from : CType) (e : TypedExpr) (v : Value)
      → IsSteady (combine_to tags o left old from e v)
  steady_combine_to o left old from e v = search (operations, steady_combined) depth 14

  steady_step_at : (o : BinaryOperator) (e : TypedExpr) (x : Lvalue) → IsSteady (step_at tags o e x)
  steady_step_at o e x = search (operations, steady_combined) depth 14

  pub steady_old_at : (o : BinaryOperator) (e : TypedExpr) (x : Lvalue) → IsSteady (old_at tags o e x)
  steady_old_at o e x = steady_bind _ _ (steady_step_at o e x) (λ v. steady_pure v.0)

  pub steady_new_at : (o : BinaryOperator) (e : TypedExpr) (x : Lvalue) → IsSteady (new_at tags o e x)
  steady_new_at o e x = steady_bind _ _ (steady_step_at o e x) (λ v. steady_pure v.1)

  pub steady_unknown : (mode : Mode) (e : TypedExpr) → IsSteady (unknown tags (uncalled tags) mode e)
  steady_unknown mode e = search operations

  pub steady_size_by : (mode : Mode) (e : TypedExpr) (v : Value) → IsSteady (size_by tags mode e v)
  steady_size_by mode e v = search operations depth 14
