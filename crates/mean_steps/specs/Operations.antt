-- What a node does once its operands are there: one operation, which takes no step and looks at no call.
use Rattle.std.specs.Prelude.{ℕ, Bool, true, not, if◌then◌else◌, List, [], ◌∷◌}
use Rattle.c_arithmetic.specs.declared.operators.BinaryOperator.{BinaryOperator}
use Rattle.c_arithmetic.specs.declared.operators.UnaryOperator.{UnaryOperator}
use Rattle.c_arithmetic.specs.Arithmetic.{unary, truth}
use Rattle.c_layout.specs.declared.tags.TagDef.{TagDef}
use Rattle.c_layout.specs.declared.types.CType.{CType}
use Rattle.c_layout.specs.Layouts.{layout}
use Rattle.c_layout.specs.Types.{is_pointer, pointed}
use Rattle.c_tree.specs.declared.typed.TypedExpr.{TypedExpr}
use Rattle.c_tree.specs.Conversions.{number_type}
use Rattle.c_tree.specs.Paths.{is_trailing}
use Rattle.fc_base.specs.declared.levels.Mode.{Mode}
use Rattle.fc_base.specs.declared.undefined.UndefKind.TheVariants as kind
use Rattle.object_meaning.specs.LibraryCalls.{number_in}
use Rattle.object_meaning.specs.OnObjects.{as_pointer}
use Rattle.object_meaning.specs.Touches.{test, is_dead}
use Rattle.object_meaning.specs.declared.values.Value.{Value}
use Rattle.object_meaning.specs.declared.values.Value.TheVariants.{Int, Pointer, Nothing}
use Rattle.plain_meaning.specs.Actions.{Action, ◌>>=◌, ◌>>◌, pure, defined, passes, objects}
use Rattle.plain_meaning.specs.Expressions.{Calls, converted_to, array_place, element_of, member_place, member_offset, declared_size, operated, combined, one_type}
use Rattle.plain_meaning.specs.Library.{asked}
use Rattle.plain_meaning.specs.Paths.{is_named}
use Rattle.plain_meaning.specs.Values.{uses, holds, Lvalue, InMemory, place_in, load, store, copy}

-- `*e` of a value
abbrev pub indirected : TypedExpr → Value → Action Lvalue
indirected e v = do
  uses e.place (v ∷ [])
  pure (InMemory (as_pointer v))

abbrev pub convert : TypedExpr → Value → Action Value
convert e v = do
  uses e.place (v ∷ [])
  pure (converted_to e.ctype v)

-- 1 or 0, by whether a value is unequal to 0, and by whether it isn't
abbrev pub tested_by : TypedExpr → Value → Action Value
tested_by e v = do
  t ← holds e.place v
  pure (Int (truth t))

abbrev pub negated : TypedExpr → Value → Action Value
negated e v = do
  t ← holds e.place v
  pure (Int (truth (not t)))

abbrev pub applied : UnaryOperator → TypedExpr → Value → Action Value
applied o e v = do
  uses e.place (v ∷ [])
  pure (Int (unary o (number_type e.ctype) (number_in v)))

-- a value that is assigned
abbrev pub assign_to : Lvalue → TypedExpr → Value → Action Value
assign_to left e v = do
  uses e.place (v ∷ [])
  store e.place e.ctype left v
  pure v

module _ (tags : List TagDef) where
  -- no operation looks at calls
  abbrev pub uncalled : Calls
  uncalled n at vs = pure Nothing

  -- `a[i]` of two values, whose types are these
  abbrev pub element_at : CType → CType → TypedExpr → Value → Value → Action Lvalue
  element_at t u e x y = do
    uses e.place (x ∷ y ∷ [])
    v ← element_of tags uncalled t u e x y
    pure (InMemory (as_pointer v))

  -- a member of what a value of this type is the place of, or points to
  abbrev pub member_at : CType → Bool → ℕ → TypedExpr → Value → Action Lvalue
  member_at t arrow member e v = do
    uses e.place (v ∷ [])
    objs ← objects
    let whole = if arrow then pointed t else t
    p ← defined e.place
        (member_place (is_trailing tags e) (is_named e) (member_offset tags uncalled whole member) (declared_size tags uncalled e.ctype)
        objs (as_pointer v))
    pure (InMemory p)

  -- an array that stands there, as a pointer
  abbrev pub decayed : TypedExpr → Lvalue → Action Value
  decayed of x = do
    objs ← objects
    p ← defined of.place (array_place (is_trailing tags of) (is_named of) (layout tags of.ctype) objs (place_in x))
    pure (Pointer p)

  abbrev pub operate : BinaryOperator → CType → CType → TypedExpr → Value → Value → Action Value
  operate o t u e x y = do
    uses e.place (x ∷ y ∷ [])
    operated tags uncalled (is_pointer t) (is_pointer u) o t u e x y

  abbrev pub copy_to : Lvalue → TypedExpr → Value → Action Value
  copy_to left e v = do
    copy tags e.place e.ctype (place_in left) (as_pointer v)
    pure (Pointer (place_in left))

  -- a compound assignment whose left side's old value is known
  abbrev pub combine_to : BinaryOperator → Lvalue → Value → CType → TypedExpr → Value → Action Value
  combine_to o left old from e v = do
    uses e.place (v ∷ [])
    new ← combined tags uncalled o e.ctype from e old v
    store e.place e.ctype left new
    pure new

  -- `++` and `--`: the old value and the new one
  abbrev pub step_at : BinaryOperator → TypedExpr → Lvalue → Action (Value × Value)
  step_at o e left = do
    old ← load e.place e.ctype left
    new ← combined tags uncalled o e.ctype (one_type tags uncalled e.ctype) e old (Int 1)
    store e.place e.ctype left new
    pure (old, new)

  abbrev pub old_at : BinaryOperator → TypedExpr → Lvalue → Action Value
  old_at o e left = do
    both_values ← step_at o e left
    pure both_values.0

  abbrev pub new_at : BinaryOperator → TypedExpr → Lvalue → Action Value
  new_at o e left = do
    both_values ← step_at o e left
    pure both_values.1

  -- the size of what an argument was evaluated to
  abbrev pub size_by : Mode → TypedExpr → Value → Action Value
  size_by mode e v = do
    uses e.place (v ∷ [])
    objs ← objects
    passes e.place (test (is_dead objs (as_pointer v)) kind.DeadObject ∷ [])
    n ← asked e.place mode true (as_pointer v)
    pure (Int n)
