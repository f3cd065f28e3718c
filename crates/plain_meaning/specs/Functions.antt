-- Calls of the file's functions (C11 6.5.2.2, 6.8.6.4 and 6.9.1), and how deep they go: inline calls take no step, and each other call takes
-- one of those that are left. The stack's limits are this project's own.
use Rattle.std.specs.Prelude.{ℕ, zero, suc, ◌+◌, ◌-◌, ◌*◌, ◌==◌, Bool, true, false, ◌||◌, ⊤, if◌then◌else◌, nat_lt, List, [], ◌∷◌, length, map, replicate, slice_get, Option, None, Some}
use Rattle.std.specs.List.{range_with_len}
use Rattle.fc_base.specs.declared.levels.End.TheVariants.{StackFull}
use Rattle.fc_base.specs.declared.refusals.Place.{Place}
use Rattle.c_layout.specs.declared.types.CType.{CType}
use Rattle.c_tree.specs.declared.programs.FnDef.{FnDef}
use Rattle.c_tree.specs.declared.programs.TypedTree.{TypedTree}
use Rattle.c_tree.specs.Weights.{weight}
use Rattle.run_meaning.specs.Runs.{Going}
use Rattle.object_meaning.specs.LibraryCalls.{number_at}
use Rattle.object_meaning.specs.Memory.{attribute_result}
use Rattle.object_meaning.specs.OnObjects.{operand, as_pointer, is_missing, forgotten}
use Rattle.object_meaning.specs.declared.values.Value.{Value}
use Rattle.object_meaning.specs.declared.values.Value.TheVariants.{Int, Pointer, Uninit, Nothing}
use Rattle.plain_meaning.specs.Actions.{Action, ◌>>=◌, ◌>>◌, pure, look, change, ends, stop, defined, objects, step, Variable, Register, State}
use Rattle.plain_meaning.specs.Expressions.{Calls}
use Rattle.plain_meaning.specs.Statements.{Flow, Returned, begin_all, end_all, run_of}
use Rattle.plain_meaning.specs.Values.{variable, store}

-- ---- the stack

-- how many bytes the frames of the live calls may have, and what they may weigh
abbrev pub stack_frames : ℕ
stack_frames = 4194304

abbrev pub stack_weights : ℕ
stack_weights = 16777216

abbrev pub is_full : State → Bool
is_full s = nat_lt stack_frames s.frames || nat_lt stack_weights s.weights

-- a call more that is live, and one less
abbrev pub with_frame : FnDef → State → State
with_frame f s = record s { frames = s.frames + f.counts.frame; weights = s.weights + weight f.counts }

abbrev pub without_frame : FnDef → State → State
without_frame f s = record s { frames = s.frames - f.counts.frame; weights = s.weights - weight f.counts }

abbrev pub enter_frame : FnDef → Action ⊤
enter_frame f = do
  change (with_frame f)
  full ← look is_full
  if full then ends StackFull else pure tt

abbrev pub leave_frame : FnDef → Action ⊤
leave_frame f = change (without_frame f)

-- ---- a body (6.9.1p10 to p12)

-- what a function gives, by how its body was left. Falling off main gives 0 (5.1.2.2.3), off any other nothing
abbrev pub given : Bool → Flow → Value
given is_main (Returned v) = v
given true _ = Int 0
given false _ = Nothing

abbrev pub set_variables : List Variable → Action ⊤
set_variables variables = change (λ s. record s { variables = variables })

module _ (tree : TypedTree) where
  abbrev pub is_main : ℕ → Bool
  is_main n = n == tree.main

  -- the parameters are the first variables, and begin with the arguments' values (6.9.1p10)
  abbrev pub stored_in : FnDef → Place → ℕ → List Value → List CType → Action ⊤
  stored_in f at n vs [] = pure tt
  stored_in f at n vs (t ∷ ts) = do
    x ← variable n
    store at t x (operand vs n)
    stored_in f at (n + 1) vs ts

  abbrev pub parameters : FnDef → List ℕ
  parameters f = range_with_len 0 (length f.params)

  abbrev pub with_parameters : FnDef → Place → List Value → Action ⊤
  with_parameters f at vs = do
    set_variables (replicate (length f.locals) (Register Uninit))
    begin_all tree.tags f.locals (parameters f)
    stored_in f at 0 vs f.params

  -- the body of a function on its arguments, where it calls so
  abbrev pub body_of : Calls → ℕ → FnDef → Place → List Value → Action Value
  body_of call n f at vs = do
    callers ← look (λ s. s.variables)
    with_parameters f at vs
    flow ← run_of tree.tags f.locals call f.body
    end_all tree.tags f.locals (parameters f)
    set_variables callers
    pure (given (is_main n) flow)

  -- ---- calls that aren't inline

  -- the bytes that the attribute `alloc_size` names: one argument, or the product of two, as unsigned long (GCC manual, "Common Function
  -- Attributes")
  abbrev pub second_size : List Value → Option ℕ → ℕ
  second_size vs None = 1
  second_size vs (Some j) = number_at vs (j - 1)

  abbrev pub claimed : List Value → ℕ × Option ℕ → ℕ
  claimed vs sizes = number_at vs (sizes.0 - 1) * second_size vs sizes.1

  abbrev pub attributed : Place → ℕ → Value → Action Value
  attributed at size v = do
    objs ← objects
    p ← defined at (attribute_result objs size (as_pointer v))
    pure (Pointer p)

  -- nothing is known of a result but what the attribute says; one that is missing is handed on
  abbrev pub result_of : Option (ℕ × Option ℕ) → Place → List Value → Value → Action Value
  result_of None at vs v = pure (forgotten v)
  result_of (Some sizes) at vs v = if is_missing v then pure v else attributed at (claimed vs sizes) v

  -- A step, the test of the stack, and the body. Nothing is known of the pointers that are passed and given
  abbrev pub outer : Calls → FnDef → Calls
  outer next f n at vs = do
    step
    enter_frame f
    v ← body_of next n f at (map forgotten vs)
    leave_frame f
    result_of f.alloc_size at vs v

  -- ---- calls

  -- a call, where inline calls go on as `inner` and the others as `next`. No accepted tree calls a function that isn't there
  abbrev pub called : Calls → Calls → ℕ → Option FnDef → Place → List Value → Action Value
  called inner next n None at vs = pure Nothing
  called inner next n (Some f) at vs = if f.inlined then body_of inner n f at vs else outer next f n at vs

  -- inline calls nest less than so deep
  abbrev pub nested : Calls → ℕ → Calls
  nested next zero n at vs = stop Going
  nested next (suc rank) n at vs = called (nested next rank) next n (slice_get tree.functions n) at vs

  -- they form no cycle, so they nest no deeper
  abbrev pub deepest : ℕ
  deepest = suc (length tree.functions)

  -- calls nest less than d deep, inline ones left away
  abbrev pub calls : ℕ → Calls
  calls zero n at vs = stop Going
  calls (suc d) n at vs = nested (calls d) deepest n at vs

  -- a call below so many inline ones: as many others may nest in it as there are steps left
  abbrev pub call_of : ℕ → Calls
  call_of rank n at vs s left = nested (calls left) rank n at vs s left
