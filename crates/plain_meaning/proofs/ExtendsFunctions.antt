-- Calls whose depth, and whose steps left, are no fewer: the second run of a source extends the first. So how deep calls may go says
-- nothing, where they may go as deep as there are steps left.
use Rattle.std.proofs.Common.{ℕ, zero, suc, ◌≡◌, ◌+◌, ◌-◌, ◌≤◌, List, [], ◌∷◌, Option, Some, None, arith}
use Rattle.std.specs.Prelude.{slice_get}
use Rattle.c_layout.specs.declared.types.CType.{CType}
use Rattle.c_tree.specs.declared.programs.FnDef.{FnDef}
use Rattle.c_tree.specs.declared.programs.TypedTree.{TypedTree}
use Rattle.fc_base.specs.declared.levels.End.TheVariants.{StackFull}
use Rattle.fc_base.specs.Outside.{IsFront}
use Rattle.fc_base.specs.declared.refusals.Place.{Place}
use Rattle.run_meaning.specs.Runs.{Ended, Going}
use Rattle.object_meaning.specs.OnObjects.{operand, is_missing}
use Rattle.object_meaning.specs.declared.values.Value.{Value}
use Rattle.plain_meaning.specs.Actions.{Variable, State}
use Rattle.plain_meaning.specs.Expressions.{Calls}
use Rattle.plain_meaning.specs.Functions.{is_full, with_frame, enter_frame, leave_frame, set_variables, stored_in, parameters, with_parameters, body_of, result_of, outer, called, nested, deepest, calls, call_of}
use Rattle.plain_meaning.specs.Programs.{entry}
use Rattle.plain_meaning.specs.Values.{variable}
use Rattle.plain_meaning.proofs.Extends.{Extends, extends_bind, extends_then, extends_pure, extends_look, extends_stop, extends_change, extends_step, extends_below, extends_none, extends_same, events_of, front_self}
use Rattle.plain_meaning.proofs.ExtendsNodes.{operations, extends_if}
use Rattle.plain_meaning.proofs.ExtendsStatements.{extends_begin_all, extends_end_all, extends_stmt}
use Rattle.plain_meaning.proofs.ExtendsValues.{extends_variable, extends_store}

-- every call of the second is that of the first, and goes on where a step was wanted
abbrev pub ExtendCalls : ℕ → ℕ → Calls → Calls → Type 0
ExtendCalls low high c d = (n : ℕ) (at : Place) (vs : List Value) → Extends low high (c n at vs) (d n at vs)

module _ {low high : ℕ} where
  pub extends_enter : (f : FnDef) → Extends low high (enter_frame f) (enter_frame f)
  extends_enter f =
      extends_then _ _ _ _ (extends_change (with_frame f) (λ s. front_self s.events)) (extends_bind _ _ _ _ (extends_look is_full) (λ full.
      extends_if full _ _ _ _ (extends_stop (Ended StackFull)) (extends_pure tt)))

  extends_leave : (f : FnDef) → Extends low high (leave_frame f) (leave_frame f)
  extends_leave f = extends_change _ (λ s. front_self s.events)

  extends_set_variables : (variables : List Variable) → Extends low high (set_variables variables) (set_variables variables)
  extends_set_variables variables = extends_change _ (λ s. front_self s.events)

module _ {low high : ℕ} (tree : TypedTree) where
  extends_stored : (f : FnDef) (at : Place) (n : ℕ) (vs : List Value) (ts : List CType)
      → Extends low high (stored_in tree f at n vs ts) (stored_in tree f at n vs ts)
  extends_stored f at n vs [] = extends_pure tt
  extends_stored f at n vs (t ∷ ts) =
      extends_bind (variable n) (variable n) _ _ (extends_variable n) (λ x.
      extends_then _ _ _ _ (extends_store at t x (operand vs n)) (extends_stored f at (n + 1) vs ts))

  extends_parameters : (f : FnDef) (at : Place) (vs : List Value)
      → Extends low high (with_parameters tree f at vs) (with_parameters tree f at vs)
  extends_parameters f at vs =
      extends_then _ _ _ _ (extends_set_variables _)
      (extends_then _ _ _ _ (extends_begin_all tree.tags f.locals (parameters tree f)) (extends_stored f at 0 vs f.params))

  pub extends_body : (c d : Calls) → ExtendCalls low high c d → (n : ℕ) (f : FnDef) (at : Place) (vs : List Value)
      → Extends low high (body_of tree c n f at vs) (body_of tree d n f at vs)
  extends_body c d calls n f at vs =
      extends_bind _ _ _ _ (extends_look (λ s. s.variables)) (λ callers.
      extends_then _ _ _ _ (extends_parameters f at vs)
      (extends_bind _ _ _ _ (extends_stmt tree.tags f.locals c d calls f.body) (λ flow.
      extends_then _ _ _ _ (extends_end_all tree.tags f.locals (parameters tree f))
      (extends_then _ _ _ _ (extends_set_variables callers) (extends_pure _)))))

  extends_result : (sizes : Option (ℕ × Option ℕ)) (at : Place) (vs : List Value) (v : Value)
      → Extends low high (result_of tree sizes at vs v) (result_of tree sizes at vs v)
  extends_result None at vs v = extends_pure _
  extends_result (Some sizes) at vs v = extends_if (is_missing v) _ _ _ _ (extends_pure v) (search operations)

module _ (tree : TypedTree) where
  extends_outer : {low high : ℕ} (next other : Calls) → ExtendCalls (low - 1) (high - 1) next other → (f : FnDef)
      → ExtendCalls low high (outer tree next f) (outer tree other f)
  extends_outer next other calls f n at vs =
      extends_step _ _
      (extends_then _ _ _ _ (extends_enter f)
      (extends_bind _ _ _ _ (extends_body tree next other calls n f at _) (λ v.
      extends_then _ _ _ _ (extends_leave f) (extends_result tree f.alloc_size at vs v))))

  extends_called : {low high : ℕ} (inner other_inner next other : Calls) → ExtendCalls low high inner other_inner
      → ExtendCalls (low - 1) (high - 1) next other → (n : ℕ) (f : Option FnDef) (at : Place) (vs : List Value)
      → Extends low high (called tree inner next n f at vs) (called tree other_inner other n f at vs)
  extends_called inner other_inner next other inners nexts n None at vs = extends_pure _
  extends_called inner other_inner next other inners nexts n (Some f) at vs =
      extends_if f.inlined _ _ _ _ (extends_body tree inner other_inner inners n f at vs) (extends_outer next other nexts f n at vs)

  extends_nested : {low high : ℕ} (next other : Calls) → ExtendCalls (low - 1) (high - 1) next other → (rank : ℕ)
      → ExtendCalls low high (nested tree next rank) (nested tree other rank)
  extends_nested next other nexts zero n at vs = extends_stop Going
  extends_nested next other nexts (suc rank) n at vs =
      extends_called (nested tree next rank) (nested tree other rank) next other (extends_nested next other nexts rank) nexts n
      (slice_get tree.functions n) at vs

  below_calls : {low high near far : ℕ} (c d : Calls) → near ≤ low → far ≤ high → ExtendCalls low high c d → ExtendCalls near far c d
  below_calls c d l h calls n at vs = extends_below _ _ l h (calls n at vs)

  -- as deep only adds events
  same_calls : (d : ℕ) → ExtendCalls 0 0 (calls tree d) (calls tree d)
  same_calls zero n at vs = extends_stop Going
  same_calls (suc d) n at vs =
      extends_nested (calls tree d) (calls tree d) (below_calls _ _ (omega arith) (omega arith) (same_calls d)) (deepest tree) n at vs

  -- as deep as the bounds
  extends_calls : (d e : ℕ) → ExtendCalls d e (calls tree d) (calls tree e)
  extends_calls zero e n at vs = extends_none _ _ (λ i j under over. omega (arith, under)) (same_calls e n at vs).grows
  extends_calls (suc d) zero n at vs = extends_none _ _ (λ i j under over. omega (arith, over)) (same_calls zero n at vs).grows
  extends_calls (suc d) (suc e) n at vs =
      extends_nested (calls tree d) (calls tree e) (below_calls _ _ (omega arith) (omega arith) (extends_calls d e)) (deepest tree) n at vs

  grows_call_of : (rank n : ℕ) (at : Place) (vs : List Value) (s : State) (m : ℕ)
      → IsFront s.events (events_of (call_of tree rank n at vs s m))
  grows_call_of rank n at vs s m =
      (extends_nested {low = 0} {high = 0} (calls tree m) (calls tree m) (below_calls _ _ (omega arith) (omega arith) (same_calls m))
      rank n at vs).grows s m

  -- nested calls of any depth above the bounds are those of the steps that are left
  nested_calls : {low high : ℕ} (d : ℕ) → low ≤ suc d → (rank : ℕ)
      → ExtendCalls low high (nested tree (calls tree d) rank) (call_of tree rank)
  nested_calls {low} {high} d deep rank f at vs = record {
    later = λ s n m le l h.
        (extends_nested {low = suc d} {high = suc m} (calls tree d) (calls tree m)
        (below_calls _ _ (omega arith) (omega arith) (extends_calls d m)) rank f at vs).later
        s n m le (omega (arith, l, deep)) (omega arith);
    grows = grows_call_of rank f at vs;
  }

  pub extends_call_of : {low high : ℕ} (rank : ℕ) → ExtendCalls low high (call_of tree rank) (call_of tree rank)
  extends_call_of rank f at vs = record {
    later = λ s n m le l h.
        (nested_calls {low = suc n} {high = suc m} n (omega arith) rank f at vs).later s n m le (omega arith) (omega arith);
    grows = grows_call_of rank f at vs;
  }

  -- an inline call is one of the next rank, any other takes a step and is of the highest
  pub call_steps : (rank n : ℕ) (at : Place) (vs : List Value)
      → call_of tree (suc rank) n at vs ≡ called tree (call_of tree rank) (call_of tree (deepest tree)) n (slice_get tree.functions n) at vs
  call_steps rank n at vs i s l =
      extends_same {low = suc l} {high = suc l} _ _ s l (omega arith) (omega arith)
      (extends_called (nested tree (calls tree l) rank) (call_of tree rank) (calls tree l) (call_of tree (deepest tree))
      (nested_calls l (omega arith) rank) (deeper l) n (slice_get tree.functions n) at vs) i
    where
      deeper : (l : ℕ) → ExtendCalls (suc l - 1) (suc l - 1) (calls tree l) (call_of tree (deepest tree))
      deeper zero n at vs = extends_none _ _ (λ i j under over. omega (arith, under)) (grows_call_of (deepest tree) n at vs)
      deeper (suc l) n at vs = nested_calls l (omega arith) (deepest tree) n at vs

  pub extends_entry : {low high : ℕ} (args : List (List ℕ)) (f : Option FnDef) → Extends low high (entry tree args f) (entry tree args f)
  extends_entry args None = extends_pure _
  extends_entry args (Some f) =
      extends_then _ _ _ _ (extends_enter f)
      (extends_body tree (call_of tree (deepest tree)) (call_of tree (deepest tree)) (extends_call_of (deepest tree)) tree.main f _ _)
