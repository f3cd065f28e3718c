-- A machine with a stack of pending work (C11 5.1.2.3 without a recursion): what it does next is one equation a kind of node, and one a
-- kind of pending work. Nothing here looks at the steps that are left.
use Rattle.std.specs.Prelude.{ℕ, Bool, ◌&&◌, if◌then◌else◌, List, [], ◌∷◌, ◌++◌, Option, None, Some}
use Rattle.std.specs.Option.{option_map_or}
use Rattle.c_arithmetic.specs.declared.operators.BinaryOperator.{BinaryOperator}
use Rattle.c_arithmetic.specs.declared.operators.BinaryOperator.TheVariants as op
use Rattle.c_arithmetic.specs.declared.operators.UnaryOperator.{UnaryOperator}
use Rattle.c_layout.specs.declared.tags.TagDef.{TagDef}
use Rattle.c_layout.specs.declared.types.CType.{CType}
use Rattle.c_layout.specs.Types.{is_void, is_integer, is_pointer, is_array, is_structure}
use Rattle.c_tree.specs.declared.operators.AssignOp.{AssignOp}
use Rattle.c_tree.specs.declared.operators.BinaryOp.{BinaryOp}
use Rattle.c_tree.specs.declared.operators.BinaryOp.TheVariants.{LogicalOr, LogicalAnd}
use Rattle.c_tree.specs.declared.operators.PostfixOp.{PostfixOp}
use Rattle.c_tree.specs.declared.operators.PostfixOp.TheVariants as postfix
use Rattle.c_tree.specs.declared.operators.PrefixOp.{PrefixOp}
use Rattle.c_tree.specs.declared.operators.PrefixOp.TheVariants as prefix_op
use Rattle.c_tree.specs.declared.typed.Callee.{Callee}
use Rattle.c_tree.specs.declared.typed.Callee.TheVariants.{Function, Library}
use Rattle.c_tree.specs.declared.typed.TypedExpr.{TypedExpr}
use Rattle.c_tree.specs.declared.typed.TypedKind.{TypedKind, out-TypedKind}
use Rattle.c_tree.specs.declared.typed.TypedKind.TheOpen.{TypedKind-F}
use Rattle.c_tree.specs.Constants.{constant_of}
use Rattle.c_tree.specs.Operators.{assign_operator, binary_operator, unary_operator}
use Rattle.fc_base.specs.declared.levels.Mode.{Mode}
use Rattle.fc_base.specs.declared.refusals.Place.{Place}
use Rattle.run_meaning.specs.Events.{Event}
use Rattle.run_meaning.specs.Runs.{Standing}
use Rattle.object_meaning.specs.Provenance.{null}
use Rattle.object_meaning.specs.declared.values.Value.{Value}
use Rattle.object_meaning.specs.declared.values.Value.TheVariants.{Int, Pointer, Nothing}
use Rattle.plain_meaning.specs.Actions.{Action, Outcome, On, Stop, State}
use Rattle.plain_meaning.specs.Expressions.{numbered_mode, data_object, loaded, unknown}
use Rattle.plain_meaning.specs.Library.{library}
use Rattle.plain_meaning.specs.Paths.{has_effects}
use Rattle.plain_meaning.specs.Values.{uses, holds, size_in, Lvalue, no_lvalue, variable, place_in, load}
use Rattle.mean_steps.specs.Operations.{indirected, convert, tested_by, negated, applied, assign_to, uncalled, element_at, member_at, decayed, operate, copy_to, combine_to, old_at, new_at, size_by}

-- ---- what waits

-- What waits for a value or for an lvalue, with what it has and what it still evaluates. `e` is the node that waits
pub data Pending : Type 0 where
  Indirect : (e : TypedExpr) → Pending
  IndexRight : (t : CType) (b e : TypedExpr) → Pending
  IndexAt : (t u : CType) (e : TypedExpr) (x : Value) → Pending
  Select : (t : CType) (arrow : Bool) (member : ℕ) (e : TypedExpr) → Pending
  Convert : (e : TypedExpr) → Pending
  Discard : Pending
  Right : (o : BinaryOperator) (t : CType) (b e : TypedExpr) → Pending
  Operate : (o : BinaryOperator) (t u : CType) (e : TypedExpr) (x : Value) → Pending
  AndRight : (b e : TypedExpr) → Pending
  OrRight : (b e : TypedExpr) → Pending
  Truth : (e : TypedExpr) → Pending
  Choose : (a b e : TypedExpr) → Pending
  Commas : (more : List TypedExpr) → Pending
  AssignTo : (left : Lvalue) (e : TypedExpr) → Pending
  CopyTo : (left : Lvalue) (e : TypedExpr) → Pending
  CombineTo : (o : BinaryOperator) (left : Lvalue) (old : Value) (from : CType) (e : TypedExpr) → Pending
  Apply : (o : UnaryOperator) (e : TypedExpr) → Pending
  Negate : (e : TypedExpr) → Pending
  Arguments : (callee : Callee) (rest : List TypedExpr) (e : TypedExpr) → Pending
  SizeEnd : (mode : Mode) (e : TypedExpr) (catching : Option Place) → Pending
  Load : (e : TypedExpr) → Pending
  Decay : (of : TypedExpr) → Pending
  AssignFrom : (from e : TypedExpr) → Pending
  CopyFrom : (from e : TypedExpr) → Pending
  CombineFrom : (o : BinaryOperator) (from e : TypedExpr) → Pending
  StepOld : (o : BinaryOperator) (e : TypedExpr) → Pending
  StepNew : (o : BinaryOperator) (e : TypedExpr) → Pending
  AddressOf : Pending

-- what is handed to the pending work
pub data Signal : Type 0 where
  Gives : (value : Value) → Signal
  Designates : (lvalue : Lvalue) → Signal

-- What is done next: an expression is evaluated for its value or for what it designates, a signal is handed on, a function of the file is
-- called on the newest row of arguments, or the run is over
pub data Control : Type 0 where
  Eval : (e : TypedExpr) → Control
  Designate : (e : TypedExpr) → Control
  Tell : (signal : Signal) → Control
  Begin : (function : ℕ) (at : Place) → Control
  Over : (events : List Event) (standing : Standing) → Control

-- a row of values for each call that is prepared, the newest first
pub record Rows : Type 0 where
  pub row : List Value
  pub others : List (List Value)

-- the pending work, the newest first; the arguments so far of the calls that are prepared; the size expression whose argument is evaluated
pub record Config : Type 0 where
  pub pending : List Pending
  pub args : Rows
  pub catching : Option Place
  pub state : State

pub record Move : Type 0 where
  pub control : Control
  pub config : Config

-- ---- moves

abbrev pub goes : Control → Config → Move
goes k c = record { control = k; config = c }

abbrev pub tell : Value → Config → Move
tell v c = goes (Tell (Gives v)) c

abbrev pub designate : Lvalue → Config → Move
designate x c = goes (Tell (Designates x)) c

abbrev pub waits : Pending → Config → Config
waits p c = record c { pending = p ∷ c.pending }

abbrev pub eval_then : TypedExpr → Pending → Config → Move
eval_then e p c = goes (Eval e) (waits p c)

abbrev pub place_then : TypedExpr → Pending → Config → Move
place_then e p c = goes (Designate e) (waits p c)

abbrev pub with_state : State → Config → Config
with_state s c = record c { state = s }

-- an action that takes no step is done at once, and its value handed to what goes on
abbrev pub settled : {A : Type 0} → (A → Config → Move) → Config → Outcome A → Move
settled next c (On v s left) = next v (with_state s c)
settled next c (Stop events standing) = goes (Over events standing) c

abbrev pub does : {A : Type 0} → Action A → (A → Config → Move) → Config → Move
does action next c = settled next c (action c.state 0)

-- ---- arguments

abbrev pub begun : Rows → Rows
begun r = record { row = []; others = r.row ∷ r.others }

abbrev pub with_arg : Value → Rows → Rows
with_arg v r = record r { row = r.row ++ v ∷ [] }

abbrev pub newest : List (List Value) → List Value
newest [] = []
newest (row ∷ others) = row

abbrev pub older : List (List Value) → List (List Value)
older [] = []
older (row ∷ others) = others

abbrev pub ended : Rows → Rows
ended r = record { row = newest r.others; others = older r.others }

abbrev pub with_args : Rows → Config → Config
with_args args c = record c { args = args }

-- a call whose arguments are there
abbrev pub call_with : Callee → TypedExpr → Config → Move
call_with (Function n) e c = does (uses e.place c.args.row) (λ done. goes (Begin n e.place)) c
call_with (Library f) e c = does (library e.place f c.args.row) tell (with_args (ended c.args) c)

abbrev pub next_arg : Callee → List TypedExpr → TypedExpr → Config → Move
next_arg callee [] e c = call_with callee e c
next_arg callee (a ∷ rest) e c = eval_then a (Arguments callee rest e) c

-- ---- an expression

-- the outermost size expression counts
abbrev pub outermost : Option Place → Place → Option Place
outermost None at = Some at
outermost (Some other) at = Some other

module _ (tags : List TagDef) where
  abbrev pub cast : TypedExpr → TypedExpr → Config → Move
  cast of e c =
      if is_void e.ctype then eval_then of Discard c
      else if is_array of.ctype then place_then of (Decay of) c
      else if is_pointer e.ctype && is_integer of.ctype then tell (Pointer null) c
      else eval_then of (Convert e) c

  abbrev pub binary : BinaryOp → TypedExpr → TypedExpr → TypedExpr → Config → Move
  binary LogicalAnd a b e c = eval_then a (AndRight b e) c
  binary LogicalOr a b e c = eval_then a (OrRight b e) c
  binary o a b e c = option_map_or (λ by. eval_then a (Right by a.ctype b e) c) (binary_operator o) (tell Nothing c)

  abbrev pub last_of : List TypedExpr → Config → Move
  last_of [] c = tell Nothing c
  last_of (a ∷ []) c = goes (Eval a) c
  last_of (a ∷ b ∷ more) c = eval_then a (Commas (b ∷ more)) c

  abbrev pub assignment : AssignOp → TypedExpr → TypedExpr → TypedExpr → Config → Move
  assignment o to from e c =
      option_map_or (λ by. place_then to (CombineFrom by from e) c) (assign_operator o)
      (if is_structure e.ctype then place_then to (CopyFrom from e) c else place_then to (AssignFrom from e) c)

  abbrev pub prefix_of : PrefixOp → TypedExpr → TypedExpr → Config → Move
  prefix_of prefix_op.Increment of e c = place_then of (StepNew op.Add e) c
  prefix_of prefix_op.Decrement of e c = place_then of (StepNew op.Subtract e) c
  prefix_of prefix_op.Address of e c = place_then of AddressOf c
  prefix_of prefix_op.Indirection of e c = eval_then of (Indirect e) (waits (Load e) c)
  prefix_of prefix_op.Not of e c = eval_then of (Negate e) c
  prefix_of o of e c = option_map_or (λ by. eval_then of (Apply by e) c) (unary_operator o) (tell Nothing c)

  abbrev pub postfix_of : PostfixOp → TypedExpr → TypedExpr → Config → Move
  postfix_of postfix.Increment of e c = place_then of (StepOld op.Add e) c
  postfix_of postfix.Decrement of e c = place_then of (StepOld op.Subtract e) c

  abbrev pub mode_in : TypedExpr → Mode
  mode_in mode = numbered_mode (option_map_or (λ n. n) (constant_of tags mode) 0)

  abbrev pub sized : TypedExpr → Mode → TypedExpr → Config → Move
  sized pointer mode e c =
      if has_effects pointer then does (unknown tags (uncalled tags) mode e) tell c
      else goes (Eval pointer) (record (waits (SizeEnd mode e c.catching) c) { catching = outermost c.catching e.place })

  abbrev pub eval_kind : TypedKind-F TypedKind TypedExpr → TypedExpr → Config → Move
  eval_kind (TypedKind-F.Local n) e c = does (loaded tags (uncalled tags) (variable n) e) tell c
  eval_kind (TypedKind-F.Object n) e c = does (loaded tags (uncalled tags) (data_object tags (uncalled tags) n) e) tell c
  eval_kind (TypedKind-F.Number n) e c = tell (Int n) c
  eval_kind (TypedKind-F.Str text) e c = tell Nothing c
  eval_kind (TypedKind-F.Comma all) e c = last_of all c
  eval_kind (TypedKind-F.Assign o to from) e c = assignment o to from e c
  eval_kind (TypedKind-F.Cond test a b) e c = eval_then test (Choose a b e) c
  eval_kind (TypedKind-F.Binary o a b) e c = binary o a b e c
  eval_kind (TypedKind-F.Cast of added) e c = cast of e c
  eval_kind (TypedKind-F.Prefix o of) e c = prefix_of o of e c
  eval_kind (TypedKind-F.Postfix o of) e c = postfix_of o of e c
  eval_kind (TypedKind-F.SizeofExpr of) e c = tell (Int (size_in tags of.ctype)) c
  eval_kind (TypedKind-F.SizeofType of) e c = tell (Int (size_in tags of)) c
  eval_kind (TypedKind-F.Index a b) e c = eval_then a (IndexRight a.ctype b e) (waits (Load e) c)
  eval_kind (TypedKind-F.Call callee args) e c = next_arg callee args e (with_args (begun c.args) c)
  eval_kind (TypedKind-F.Member base arrow member) e c = eval_then base (Select base.ctype arrow member e) (waits (Load e) c)
  eval_kind (TypedKind-F.SizeCall pointer mode) e c = sized pointer (mode_in mode) e c

  abbrev pub eval : TypedExpr → Config → Move
  eval e c = eval_kind (out-TypedKind e.kind) e c

  abbrev pub place_kind : TypedKind-F TypedKind TypedExpr → TypedExpr → Config → Move
  place_kind (TypedKind-F.Local n) e c = does (variable n) designate c
  place_kind (TypedKind-F.Object n) e c = does (data_object tags (uncalled tags) n) designate c
  place_kind (TypedKind-F.Prefix prefix_op.Indirection of) e c = eval_then of (Indirect e) c
  place_kind (TypedKind-F.Index a b) e c = eval_then a (IndexRight a.ctype b e) c
  place_kind (TypedKind-F.Member base arrow member) e c = eval_then base (Select base.ctype arrow member e) c
  place_kind _ e c = does no_lvalue designate c

  abbrev pub place_of : TypedExpr → Config → Move
  place_of e c = place_kind (out-TypedKind e.kind) e c

  -- ---- pending work

  -- that is handed a value; what waits for an lvalue is let go
  abbrev pub with_value : Pending → Value → Config → Move
  with_value (Indirect e) v c = does (indirected e v) designate c
  with_value (IndexRight t b e) v c = eval_then b (IndexAt t b.ctype e v) c
  with_value (IndexAt t u e x) v c = does (element_at tags t u e x v) designate c
  with_value (Select t arrow member e) v c = does (member_at tags t arrow member e v) designate c
  with_value (Convert e) v c = does (convert e v) tell c
  with_value Discard v c = tell Nothing c
  with_value (Right o t b e) v c = eval_then b (Operate o t b.ctype e v) c
  with_value (Operate o t u e x) v c = does (operate tags o t u e x v) tell c
  with_value (AndRight b e) v c = does (holds e.place v) (λ t c. if t then eval_then b (Truth e) c else tell (Int 0) c) c
  with_value (OrRight b e) v c = does (holds e.place v) (λ t c. if t then tell (Int 1) c else eval_then b (Truth e) c) c
  with_value (Truth e) v c = does (tested_by e v) tell c
  with_value (Choose a b e) v c = does (holds e.place v) (λ t. goes (Eval (if t then a else b))) c
  with_value (Commas more) v c = last_of more c
  with_value (AssignTo left e) v c = does (assign_to left e v) tell c
  with_value (CopyTo left e) v c = does (copy_to tags left e v) tell c
  with_value (CombineTo o left old from e) v c = does (combine_to tags o left old from e v) tell c
  with_value (Apply o e) v c = does (applied o e v) tell c
  with_value (Negate e) v c = does (negated e v) tell c
  with_value (Arguments callee rest e) v c = next_arg callee rest e (with_args (with_arg v c.args) c)
  with_value (SizeEnd mode e catching) v c = does (size_by tags mode e v) tell (record c { catching = catching })
  with_value p v c = tell v c

  -- that is handed an lvalue; what waits for a value is let go
  abbrev pub with_place : Pending → Lvalue → Config → Move
  with_place (Load e) x c = does (load e.place e.ctype x) tell c
  with_place (Decay of) x c = does (decayed tags of x) tell c
  with_place (AssignFrom from e) x c = eval_then from (AssignTo x e) c
  with_place (CopyFrom from e) x c = eval_then from (CopyTo x e) c
  with_place (CombineFrom o from e) x c =
      does (load e.place e.ctype x) (λ old. eval_then from (CombineTo o x old from.ctype e)) c
  with_place (StepOld o e) x c = does (old_at tags o e x) tell c
  with_place (StepNew o e) x c = does (new_at tags o e x) tell c
  with_place AddressOf x c = tell (Pointer (place_in x)) c
  with_place p x c = designate x c

  abbrev pub resume : Pending → Signal → Config → Move
  resume p (Gives v) c = with_value p v c
  resume p (Designates x) c = with_place p x c
