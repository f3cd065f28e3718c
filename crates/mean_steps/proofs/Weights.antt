-- Each move of the machine has less work behind it.
use Rattle.std.proofs.Common.{◌≡◌, ℕ, ◌+◌, ◌<◌, ◌≤◌, List, [], ◌∷◌, Bool, true, false, Option, Some, None, sym, ◌∙◌, subst, arith}
use Rattle.std.specs.Prelude.{if◌then◌else◌, ◌&&◌}
use Rattle.std.specs.Option.{option_map_or}
use Rattle.c_arithmetic.specs.declared.operators.BinaryOperator.{BinaryOperator}
use Rattle.c_arithmetic.specs.declared.operators.UnaryOperator.{UnaryOperator}
use Rattle.c_layout.specs.declared.tags.TagDef.{TagDef}
use Rattle.c_layout.specs.Types.{is_void, is_integer, is_pointer, is_array, is_structure}
use Rattle.c_tree.specs.declared.operators.AssignOp.{AssignOp}
use Rattle.c_tree.specs.declared.operators.BinaryOp.{BinaryOp}
use Rattle.c_tree.specs.declared.operators.BinaryOp.TheVariants as binary_op
use Rattle.c_tree.specs.declared.operators.PostfixOp.{PostfixOp}
use Rattle.c_tree.specs.declared.operators.PostfixOp.TheVariants as postfix
use Rattle.c_tree.specs.declared.operators.PrefixOp.{PrefixOp}
use Rattle.c_tree.specs.declared.operators.PrefixOp.TheVariants as prefix_op
use Rattle.c_tree.specs.declared.typed.Callee.{Callee}
use Rattle.c_tree.specs.declared.typed.Callee.TheVariants.{Function, Library}
use Rattle.c_tree.specs.declared.typed.TypedExpr.{TypedExpr}
use Rattle.c_tree.specs.declared.typed.TypedKind.{TypedKind, out-TypedKind, fold-TypedKind}
use Rattle.c_tree.specs.declared.typed.TypedKind.TheFolds.{map-TypedKind, fold_out-TypedKind, fold_out-TypedExpr}
use Rattle.c_tree.specs.declared.typed.TypedKind.TheOpen.{TypedKind-F}
use Rattle.c_tree.specs.Operators.{assign_operator, binary_operator, unary_operator}
use Rattle.fc_base.specs.declared.levels.Mode.{Mode}
use Rattle.object_meaning.specs.declared.values.Value.{Value}
use Rattle.object_meaning.specs.declared.values.Value.TheVariants.{Int, Nothing}
use Rattle.plain_meaning.specs.Actions.{State, Outcome, On, Stop, Action}
use Rattle.plain_meaning.specs.Expressions.{data_object, loaded, unknown}
use Rattle.plain_meaning.specs.Library.{library}
use Rattle.plain_meaning.specs.Paths.{has_effects}
use Rattle.plain_meaning.specs.Values.{uses, holds, Lvalue, no_lvalue, variable, load}
use Rattle.mean_steps.specs.Machine as machine
use Rattle.mean_steps.specs.Machine.{Pending, Indirect, IndexRight, IndexAt, Select, Convert, Discard, Right, Operate, AndRight, OrRight, Truth, Choose, Commas, AssignTo, CopyTo, CombineTo, Apply, Negate, Arguments, SizeEnd, Load, Decay, AssignFrom, CopyFrom, CombineFrom, StepOld, StepNew, AddressOf, Signal, Gives, Designates, Eval, Designate, begun, with_arg, with_args, with_state, Config, Move, goes, tell, settled, does, call_with, next_arg, eval_kind, place_kind, eval, place_of, with_value, with_place, resume, last_of, mode_in}
use Rattle.mean_steps.specs.Operations.{uncalled, indirected, convert, tested_by, negated, applied, assign_to, element_at, member_at, decayed, operate, copy_to, combine_to, old_at, new_at, size_by}
use Rattle.mean_steps.specs.Weights.{kind_weight, expr_weight, tree_weight, trees_weight, stack_weight, move_weight}

-- a tree weighs what its kind does
abbrev weighed : TypedKind-F TypedKind TypedExpr → ℕ
weighed k = kind_weight (map-TypedKind TypedKind TypedExpr ℕ ℕ (fold-TypedKind ℕ ℕ kind_weight expr_weight) tree_weight k)

weight_is : (e : TypedExpr) → tree_weight e ≡ weighed (out-TypedKind e.kind)
weight_is e = fold_out-TypedExpr ℕ ℕ kind_weight expr_weight e ∙ fold_out-TypedKind ℕ ℕ kind_weight expr_weight e.kind

module _ {A : Type 0} (next : A → Config → Move) (c : Config) (n : ℕ) where
  settled_less : (o : Outcome A) → stack_weight c.pending < n → ((v : A) (s : State) → move_weight (next v (with_state s c)) < n)
      → move_weight (settled next c o) < n
  settled_less (On v s l) h g = g v s
  settled_less (Stop events standing) h g = omega (arith, h)

  does_less : (a : Action A) → stack_weight c.pending < n → ((v : A) (s : State) → move_weight (next v (with_state s c)) < n)
      → move_weight (does a next c) < n
  does_less a h g = settled_less (a c.state 0) h g

if_less : (t : Bool) (x y : Move) (n : ℕ) → move_weight x < n → move_weight y < n → move_weight (if t then x else y) < n
if_less true x y n h g = h
if_less false x y n h g = g

-- an action that ends in a value or an lvalue at once
gives_less : (a : Action Value) (c : Config) (n : ℕ) → stack_weight c.pending < n → move_weight (does a tell c) < n
gives_less a c n h = does_less tell c n a h (λ v s. omega (arith, h))

finds_less : (a : Action Lvalue) (c : Config) (n : ℕ) → stack_weight c.pending < n → move_weight (does a machine.designate c) < n
finds_less a c n h = does_less machine.designate c n a h (λ v s. omega (arith, h))

call_less : (callee : Callee) (e : TypedExpr) (c : Config) → move_weight (call_with callee e c) < 1 + stack_weight c.pending
call_less (Function n) e c =
    does_less (λ done. goes (machine.Begin n e.place)) c _ (uses e.place c.args.row) (omega arith) (λ v s. omega arith)
call_less (Library f) e c = gives_less (library e.place f c.args.row) (with_args (machine.ended c.args) c) _ (omega arith)

next_less : (callee : Callee) (es : List TypedExpr) (e : TypedExpr) (c : Config)
    → move_weight (next_arg callee es e c) < trees_weight es + 1 + stack_weight c.pending
next_less callee [] e c = call_less callee e c
next_less callee (a ∷ rest) e c = omega arith

module _ (tags : List TagDef) where
  last_less : (es : List TypedExpr) (c : Config) → move_weight (last_of tags es c) < trees_weight es + 1 + stack_weight c.pending
  last_less [] c = omega arith
  last_less (e ∷ []) c = omega arith
  last_less (e ∷ f ∷ more) c = omega arith

  cast_less : (of e : TypedExpr) (c : Config) → move_weight (machine.cast tags of e c) < tree_weight of + 2 + stack_weight c.pending
  cast_less of e c =
      if_less (is_void e.ctype) _ _ _ (omega arith) (if_less (is_array of.ctype) _ _ _ (omega arith)
      (if_less (is_pointer e.ctype && is_integer of.ctype) _ _ _ (omega arith) (omega arith)))

  binary_less : (o : BinaryOp) (a b e : TypedExpr) (c : Config)
      → move_weight (machine.binary tags o a b e c) < tree_weight a + tree_weight b + 3 + stack_weight c.pending
  binary_less binary_op.LogicalAnd a b e c = omega arith
  binary_less binary_op.LogicalOr a b e c = omega arith
  binary_less o a b e c = by (binary_operator o)
    where
      by : (o : Option BinaryOperator) → move_weight (option_map_or (λ by. machine.eval_then a (Right by a.ctype b e) c) o (tell Nothing c))
          < tree_weight a + tree_weight b + 3 + stack_weight c.pending
      by None = omega arith
      by (Some o) = omega arith

  assignment_less : (o : AssignOp) (to from e : TypedExpr) (c : Config)
      → move_weight (machine.assignment tags o to from e c) < tree_weight to + tree_weight from + 3 + stack_weight c.pending
  assignment_less o to from e c = by (assign_operator o)
    where
      by : (o : Option BinaryOperator)
          → move_weight (option_map_or (λ by. machine.place_then to (CombineFrom by from e) c) o
          (if is_structure e.ctype then machine.place_then to (CopyFrom from e) c else machine.place_then to (AssignFrom from e) c))
          < tree_weight to + tree_weight from + 3 + stack_weight c.pending
      by None = if_less (is_structure e.ctype) _ _ _ (omega arith) (omega arith)
      by (Some o) = omega arith

  prefix_less : (o : PrefixOp) (of e : TypedExpr) (c : Config)
      → move_weight (machine.prefix_of tags o of e c) < tree_weight of + 3 + stack_weight c.pending
  prefix_less prefix_op.Increment of e c = omega arith
  prefix_less prefix_op.Decrement of e c = omega arith
  prefix_less prefix_op.Address of e c = omega arith
  prefix_less prefix_op.Indirection of e c = omega arith
  prefix_less prefix_op.Not of e c = omega arith
  prefix_less o of e c = by (unary_operator o)
    where
      by : (o : Option UnaryOperator) → move_weight (option_map_or (λ by. machine.eval_then of (Apply by e) c) o (tell Nothing c))
          < tree_weight of + 3 + stack_weight c.pending
      by None = omega arith
      by (Some o) = omega arith

  postfix_less : (o : PostfixOp) (of e : TypedExpr) (c : Config)
      → move_weight (machine.postfix_of tags o of e c) < tree_weight of + 2 + stack_weight c.pending
  postfix_less postfix.Increment of e c = omega arith
  postfix_less postfix.Decrement of e c = omega arith

  sized_less : (pointer : TypedExpr) (mode : Mode) (e : TypedExpr) (c : Config)
      → move_weight (machine.sized tags pointer mode e c) < tree_weight pointer + 2 + stack_weight c.pending
  sized_less pointer mode e c =
      if_less (has_effects pointer) _ _ _ (gives_less (unknown tags (uncalled tags) mode e) c _ (omega arith)) (omega arith)

  kind_less : (kind : TypedKind-F TypedKind TypedExpr) (e : TypedExpr) (c : Config)
      → move_weight (eval_kind tags kind e c) < weighed kind + stack_weight c.pending
  kind_less (TypedKind-F.Local n) e c = gives_less (loaded tags (uncalled tags) (variable n) e) c _ (omega arith)
  kind_less (TypedKind-F.Object n) e c = gives_less (loaded tags (uncalled tags) (data_object tags (uncalled tags) n) e) c _ (omega arith)
  kind_less (TypedKind-F.Number n) e c = omega arith
  kind_less (TypedKind-F.Str text) e c = omega arith
  kind_less (TypedKind-F.Comma all) e c = last_less all c
  kind_less (TypedKind-F.Assign o to from) e c = assignment_less o to from e c
  kind_less (TypedKind-F.Cond test a b) e c = omega arith
  kind_less (TypedKind-F.Binary o a b) e c = binary_less o a b e c
  kind_less (TypedKind-F.Cast of added) e c = cast_less of e c
  kind_less (TypedKind-F.Prefix o of) e c = prefix_less o of e c
  kind_less (TypedKind-F.Postfix o of) e c = postfix_less o of e c
  kind_less (TypedKind-F.SizeofExpr of) e c = omega arith
  kind_less (TypedKind-F.SizeofType of) e c = omega arith
  kind_less (TypedKind-F.Index a b) e c = omega arith
  kind_less (TypedKind-F.Call callee args) e c = next_less callee args e (with_args (begun c.args) c)
  kind_less (TypedKind-F.Member base arrow member) e c = omega arith
  kind_less (TypedKind-F.SizeCall pointer mode) e c = sized_less pointer (mode_in tags mode) e c

  weighs_one : (kind : TypedKind-F TypedKind TypedExpr) → 0 < weighed kind
  weighs_one (TypedKind-F.Local n) = omega arith
  weighs_one (TypedKind-F.Object n) = omega arith
  weighs_one (TypedKind-F.Number n) = omega arith
  weighs_one (TypedKind-F.Str text) = omega arith
  weighs_one (TypedKind-F.Comma all) = omega arith
  weighs_one (TypedKind-F.Assign o to from) = omega arith
  weighs_one (TypedKind-F.Cond test a b) = omega arith
  weighs_one (TypedKind-F.Binary o a b) = omega arith
  weighs_one (TypedKind-F.Cast of added) = omega arith
  weighs_one (TypedKind-F.Prefix o of) = omega arith
  weighs_one (TypedKind-F.Postfix o of) = omega arith
  weighs_one (TypedKind-F.SizeofExpr of) = omega arith
  weighs_one (TypedKind-F.SizeofType of) = omega arith
  weighs_one (TypedKind-F.Index a b) = omega arith
  weighs_one (TypedKind-F.Call callee args) = omega arith
  weighs_one (TypedKind-F.Member base arrow member) = omega arith
  weighs_one (TypedKind-F.SizeCall pointer mode) = omega arith

  not_found_less : (kind : TypedKind-F TypedKind TypedExpr) (c : Config)
      → move_weight (does no_lvalue machine.designate c) < weighed kind + stack_weight c.pending
  not_found_less kind c = let h = weighs_one kind in finds_less no_lvalue c _ (omega (arith, h))

  place_less : (kind : TypedKind-F TypedKind TypedExpr) (e : TypedExpr) (c : Config)
      → move_weight (place_kind tags kind e c) < weighed kind + stack_weight c.pending
  place_less (TypedKind-F.Local n) e c = finds_less (variable n) c _ (omega arith)
  place_less (TypedKind-F.Object n) e c = finds_less (data_object tags (uncalled tags) n) c _ (omega arith)
  place_less (TypedKind-F.Prefix prefix_op.Indirection of) e c = omega arith
  place_less (TypedKind-F.Index a b) e c = omega arith
  place_less (TypedKind-F.Member base arrow member) e c = omega arith
  place_less kind e c = not_found_less kind c

  pub eval_less : (e : TypedExpr) (c : Config) → move_weight (eval tags e c) < tree_weight e + stack_weight c.pending
  eval_less e c =
      subst (λ w. move_weight (eval tags e c) < w + stack_weight c.pending) (sym (weight_is e)) (kind_less (out-TypedKind e.kind) e c)

  pub find_less : (e : TypedExpr) (c : Config) → move_weight (place_of tags e c) < tree_weight e + stack_weight c.pending
  find_less e c =
      subst (λ w. move_weight (place_of tags e c) < w + stack_weight c.pending) (sym (weight_is e)) (place_less (out-TypedKind e.kind) e c)

  -- ---- pending work

  test_less : (t : Bool) (a b : TypedExpr) → tree_weight (if t then a else b) ≤ tree_weight a + tree_weight b
  test_less true a b = omega arith
  test_less false a b = omega arith

  value_less : (p : Pending) (v : Value) (c : Config) → move_weight (with_value tags p v c) < stack_weight (p ∷ c.pending)
  value_less (Indirect e) v c = finds_less (indirected e v) c _ (omega arith)
  value_less (IndexRight t b e) v c = omega arith
  value_less (IndexAt t u e x) v c = finds_less (element_at tags t u e x v) c _ (omega arith)
  value_less (Select t arrow member e) v c = finds_less (member_at tags t arrow member e v) c _ (omega arith)
  value_less (Convert e) v c = gives_less (convert e v) c _ (omega arith)
  value_less Discard v c = omega arith
  value_less (Right o t b e) v c = omega arith
  value_less (Operate o t u e x) v c = gives_less (operate tags o t u e x v) c _ (omega arith)
  value_less (AndRight b e) v c =
      does_less (λ t c. if t then machine.eval_then b (Truth e) c else tell (Int 0) c) c _ (holds e.place v) (omega arith)
      (λ t s. if_less t _ _ _ (omega arith) (omega arith))
  value_less (OrRight b e) v c =
      does_less (λ t c. if t then tell (Int 1) c else machine.eval_then b (Truth e) c) c _ (holds e.place v) (omega arith)
      (λ t s. if_less t _ _ _ (omega arith) (omega arith))
  value_less (Truth e) v c = gives_less (tested_by e v) c _ (omega arith)
  value_less (Choose a b e) v c =
      does_less (λ t. goes (Eval (if t then a else b))) c _ (holds e.place v) (omega arith)
      (λ t s. let h = test_less t a b in omega (arith, h))
  value_less (Commas more) v c = let h = last_less more c in omega (arith, h)
  value_less (AssignTo x e) v c = gives_less (assign_to x e v) c _ (omega arith)
  value_less (CopyTo x e) v c = gives_less (copy_to tags x e v) c _ (omega arith)
  value_less (CombineTo o x old from e) v c = gives_less (combine_to tags o x old from e v) c _ (omega arith)
  value_less (Apply o e) v c = gives_less (applied o e v) c _ (omega arith)
  value_less (Negate e) v c = gives_less (negated e v) c _ (omega arith)
  value_less (Arguments callee rest e) v c = let h = next_less callee rest e (with_args (with_arg v c.args) c) in omega (arith, h)
  value_less (SizeEnd mode e catching) v c = gives_less (size_by tags mode e v) (record c { catching = catching }) _ (omega arith)
  value_less (Load e) v c = omega arith
  value_less (Decay of) v c = omega arith
  value_less (AssignFrom from e) v c = omega arith
  value_less (CopyFrom from e) v c = omega arith
  value_less (CombineFrom o from e) v c = omega arith
  value_less (StepOld o e) v c = omega arith
  value_less (StepNew o e) v c = omega arith
  value_less AddressOf v c = omega arith

  lvalue_less : (p : Pending) (x : Lvalue) (c : Config) → move_weight (with_place tags p x c) < stack_weight (p ∷ c.pending)
  lvalue_less (Load e) x c = gives_less (load e.place e.ctype x) c _ (omega arith)
  lvalue_less (Decay of) x c = gives_less (decayed tags of x) c _ (omega arith)
  lvalue_less (AssignFrom from e) x c = omega arith
  lvalue_less (CopyFrom from e) x c = omega arith
  lvalue_less (CombineFrom o from e) x c =
      does_less (λ old. machine.eval_then from (CombineTo o x old from.ctype e)) c _ (load e.place e.ctype x) (omega arith)
      (λ old s. omega arith)
  lvalue_less (StepOld o e) x c = gives_less (old_at tags o e x) c _ (omega arith)
  lvalue_less (StepNew o e) x c = gives_less (new_at tags o e x) c _ (omega arith)
  lvalue_less AddressOf x c = omega arith
  lvalue_less (Indirect e) x c = omega arith
  lvalue_less (IndexRight t b e) x c = omega arith
  lvalue_less (IndexAt t u e y) x c = omega arith
  lvalue_less (Select t arrow member e) x c = omega arith
  lvalue_less (Convert e) x c = omega arith
  lvalue_less Discard x c = omega arith
  lvalue_less (Right o t b e) x c = omega arith
  lvalue_less (Operate o t u e y) x c = omega arith
  lvalue_less (AndRight b e) x c = omega arith
  lvalue_less (OrRight b e) x c = omega arith
  lvalue_less (Truth e) x c = omega arith
  lvalue_less (Choose a b e) x c = omega arith
  lvalue_less (Commas more) x c = omega arith
  lvalue_less (AssignTo y e) x c = omega arith
  lvalue_less (CopyTo y e) x c = omega arith
  lvalue_less (CombineTo o y old from e) x c = omega arith
  lvalue_less (Apply o e) x c = omega arith
  lvalue_less (Negate e) x c = omega arith
  lvalue_less (Arguments callee rest e) x c = omega arith
  lvalue_less (SizeEnd mode e catching) x c = omega arith

  pub resume_less : (p : Pending) (signal : Signal) (c : Config) → move_weight (resume tags p signal c) < stack_weight (p ∷ c.pending)
  resume_less p (Gives v) c = value_less p v c
  resume_less p (Designates x) c = lvalue_less p x c
