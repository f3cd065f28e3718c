-- No move of the machine changes the answer that it is on its way to.
use Rattle.std.proofs.Common.{◌≡◌, ℕ, List, [], ◌∷◌, ◌++◌, Bool, true, false, Option, Some, None, refl, sym, ap, ◌∙◌}
use Rattle.std.specs.Prelude.{if◌then◌else◌, ◌&&◌}
use Rattle.std.specs.Option.{option_map_or}
use Rattle.c_arithmetic.specs.declared.operators.BinaryOperator.{BinaryOperator}
use Rattle.c_arithmetic.specs.declared.operators.BinaryOperator.TheVariants as op
use Rattle.c_arithmetic.specs.declared.operators.UnaryOperator.{UnaryOperator}
use Rattle.c_layout.specs.declared.tags.TagDef.{TagDef}
use Rattle.c_layout.specs.Types.{is_void, is_integer, is_pointer, is_array, is_structure}
use Rattle.c_tree.specs.declared.operators.AssignOp.{AssignOp}
use Rattle.c_tree.specs.declared.operators.BinaryOp.{BinaryOp}
use Rattle.c_tree.specs.declared.operators.BinaryOp.TheVariants as binary_op
use Rattle.c_tree.specs.declared.operators.PostfixOp.{PostfixOp}
use Rattle.c_tree.specs.declared.operators.PostfixOp.TheVariants as postfix
use Rattle.c_tree.specs.declared.operators.PrefixOp.{PrefixOp}
use Rattle.c_tree.specs.declared.operators.PrefixOp.TheVariants as prefix_op
use Rattle.c_tree.specs.declared.typed.Callee.{Callee}
use Rattle.c_tree.specs.declared.typed.Callee.TheVariants.{Function, Library}
use Rattle.c_tree.specs.declared.typed.TypedExpr.{TypedExpr}
use Rattle.c_tree.specs.declared.typed.TypedKind.{TypedKind, out-TypedKind}
use Rattle.c_tree.specs.declared.typed.TypedKind.TheOpen.{TypedKind-F}
use Rattle.c_tree.specs.Operators.{assign_operator, binary_operator, unary_operator}
use Rattle.fc_base.specs.declared.levels.Mode.{Mode}
use Rattle.fc_base.specs.declared.refusals.Place.{Place}
use Rattle.run_meaning.specs.Runs.{Standing, Ended, Undefined, Going}
use Rattle.object_meaning.specs.OnObjects.{as_pointer}
use Rattle.object_meaning.specs.declared.values.Value.{Value}
use Rattle.object_meaning.specs.declared.values.Value.TheVariants.{Int, Nothing}
use Rattle.plain_meaning.specs.Actions.{State, Outcome, On, Stop, bind, Action, ◌>>=◌, ◌>>◌, pure, argument_standing, argument_outcome}
use Rattle.plain_meaning.specs.Expressions as plain
use Rattle.plain_meaning.specs.Expressions.{Calls, kind_value, kind_lvalue, element_of}
use Rattle.plain_meaning.specs.Paths.{has_effects}
use Rattle.plain_meaning.specs.Values.{uses, Lvalue, InMemory, load}
use Rattle.mean_steps.specs.After.{Answer, caught, hand, node, nodes, value, lvalue_of, called_with, called_behind, after_value, after_place, after_signal, answer_from, answer_at}
use Rattle.mean_steps.specs.Machine as machine
use Rattle.mean_steps.specs.Machine.{Pending, Indirect, IndexRight, IndexAt, Select, Convert, Discard, Right, Operate, AndRight, OrRight, Truth, Choose, Commas, AssignTo, CopyTo, CombineTo, Apply, Negate, Arguments, SizeEnd, Load, Decay, AssignFrom, CopyFrom, CombineFrom, StepOld, StepNew, AddressOf, Signal, Gives, Designates, Eval, Designate, Tell, Begin, Over, ended, begun, with_arg, with_args, with_state, Config, Move, goes, tell, designate, waits, settled, does, call_with, next_arg, outermost, eval_kind, place_kind, eval, place_of, with_value, with_place, resume, last_of, mode_in}
use Rattle.mean_steps.specs.Operations.{tested_by, element_at, combine_to, step_at, size_by}
use Rattle.mean_steps.proofs.Steady.{IsSteady, at_left, steady_uses, steady_holds, steady_variable, steady_load, steady_library, steady_indirected, steady_convert, steady_tested_by, steady_negated, steady_applied, steady_assign_to, steady_element_at, steady_member_at, steady_decayed, steady_data_object, steady_loaded, steady_operate, steady_copy_to, steady_combine_to, steady_old_at, steady_new_at, steady_unknown, steady_size_by}
use Rattle.mean_steps.proofs.Trees.{layered, value_steps, lvalue_steps}

module _ {A B : Type 0} where
  pub hand_bind : (k : Option Place) (o : Outcome A) (f : A → Action B) (go : B → State → ℕ → Answer)
      → hand k o (λ v s l. hand k (f v s l) go) ≡ hand k (bind o f) go
  hand_bind k (On v s l) f go = refl
  hand_bind k (Stop events standing) f go = refl

module _ {A B C : Type 0} where
  bind_bind : (o : Outcome A) (f : A → Action B) (g : B → Action C) → bind o (λ v. f v >>= g) ≡ bind (bind o f) g
  bind_bind (On v s l) f g = refl
  bind_bind (Stop events standing) f g = refl

  assoc : (a : Action A) (f : A → Action B) (g : B → Action C) → (a >>= (λ v. f v >>= g)) ≡ ((a >>= f) >>= g)
  assoc a f g i s l = bind_bind (a s l) f g i

-- an argument of a size expression inside that of another
caught_twice : (k : Option Place) (at : Place) (standing : Standing)
    → caught (outermost k at) standing ≡ caught k (argument_standing at standing)
caught_twice None at standing = refl
caught_twice (Some other) at (Ended end) = refl
caught_twice (Some other) at (Undefined kind p) = refl
caught_twice (Some other) at Going = refl

size_keeps : (k : Option Place) (at : Place) (o : Outcome Value) (f : Value → Action Value) (go : Value → State → ℕ → Answer)
    → hand (outermost k at) o (λ v s l. hand k (f v s l) go) ≡ hand k (bind (argument_outcome at o) f) go
size_keeps k at (On v s l) f go = refl
size_keeps k at (Stop events standing) f go = ap (λ standing. (events, standing)) (caught_twice k at standing)

module _ (tags : List TagDef) (call : Calls) (ends : Option Place → Value → State → ℕ → Answer) where
  abbrev at : Move → ℕ → Answer
  at = answer_at tags call ends

  abbrev values : Config → Value → State → ℕ → Answer
  values c = after_value tags call ends c.catching c.pending c.args

  abbrev places : Config → Lvalue → State → ℕ → Answer
  places c = after_place tags call ends c.catching c.pending c.args

  -- ---- actions that take no step

  module _ {A : Type 0} (a : Action A) (next : A → Config → Move) (c : Config) (l : ℕ) (steady : IsSteady a) where
    settled_ends : (o : Outcome A) (go : A → State → ℕ → Answer) → ((v : A) (s : State) → at (next v (with_state s c)) l ≡ go v s l)
        → at (settled next c o) l ≡ hand c.catching (at_left l o) go
    settled_ends (On v s k) go h = h v s
    settled_ends (Stop events standing) go h = refl

    does_ends : (go : A → State → ℕ → Answer) → ((v : A) (s : State) → at (next v (with_state s c)) l ≡ go v s l)
        → at (does a next c) l ≡ hand c.catching (a c.state l) go
    does_ends go h = settled_ends (a c.state 0) go h ∙ ap (λ o. hand c.catching o go) (sym (steady.at_any c.state l 0))

  module _ {A B : Type 0} (a : Action A) (next : A → Config → Move) (c : Config) (l : ℕ) (steady : IsSteady a) where
    does_then : (rest : A → Action B) (go : B → State → ℕ → Answer)
        → ((v : A) (s : State) → at (next v (with_state s c)) l ≡ hand c.catching (rest v s l) go)
        → at (does a next c) l ≡ hand c.catching (bind (a c.state l) rest) go
    does_then rest go h =
        does_ends a next c l steady (λ v s l. hand c.catching (rest v s l) go) h ∙ hand_bind c.catching (a c.state l) rest go

  gives : (a : Action Value) (c : Config) (l : ℕ) → IsSteady a → at (does a tell c) l ≡ hand c.catching (a c.state l) (values c)
  gives a c l h = does_ends a tell c l h (values c) (λ v s. refl)

  designates : (a : Action Lvalue) (c : Config) (l : ℕ) → IsSteady a → at (does a designate c) l ≡ hand c.catching (a c.state l) (places c)
  designates a c l h = does_ends a designate c l h (places c) (λ v s. refl)

  if_keeps : {B : Type 0} (t : Bool) (x y : Move) (a b : Action B) (go : B → State → ℕ → Answer) (k : Option Place) (s : State) (l : ℕ)
      → at x l ≡ hand k (a s l) go → at y l ≡ hand k (b s l) go → at (if t then x else y) l ≡ hand k ((if t then a else b) s l) go
  if_keeps true x y a b go k s l h g = h
  if_keeps false x y a b go k s l h g = g

  module _ (c : Config) (l : ℕ) where
    abbrev k : Option Place
    k = c.catching

    -- the value of an expression, and what it designates, behind which an action comes
    evals : {B : Type 0} (e : TypedExpr) (f : Value → Action B) (go : B → State → ℕ → Answer)
        → hand k (value tags call ends e c.state l) (λ v s l. hand k (f v s l) go) ≡ hand k (bind (value tags call ends e c.state l) f) go
    evals e f go = hand_bind k (value tags call ends e c.state l) f go

    finds : {B : Type 0} (e : TypedExpr) (f : Lvalue → Action B) (go : B → State → ℕ → Answer)
        → hand k (lvalue_of tags call ends e c.state l) (λ v s l. hand k (f v s l) go)
        ≡ hand k (bind (lvalue_of tags call ends e c.state l) f) go
    finds e f go = hand_bind k (lvalue_of tags call ends e c.state l) f go

  -- ---- calls

  call_keeps : (callee : Callee) (e : TypedExpr) (c : Config) (l : ℕ)
      → at (call_with callee e c) l
      ≡ hand c.catching (called_with tags call ends callee e c.args.row c.state l)
      (after_value tags call ends c.catching c.pending (ended c.args))
  call_keeps (Function n) e c l = does_then _ (λ done. goes (Begin n e.place)) c l (steady_uses e.place c.args.row) _ _ (λ v s. refl)
  call_keeps (Library f) e c l = gives _ (with_args (ended c.args) c) l (steady_library e.place f c.args.row)

  next_keeps : (callee : Callee) (es : List TypedExpr) (e : TypedExpr) (c : Config) (l : ℕ)
      → at (next_arg callee es e c) l
      ≡ hand c.catching (called_behind tags call ends callee es e c.args.row c.state l)
      (after_value tags call ends c.catching c.pending (ended c.args))
  next_keeps callee [] e c l = call_keeps callee e c l
  next_keeps callee (a ∷ rest) e c l =
      evals c l a _ _
      ∙ ap (λ o. hand c.catching o (after_value tags call ends c.catching c.pending (ended c.args)))
      (bind_bind (value tags call ends a c.state l) (λ v. plain.values (c.args.row ++ v ∷ []) (nodes tags call ends rest))
      (called_with tags call ends callee e))

  -- ---- kinds of nodes

  last_keeps : (es : List TypedExpr) (c : Config) (l : ℕ)
      → at (last_of tags es c) l ≡ hand c.catching (plain.last_value tags call (nodes tags call ends es) c.state l) (values c)
  last_keeps [] c l = refl
  last_keeps (e ∷ []) c l = refl
  last_keeps (e ∷ f ∷ more) c l = evals c l e _ _

  cast_keeps : (of e : TypedExpr) (c : Config) (l : ℕ)
      → at (machine.cast tags of e c) l ≡ hand c.catching (plain.cast tags call (node tags call ends of) e c.state l) (values c)
  cast_keeps of e c l =
      if_keeps (is_void e.ctype) _ _ _ _ (values c) c.catching c.state l (evals c l of _ _)
      (if_keeps (is_array of.ctype) _ _ _ _ (values c) c.catching c.state l (finds c l of _ _)
      (if_keeps (is_pointer e.ctype && is_integer of.ctype) _ _ _ _ (values c) c.catching c.state l refl
      (evals c l of _ _)))

  binary_keeps : (o : BinaryOp) (a b e : TypedExpr) (c : Config) (l : ℕ)
      → at (machine.binary tags o a b e c) l
      ≡ hand c.catching (plain.binary_value tags call o (node tags call ends a) (node tags call ends b) e c.state l) (values c)
  binary_keeps binary_op.LogicalAnd a b e c l = evals c l a _ _
  binary_keeps binary_op.LogicalOr a b e c l = evals c l a _ _
  binary_keeps o a b e c l = by (binary_operator o)
    where
      by : (o : Option BinaryOperator) → at (option_map_or (λ by. machine.eval_then a (Right by a.ctype b e) c) o (tell Nothing c)) l
          ≡ hand c.catching
          (option_map_or (λ by. plain.both tags call by (node tags call ends a) (node tags call ends b) e) o (pure Nothing) c.state l)
          (values c)
      by None = refl
      by (Some o) = evals c l a _ _

  assignment_keeps : (o : AssignOp) (to from e : TypedExpr) (c : Config) (l : ℕ)
      → at (machine.assignment tags o to from e c) l
      ≡ hand c.catching (plain.assignment tags call o (node tags call ends to) (node tags call ends from) e c.state l) (values c)
  assignment_keeps o to from e c l = by (assign_operator o)
    where
      by : (o : Option BinaryOperator)
          → at (option_map_or (λ by. machine.place_then to (CombineFrom by from e) c) o
          (if is_structure e.ctype then machine.place_then to (CopyFrom from e) c else machine.place_then to (AssignFrom from e) c)) l
          ≡ hand c.catching (option_map_or (λ by. plain.compound tags call by (node tags call ends to) (node tags call ends from) e) o
          (if is_structure e.ctype then plain.copied tags call (node tags call ends to) (node tags call ends from) e
          else plain.assigned tags call (node tags call ends to) (node tags call ends from) e) c.state l) (values c)
      by None = if_keeps (is_structure e.ctype) _ _ _ _ (values c) c.catching c.state l (finds c l to _ _) (finds c l to _ _)
      by (Some o) = finds c l to _ _

  steps_keep : (e of : TypedExpr) (f : Lvalue → Action (Value × Value)) (g : Value × Value → Action Value) (c : Config) (l : ℕ)
      → hand c.catching (lvalue_of tags call ends of c.state l) (λ x s l. hand c.catching (bind (f x s l) g) (values c))
      ≡ hand c.catching (bind (bind (lvalue_of tags call ends of c.state l) f) g) (values c)
  steps_keep e of f g c l =
      finds c l of (λ x. f x >>= g) _
      ∙ ap (λ o. hand c.catching o (values c)) (bind_bind (lvalue_of tags call ends of c.state l) f g)

  -- an lvalue that is loaded once it is found
  loads_keep : (x : Action Lvalue) (e : TypedExpr) (c : Config) (l : ℕ)
      → hand c.catching (x c.state l) (places (waits (Load e) c)) ≡ hand c.catching (plain.loaded tags call x e c.state l) (values c)
  loads_keep x e c l = hand_bind c.catching (x c.state l) (load e.place e.ctype) (values c)

  indirect_keeps : (of e : TypedExpr) (c : Config) (l : ℕ)
      → at (machine.eval_then of (Indirect e) c) l
      ≡ hand c.catching (plain.indirection tags call (node tags call ends of) e c.state l) (places c)
  indirect_keeps of e c l = evals c l of _ _

  prefix_keeps : (o : PrefixOp) (of e : TypedExpr) (c : Config) (l : ℕ)
      → at (machine.prefix_of tags o of e c) l
      ≡ hand c.catching (plain.prefix_value tags call o (node tags call ends of) e c.state l) (values c)
  prefix_keeps prefix_op.Increment of e c l = steps_keep e of (step_at tags op.Add e) (λ v. pure v.1) c l
  prefix_keeps prefix_op.Decrement of e c l = steps_keep e of (step_at tags op.Subtract e) (λ v. pure v.1) c l
  prefix_keeps prefix_op.Address of e c l = finds c l of _ _
  prefix_keeps prefix_op.Indirection of e c l =
      indirect_keeps of e (waits (Load e) c) l ∙ loads_keep (plain.indirection tags call (node tags call ends of) e) e c l
  prefix_keeps prefix_op.Not of e c l = evals c l of _ _
  prefix_keeps o of e c l = by (unary_operator o)
    where
      by : (o : Option UnaryOperator) → at (option_map_or (λ by. machine.eval_then of (Apply by e) c) o (tell Nothing c)) l
          ≡ hand c.catching (option_map_or (λ by. plain.on_one tags call by (node tags call ends of) e) o (pure Nothing) c.state l)
          (values c)
      by None = refl
      by (Some o) = evals c l of _ _

  postfix_keeps : (o : PostfixOp) (of e : TypedExpr) (c : Config) (l : ℕ)
      → at (machine.postfix_of tags o of e c) l
      ≡ hand c.catching (plain.postfix_value tags call o (node tags call ends of) e c.state l) (values c)
  postfix_keeps postfix.Increment of e c l = steps_keep e of (step_at tags op.Add e) (λ v. pure v.0) c l
  postfix_keeps postfix.Decrement of e c l = steps_keep e of (step_at tags op.Subtract e) (λ v. pure v.0) c l

  -- `a[i]` is found once both operands are there
  indexed_is : (a b e : TypedExpr) → (value tags call ends a >>= (λ x. value tags call ends b >>= element_at tags a.ctype b.ctype e x))
      ≡ plain.indexed tags call (node tags call ends a) (node tags call ends b) e
  indexed_is a b e =
      ap (λ f. value tags call ends a >>= f) (λ i x. behind x i)
      ∙ assoc (value tags call ends a) (λ x. value tags call ends b >>= (λ y. used x y)) placed
    where
      placed : Value → Action Lvalue
      placed v = pure (InMemory (as_pointer v))

      used : Value → Value → Action Value
      used x y = uses e.place (x ∷ y ∷ []) >> element_of tags call a.ctype b.ctype e x y

      behind : (x : Value) → (value tags call ends b >>= element_at tags a.ctype b.ctype e x)
          ≡ ((value tags call ends b >>= used x) >>= placed)
      behind x =
          ap (λ g. value tags call ends b >>= g)
          (λ i y. assoc (uses e.place (x ∷ y ∷ [])) (λ done. element_of tags call a.ctype b.ctype e x y) placed i)
          ∙ assoc (value tags call ends b) (used x) placed

  index_keeps : (a b e : TypedExpr) (c : Config) (l : ℕ)
      → at (machine.eval_then a (IndexRight a.ctype b e) c) l
      ≡ hand c.catching (plain.indexed tags call (node tags call ends a) (node tags call ends b) e c.state l) (places c)
  index_keeps a b e c l = evals c l a _ _ ∙ ap (λ o. hand c.catching (o c.state l) (places c)) (indexed_is a b e)

  sized_keeps : (pointer : TypedExpr) (mode : Mode) (e : TypedExpr) (c : Config) (l : ℕ)
      → at (machine.sized tags pointer mode e c) l
      ≡ hand c.catching
      ((if has_effects pointer then plain.unknown tags call mode e else plain.known tags call (node tags call ends pointer) mode e)
      c.state l)
      (values c)
  sized_keeps pointer mode e c l =
      if_keeps (has_effects pointer) _ _ _ _ (values c) c.catching c.state l (gives _ c l (steady_unknown tags mode e))
      (size_keeps c.catching e.place (value tags call ends pointer c.state l) (size_by tags mode e) (values c))

  -- a node by its kind
  kind_keeps : (kind : TypedKind-F TypedKind TypedExpr) (e : TypedExpr) (c : Config) (l : ℕ)
      → at (eval_kind tags kind e c) l ≡ hand c.catching (kind_value tags call (layered tags call kind) e c.state l) (values c)
  kind_keeps (TypedKind-F.Local n) e c l = gives _ c l (steady_loaded tags _ e (steady_variable n))
  kind_keeps (TypedKind-F.Object n) e c l = gives _ c l (steady_loaded tags _ e (steady_data_object tags n))
  kind_keeps (TypedKind-F.Number n) e c l = refl
  kind_keeps (TypedKind-F.Str text) e c l = refl
  kind_keeps (TypedKind-F.Comma all) e c l = last_keeps all c l
  kind_keeps (TypedKind-F.Assign o to from) e c l = assignment_keeps o to from e c l
  kind_keeps (TypedKind-F.Cond test a b) e c l = evals c l test _ _
  kind_keeps (TypedKind-F.Binary o a b) e c l = binary_keeps o a b e c l
  kind_keeps (TypedKind-F.Cast of added) e c l = cast_keeps of e c l
  kind_keeps (TypedKind-F.Prefix o of) e c l = prefix_keeps o of e c l
  kind_keeps (TypedKind-F.Postfix o of) e c l = postfix_keeps o of e c l
  kind_keeps (TypedKind-F.SizeofExpr of) e c l = refl
  kind_keeps (TypedKind-F.SizeofType of) e c l = refl
  kind_keeps (TypedKind-F.Index a b) e c l =
      index_keeps a b e (waits (Load e) c) l ∙ loads_keep (plain.indexed tags call (node tags call ends a) (node tags call ends b) e) e c l
  kind_keeps (TypedKind-F.Call (Function n) args) e c l = next_keeps (Function n) args e (with_args (begun c.args) c) l
  kind_keeps (TypedKind-F.Call (Library f) args) e c l = next_keeps (Library f) args e (with_args (begun c.args) c) l
  kind_keeps (TypedKind-F.Member base arrow member) e c l =
      evals (waits (Load e) c) l base _ _ ∙ loads_keep (plain.selected tags call (node tags call ends base) arrow member e) e c l
  kind_keeps (TypedKind-F.SizeCall pointer mode) e c l = sized_keeps pointer (mode_in tags mode) e c l

  kind_finds : (kind : TypedKind-F TypedKind TypedExpr) (e : TypedExpr) (c : Config) (l : ℕ)
      → at (place_kind tags kind e c) l ≡ hand c.catching (kind_lvalue tags call (layered tags call kind) e c.state l) (places c)
  kind_finds (TypedKind-F.Local n) e c l = designates _ c l (steady_variable n)
  kind_finds (TypedKind-F.Object n) e c l = designates _ c l (steady_data_object tags n)
  kind_finds (TypedKind-F.Prefix prefix_op.Indirection of) e c l = indirect_keeps of e c l
  kind_finds (TypedKind-F.Index a b) e c l = index_keeps a b e c l
  kind_finds (TypedKind-F.Member base arrow member) e c l = evals c l base _ _
  kind_finds _ e c l = refl

  pub eval_keeps : (e : TypedExpr) (c : Config) (l : ℕ) → at (eval tags e c) l ≡ answer_from tags call ends (Eval e) c l
  eval_keeps e c l =
      kind_keeps (out-TypedKind e.kind) e c l ∙ ap (λ a. hand c.catching (a c.state l) (values c)) (sym (value_steps tags call e))

  pub place_keeps : (e : TypedExpr) (c : Config) (l : ℕ) → at (place_of tags e c) l ≡ answer_from tags call ends (Designate e) c l
  place_keeps e c l =
      kind_finds (out-TypedKind e.kind) e c l ∙ ap (λ a. hand c.catching (a c.state l) (places c)) (sym (lvalue_steps tags call e))

  -- ---- pending work

  test_keeps : (t : Bool) (a b : TypedExpr) (c : Config) (l : ℕ)
      → at (goes (Eval (if t then a else b)) c) l
      ≡ hand c.catching ((if t then value tags call ends a else value tags call ends b) c.state l) (values c)
  test_keeps true a b c l = refl
  test_keeps false a b c l = refl

  and_keeps : (t : Bool) (b e : TypedExpr) (c : Config) (l : ℕ)
      → at (if t then machine.eval_then b (Truth e) c else tell (Int 0) c) l
      ≡ hand c.catching ((if t then value tags call ends b >>= tested_by e else pure (Int 0)) c.state l) (values c)
  and_keeps true b e c l = evals c l b _ _
  and_keeps false b e c l = refl

  or_keeps : (t : Bool) (b e : TypedExpr) (c : Config) (l : ℕ)
      → at (if t then tell (Int 1) c else machine.eval_then b (Truth e) c) l
      ≡ hand c.catching ((if t then pure (Int 1) else value tags call ends b >>= tested_by e) c.state l) (values c)
  or_keeps true b e c l = refl
  or_keeps false b e c l = evals c l b _ _

  value_keeps : (p : Pending) (v : Value) (c : Config) (l : ℕ)
      → at (with_value tags p v c) l ≡ after_value tags call ends c.catching (p ∷ c.pending) c.args v c.state l
  value_keeps (Indirect e) v c l = designates _ c l (steady_indirected e v)
  value_keeps (IndexRight t b e) v c l = evals c l b _ _
  value_keeps (IndexAt t u e x) v c l = designates _ c l (steady_element_at tags t u e x v)
  value_keeps (Select t arrow member e) v c l = designates _ c l (steady_member_at tags t arrow member e v)
  value_keeps (Convert e) v c l = gives _ c l (steady_convert e v)
  value_keeps Discard v c l = refl
  value_keeps (Right o t b e) v c l = evals c l b _ _
  value_keeps (Operate o t u e x) v c l = gives _ c l (steady_operate tags o t u e x v)
  value_keeps (AndRight b e) v c l =
      does_then _ (λ t c. if t then machine.eval_then b (Truth e) c else tell (Int 0) c) c l (steady_holds e.place v) _ (values c)
      (λ t s. and_keeps t b e (with_state s c) l)
  value_keeps (OrRight b e) v c l =
      does_then _ (λ t c. if t then tell (Int 1) c else machine.eval_then b (Truth e) c) c l (steady_holds e.place v) _ (values c)
      (λ t s. or_keeps t b e (with_state s c) l)
  value_keeps (Truth e) v c l = gives _ c l (steady_tested_by e v)
  value_keeps (Choose a b e) v c l =
      does_then _ (λ t. goes (Eval (if t then a else b))) c l (steady_holds e.place v) _ (values c)
      (λ t s. test_keeps t a b (with_state s c) l)
  value_keeps (Commas more) v c l = last_keeps more c l
  value_keeps (AssignTo x e) v c l = gives _ c l (steady_assign_to x e v)
  value_keeps (CopyTo x e) v c l = gives _ c l (steady_copy_to tags x e v)
  value_keeps (CombineTo o x old from e) v c l = gives _ c l (steady_combine_to tags o x old from e v)
  value_keeps (Apply o e) v c l = gives _ c l (steady_applied o e v)
  value_keeps (Negate e) v c l = gives _ c l (steady_negated e v)
  value_keeps (Arguments callee rest e) v c l = next_keeps callee rest e (with_args (with_arg v c.args) c) l
  value_keeps (SizeEnd mode e catching) v c l = gives _ (record c { catching = catching }) l (steady_size_by tags mode e v)
  value_keeps (Load e) v c l = refl
  value_keeps (Decay of) v c l = refl
  value_keeps (AssignFrom from e) v c l = refl
  value_keeps (CopyFrom from e) v c l = refl
  value_keeps (CombineFrom o from e) v c l = refl
  value_keeps (StepOld o e) v c l = refl
  value_keeps (StepNew o e) v c l = refl
  value_keeps AddressOf v c l = refl

  lvalue_keeps : (p : Pending) (x : Lvalue) (c : Config) (l : ℕ)
      → at (with_place tags p x c) l ≡ after_place tags call ends c.catching (p ∷ c.pending) c.args x c.state l
  lvalue_keeps (Load e) x c l = gives _ c l (steady_load e.place e.ctype x)
  lvalue_keeps (Decay of) x c l = gives _ c l (steady_decayed tags of x)
  lvalue_keeps (AssignFrom from e) x c l = evals c l from _ _
  lvalue_keeps (CopyFrom from e) x c l = evals c l from _ _
  lvalue_keeps (CombineFrom o from e) x c l =
      does_then _ (λ old. machine.eval_then from (CombineTo o x old from.ctype e)) c l (steady_load e.place e.ctype x) _ (values c)
      (λ old s. evals (with_state s c) l from (combine_to tags o x old from.ctype e) (values c))
  lvalue_keeps (StepOld o e) x c l = gives _ c l (steady_old_at tags o e x)
  lvalue_keeps (StepNew o e) x c l = gives _ c l (steady_new_at tags o e x)
  lvalue_keeps AddressOf x c l = refl
  lvalue_keeps (Indirect e) x c l = refl
  lvalue_keeps (IndexRight t b e) x c l = refl
  lvalue_keeps (IndexAt t u e y) x c l = refl
  lvalue_keeps (Select t arrow member e) x c l = refl
  lvalue_keeps (Convert e) x c l = refl
  lvalue_keeps Discard x c l = refl
  lvalue_keeps (Right o t b e) x c l = refl
  lvalue_keeps (Operate o t u e y) x c l = refl
  lvalue_keeps (AndRight b e) x c l = refl
  lvalue_keeps (OrRight b e) x c l = refl
  lvalue_keeps (Truth e) x c l = refl
  lvalue_keeps (Choose a b e) x c l = refl
  lvalue_keeps (Commas more) x c l = refl
  lvalue_keeps (AssignTo y e) x c l = refl
  lvalue_keeps (CopyTo y e) x c l = refl
  lvalue_keeps (CombineTo o y old from e) x c l = refl
  lvalue_keeps (Apply o e) x c l = refl
  lvalue_keeps (Negate e) x c l = refl
  lvalue_keeps (Arguments callee rest e) x c l = refl
  lvalue_keeps (SizeEnd mode e catching) x c l = refl

  pub resume_keeps : (p : Pending) (signal : Signal) (c : Config) (l : ℕ)
      → at (resume tags p signal c) l ≡ after_signal tags call ends c.catching (p ∷ c.pending) c.args signal c.state l
  resume_keeps p (Gives v) c l = value_keeps p v c l
  resume_keeps p (Designates x) c l = lvalue_keeps p x c l
