-- What the pending work makes of a value or an lvalue, by the plain meaning of each tree that it holds: the machine and this together say
-- what a run comes to.
use Rattle.std.specs.Prelude.{ℕ, if◌then◌else◌, List, [], ◌∷◌, ◌++◌, map, Option, None, Some}
use Rattle.fc_base.specs.declared.refusals.Place.{Place}
use Rattle.c_layout.specs.declared.tags.TagDef.{TagDef}
use Rattle.c_tree.specs.declared.typed.Callee.{Callee}
use Rattle.c_tree.specs.declared.typed.Callee.TheVariants.{Function, Library}
use Rattle.c_tree.specs.declared.typed.TypedExpr.{TypedExpr}
use Rattle.run_meaning.specs.Events.{Event}
use Rattle.run_meaning.specs.Runs.{Standing}
use Rattle.object_meaning.specs.declared.values.Value.{Value}
use Rattle.object_meaning.specs.declared.values.Value.TheVariants.{Int, Pointer, Nothing}
use Rattle.plain_meaning.specs.Actions.{Action, ◌>>=◌, ◌>>◌, pure, Outcome, On, Stop, State, argument_standing}
use Rattle.plain_meaning.specs.Expressions.{Calls, Part, part_of, value_of, values, last_value}
use Rattle.plain_meaning.specs.Library.{library}
use Rattle.plain_meaning.specs.Values.{uses, holds, Lvalue, load, place_in}
use Rattle.mean_steps.specs.Machine.{Pending, Indirect, IndexRight, IndexAt, Select, Convert, Discard, Right, Operate, AndRight, OrRight, Truth, Choose, Commas, AssignTo, CopyTo, CombineTo, Apply, Negate, Arguments, SizeEnd, Load, Decay, AssignFrom, CopyFrom, CombineFrom, StepOld, StepNew, AddressOf, Signal, Gives, Designates, Control, Eval, Designate, Tell, Begin, Over, Rows, ended, Config, Move}
use Rattle.mean_steps.specs.Operations.{indirected, convert, tested_by, negated, applied, assign_to, element_at, member_at, decayed, operate, copy_to, combine_to, old_at, new_at, size_by}

-- how a run comes out: its events, and how it stands
abbrev pub Answer : Type 0
Answer = List Event × Standing

-- how a run stands that is over while the argument of the size expression at this place is evaluated
abbrev pub caught : Option Place → Standing → Standing
caught None standing = standing
caught (Some at) standing = argument_standing at standing

-- hands an outcome on, or stops
abbrev pub hand : {A : Type 0} → Option Place → Outcome A → (A → State → ℕ → Answer) → Answer
hand k (On v s left) go = go v s left
hand k (Stop events standing) go = (events, caught k standing)

module _ (tags : List TagDef) (call : Calls) (ends : Option Place → Value → State → ℕ → Answer) where
  -- a node by itself
  abbrev pub node : TypedExpr → Part
  node e = record { whole = e; value = value_of tags call e; lvalue = (part_of tags call e).lvalue }

  abbrev pub nodes : List TypedExpr → List Part
  nodes all = map node all

  abbrev pub lvalue_of : TypedExpr → Action Lvalue
  lvalue_of e = (part_of tags call e).lvalue

  abbrev pub value : TypedExpr → Action Value
  value e = value_of tags call e

  -- a call whose arguments are there
  abbrev pub called_with : Callee → TypedExpr → List Value → Action Value
  called_with (Function n) e vs = uses e.place vs >> call n e.place vs
  called_with (Library f) e vs = library e.place f vs

  abbrev pub called_behind : Callee → List TypedExpr → TypedExpr → List Value → Action Value
  called_behind callee rest e done = values done (nodes rest) >>= called_with callee e

  abbrev mutual
    pub after_value : Option Place → List Pending → Rows → Value → State → ℕ → Answer
    after_value k [] args v s left = ends k v s left
    after_value k (Indirect e ∷ ps) args v s left = hand k (indirected e v s left) (after_place k ps args)
    after_value k (IndexRight t b e ∷ ps) args v s left =
        hand k ((value b >>= element_at tags t b.ctype e v) s left) (after_place k ps args)
    after_value k (IndexAt t u e x ∷ ps) args v s left = hand k (element_at tags t u e x v s left) (after_place k ps args)
    after_value k (Select t arrow member e ∷ ps) args v s left = hand k (member_at tags t arrow member e v s left) (after_place k ps args)
    after_value k (Convert e ∷ ps) args v s left = hand k (convert e v s left) (after_value k ps args)
    after_value k (Discard ∷ ps) args v s left = after_value k ps args Nothing s left
    after_value k (Right o t b e ∷ ps) args v s left = hand k ((value b >>= operate tags o t b.ctype e v) s left) (after_value k ps args)
    after_value k (Operate o t u e x ∷ ps) args v s left = hand k (operate tags o t u e x v s left) (after_value k ps args)
    after_value k (AndRight b e ∷ ps) args v s left =
        hand k ((holds e.place v >>= (λ t. if t then value b >>= tested_by e else pure (Int 0))) s left) (after_value k ps args)
    after_value k (OrRight b e ∷ ps) args v s left =
        hand k ((holds e.place v >>= (λ t. if t then pure (Int 1) else value b >>= tested_by e)) s left) (after_value k ps args)
    after_value k (Truth e ∷ ps) args v s left = hand k (tested_by e v s left) (after_value k ps args)
    after_value k (Choose a b e ∷ ps) args v s left =
        hand k ((holds e.place v >>= (λ t. if t then value a else value b)) s left) (after_value k ps args)
    after_value k (Commas more ∷ ps) args v s left = hand k (last_value tags call (nodes more) s left) (after_value k ps args)
    after_value k (AssignTo left_side e ∷ ps) args v s left = hand k (assign_to left_side e v s left) (after_value k ps args)
    after_value k (CopyTo left_side e ∷ ps) args v s left = hand k (copy_to tags left_side e v s left) (after_value k ps args)
    after_value k (CombineTo o left_side old from e ∷ ps) args v s left =
        hand k (combine_to tags o left_side old from e v s left) (after_value k ps args)
    after_value k (Apply o e ∷ ps) args v s left = hand k (applied o e v s left) (after_value k ps args)
    after_value k (Negate e ∷ ps) args v s left = hand k (negated e v s left) (after_value k ps args)
    after_value k (Arguments callee rest e ∷ ps) args v s left =
        hand k (called_behind callee rest e (args.row ++ v ∷ []) s left) (after_value k ps (ended args))
    after_value k (SizeEnd mode e catching ∷ ps) args v s left = hand catching (size_by tags mode e v s left) (after_value catching ps args)
    after_value k (p ∷ ps) args v s left = after_value k ps args v s left

    pub after_place : Option Place → List Pending → Rows → Lvalue → State → ℕ → Answer
    after_place k [] args x s left = ends k Nothing s left
    after_place k (Load e ∷ ps) args x s left = hand k (load e.place e.ctype x s left) (after_value k ps args)
    after_place k (Decay of ∷ ps) args x s left = hand k (decayed tags of x s left) (after_value k ps args)
    after_place k (AssignFrom from e ∷ ps) args x s left = hand k ((value from >>= assign_to x e) s left) (after_value k ps args)
    after_place k (CopyFrom from e ∷ ps) args x s left = hand k ((value from >>= copy_to tags x e) s left) (after_value k ps args)
    after_place k (CombineFrom o from e ∷ ps) args x s left =
        hand k ((load e.place e.ctype x >>= (λ old. value from >>= combine_to tags o x old from.ctype e)) s left) (after_value k ps args)
    after_place k (StepOld o e ∷ ps) args x s left = hand k (old_at tags o e x s left) (after_value k ps args)
    after_place k (StepNew o e ∷ ps) args x s left = hand k (new_at tags o e x s left) (after_value k ps args)
    after_place k (AddressOf ∷ ps) args x s left = after_value k ps args (Pointer (place_in x)) s left
    after_place k (p ∷ ps) args x s left = after_place k ps args x s left

  abbrev pub after_signal : Option Place → List Pending → Rows → Signal → State → ℕ → Answer
  after_signal k ps args (Gives v) = after_value k ps args v
  after_signal k ps args (Designates x) = after_place k ps args x

  -- the answer that the machine is on its way to
  abbrev pub answer_from : Control → Config → ℕ → Answer
  answer_from (Eval e) c left = hand c.catching (value e c.state left) (after_value c.catching c.pending c.args)
  answer_from (Designate e) c left = hand c.catching (lvalue_of e c.state left) (after_place c.catching c.pending c.args)
  answer_from (Tell signal) c left = after_signal c.catching c.pending c.args signal c.state left
  answer_from (Begin n at) c left = hand c.catching (call n at c.args.row c.state left) (after_value c.catching c.pending (ended c.args))
  answer_from (Over events standing) c left = (events, caught c.catching standing)

  abbrev pub answer_at : Move → ℕ → Answer
  answer_at m left = answer_from m.control m.config left
