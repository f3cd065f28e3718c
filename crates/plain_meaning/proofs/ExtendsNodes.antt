-- Each kind of expression under two meanings of calls, where the second extends the first.
use Rattle.std.proofs.Common.{ℕ, List, [], ◌∷◌, ◌++◌, Bool, true, false, Option, Some, None}
use Rattle.std.specs.Prelude.{◌&&◌, if◌then◌else◌}
use Rattle.std.specs.Option.{option_map_or}
use Rattle.c_arithmetic.specs.declared.operators.BinaryOperator.{BinaryOperator}
use Rattle.c_arithmetic.specs.declared.operators.BinaryOperator.TheVariants as op
use Rattle.c_arithmetic.specs.declared.operators.UnaryOperator.{UnaryOperator}
use Rattle.c_layout.specs.declared.tags.TagDef.{TagDef}
use Rattle.c_layout.specs.declared.types.CType.{CType}
use Rattle.c_layout.specs.Types.{is_void, is_integer, is_pointer, is_array, is_structure}
use Rattle.c_tree.specs.declared.operators.AssignOp.{AssignOp}
use Rattle.c_tree.specs.declared.operators.BinaryOp.{BinaryOp}
use Rattle.c_tree.specs.declared.operators.BinaryOp.TheVariants as binary_op
use Rattle.c_tree.specs.declared.operators.PostfixOp.{PostfixOp}
use Rattle.c_tree.specs.declared.operators.PostfixOp.TheVariants as postfix
use Rattle.c_tree.specs.declared.operators.PrefixOp.{PrefixOp}
use Rattle.c_tree.specs.declared.operators.PrefixOp.TheVariants as prefix_op
use Rattle.c_tree.specs.declared.typed.Callee.{Callee}
use Rattle.c_tree.specs.declared.typed.Callee.TheVariants.{Function, Library}
use Rattle.c_tree.specs.declared.typed.TypedExpr.{TypedExpr}
use Rattle.c_tree.specs.Operators.{assign_operator, binary_operator, unary_operator}
use Rattle.fc_base.specs.declared.levels.Mode.{Mode}
use Rattle.fc_base.specs.declared.refusals.Place.{Place}
use Rattle.object_meaning.specs.declared.values.Value.{Value}
use Rattle.object_meaning.specs.declared.values.Value.TheVariants.{Nothing}
use Rattle.plain_meaning.specs.Actions.{Action, pure}
use Rattle.plain_meaning.specs.Expressions.{Calls, Part, values, indirection, element_of, element, indexed, selected, data_object, loaded, array_pointer, cast, on_integers, on_pointer, on_pointers, operated, both, tested_value, conjunction, disjunction, binary_value, chosen, last_value, assigned, copied, combined, compound, assignment, stepped, old_value, new_value, address, on_one, negation, prefix_value, postfix_value, called, unknown, known, sized}
use Rattle.plain_meaning.specs.Paths.{has_effects}
use Rattle.plain_meaning.specs.Values.{Lvalue}
use Rattle.plain_meaning.proofs.Extends.{Extends, extends_bind, extends_then, extends_pure, extends_argument}
use Rattle.plain_meaning.proofs.ExtendsValues.{single, extends_uses, extends_holds, extends_computed, extends_load, extends_store, extends_copy, extends_moved, extends_asked, extends_library}

-- a node of one tree, whose value and lvalue the second meaning extends
abbrev pub part : TypedExpr → Action Value → Action Lvalue → Part
part whole value lvalue = record { whole = whole; value = value; lvalue = lvalue }

pub data Alike (low high : ℕ) : Part → Part → Type 0 where
  alike : (whole : TypedExpr) (v w : Action Value) (x y : Action Lvalue) → Extends low high v w → Extends low high x y
      → Alike low high (part whole v x) (part whole w y)

pub data AllAlike (low high : ℕ) : List Part → List Part → Type 0 where
  none : AllAlike low high [] []
  more : (p q : Part) (ps qs : List Part) → Alike low high p q → AllAlike low high ps qs → AllAlike low high (p ∷ ps) (q ∷ qs)

pub ruleset operations = (single, extends_uses, extends_holds, extends_computed, extends_load, extends_store, extends_copy, extends_moved, extends_asked)

pub extends_if : {low high : ℕ} {A : Type 0} (t : Bool) (a b x y : Action A) → Extends low high a x → Extends low high b y
    → Extends low high (if t then a else b) (if t then x else y)
extends_if true a b x y h k = h
extends_if false a b x y h k = k

pub extends_values : {low high : ℕ} (done : List Value) (ps qs : List Part) → AllAlike low high ps qs
    → Extends low high (values done ps) (values done qs)
extends_values done _ _ none = extends_pure done
extends_values done _ _ (more _ _ ps qs (alike e v w x y h k) all) =
    extends_bind v w _ _ h (λ value. extends_values (done ++ value ∷ []) ps qs all)

module _ {low high : ℕ} (tags : List TagDef) (c d : Calls)
    (calls : (n : ℕ) (at : Place) (vs : List Value) → Extends low high (c n at vs) (d n at vs)) where
  -- ---- what nodes designate

  pub extends_indirection : (p q : Part) (e : TypedExpr) → Alike low high p q
      → Extends low high (indirection tags c p e) (indirection tags d q e)
  extends_indirection _ _ e (alike _ v w x y h k) = search operations

  extends_element_of : (t u : CType) (e : TypedExpr) (v w : Value)
      → Extends low high (element_of tags c t u e v w) (element_of tags d t u e v w)
  extends_element_of t u e v w = search (extends_if, extends_moved)

  extends_element : (a b p q : Part) (e : TypedExpr) → Alike low high a p → Alike low high b q
      → Extends low high (element tags c a b e) (element tags d p q e)
  extends_element _ _ _ _ e (alike ta v w x y h k) (alike tb vb wb xb yb hb kb) =
      search (operations, extends_element_of) depth 12

  pub extends_indexed : (a b p q : Part) (e : TypedExpr) → Alike low high a p → Alike low high b q
      → Extends low high (indexed tags c a b e) (indexed tags d p q e)
  extends_indexed a b p q e h k = extends_bind _ _ _ _ (extends_element a b p q e h k) (λ v. extends_pure _)

  pub extends_selected : (p q : Part) (arrow : Bool) (member : ℕ) (e : TypedExpr) → Alike low high p q
      → Extends low high (selected tags c p arrow member e) (selected tags d q arrow member e)
  extends_selected _ _ arrow member e (alike _ v w x y h k) = search operations depth 12

  pub extends_data_object : (n : ℕ) → Extends low high (data_object tags c n) (data_object tags d n)
  extends_data_object n = search operations

  -- ---- the values of nodes

  pub extends_loaded : (x y : Action Lvalue) (e : TypedExpr) → Extends low high x y
      → Extends low high (loaded tags c x e) (loaded tags d y e)
  extends_loaded x y e h = search operations

  extends_array_pointer : (p q : Part) → Alike low high p q → Extends low high (array_pointer tags c p) (array_pointer tags d q)
  extends_array_pointer _ _ (alike _ v w x y h k) = search operations depth 12

  pub extends_cast : (p q : Part) (e : TypedExpr) → Alike low high p q → Extends low high (cast tags c p e) (cast tags d q e)
  extends_cast _ _ e (alike t v w x y h k) =
      extends_if (is_void e.ctype) _ _ _ _ (extends_bind v w _ _ h (λ value. extends_pure Nothing))
      (extends_if (is_array t.ctype) _ _ _ _ (extends_array_pointer (part t v x) (part t w y) (alike t v w x y h k))
      (extends_if (is_pointer e.ctype && is_integer t.ctype) _ _ _ _ (extends_pure _)
      (extends_bind v w _ _ h (λ value. extends_then _ _ _ _ (extends_uses e.place (value ∷ [])) (extends_pure _)))))

  -- ---- operators

  extends_on_integers : (o : BinaryOperator) (t : CType) (e : TypedExpr) (v w : Value)
      → Extends low high (on_integers tags c o t e v w) (on_integers tags d o t e v w)
  extends_on_integers o t e v w = search operations

  extends_on_pointer : (o : BinaryOperator) (t u : CType) (e : TypedExpr) (v w : Value)
      → Extends low high (on_pointer tags c o t u e v w) (on_pointer tags d o t u e v w)
  extends_on_pointer op.Subtract t u e v w = search operations
  extends_on_pointer _ t u e v w = search operations

  extends_on_pointers : (o : BinaryOperator) (t : CType) (e : TypedExpr) (v w : Value)
      → Extends low high (on_pointers tags c o t e v w) (on_pointers tags d o t e v w)
  extends_on_pointers o t e v w = search operations

  extends_operated : (a b : Bool) (o : BinaryOperator) (t u : CType) (e : TypedExpr) (v w : Value)
      → Extends low high (operated tags c a b o t u e v w) (operated tags d a b o t u e v w)
  extends_operated false false o t u e v w = extends_on_integers o t e v w
  extends_operated true false o t u e v w = extends_on_pointer o t u e v w
  extends_operated false true o t u e v w = extends_on_pointer o u t e w v
  extends_operated true true o t u e v w = extends_on_pointers o t e v w

  extends_both : (o : BinaryOperator) (a b p q : Part) (e : TypedExpr) → Alike low high a p → Alike low high b q
      → Extends low high (both tags c o a b e) (both tags d o p q e)
  extends_both o _ _ _ _ e (alike ta v w x y h k) (alike tb vb wb xb yb hb kb) = search (operations, extends_operated) depth 12

  extends_tested_value : (p q : Part) (e : TypedExpr) → Alike low high p q
      → Extends low high (tested_value tags c p e) (tested_value tags d q e)
  extends_tested_value _ _ e (alike t v w x y h k) = search operations depth 12

  extends_conjunction : (a b p q : Part) (e : TypedExpr) → Alike low high a p → Alike low high b q
      → Extends low high (conjunction tags c a b e) (conjunction tags d p q e)
  extends_conjunction _ b _ q e (alike t v w x y h k) other =
      extends_bind v w _ _ h (λ value. extends_bind _ _ _ _ (extends_holds e.place value) (λ t.
      extends_if t _ _ _ _ (extends_tested_value b q e other) (extends_pure _)))

  extends_disjunction : (a b p q : Part) (e : TypedExpr) → Alike low high a p → Alike low high b q
      → Extends low high (disjunction tags c a b e) (disjunction tags d p q e)
  extends_disjunction _ b _ q e (alike t v w x y h k) other =
      extends_bind v w _ _ h (λ value. extends_bind _ _ _ _ (extends_holds e.place value) (λ t.
      extends_if t _ _ _ _ (extends_pure _) (extends_tested_value b q e other)))

  extends_by : (o : Option BinaryOperator) (a b p q : Part) (e : TypedExpr) → Alike low high a p → Alike low high b q
      → Extends low high (option_map_or (λ by. both tags c by a b e) o (pure Nothing)) (option_map_or (λ by. both tags d by p q e) o (pure Nothing))
  extends_by None a b p q e h k = extends_pure _
  extends_by (Some by) a b p q e h k = extends_both by a b p q e h k

  pub extends_binary : (o : BinaryOp) (a b p q : Part) (e : TypedExpr) → Alike low high a p → Alike low high b q
      → Extends low high (binary_value tags c o a b e) (binary_value tags d o p q e)
  extends_binary binary_op.LogicalAnd a b p q e h k = extends_conjunction a b p q e h k
  extends_binary binary_op.LogicalOr a b p q e h k = extends_disjunction a b p q e h k
  extends_binary o a b p q e h k = extends_by (binary_operator o) a b p q e h k

  pub extends_chosen : (t a b u p q : Part) (e : TypedExpr) → Alike low high t u → Alike low high a p → Alike low high b q
      → Extends low high (chosen tags c t a b e) (chosen tags d u p q e)
  extends_chosen _ _ _ _ _ _ e (alike tt v w x y h k) (alike ta va wa xa ya ha ka) (alike tb vb wb xb yb hb kb) =
      search (operations, extends_if) depth 12

  pub extends_last : (ps qs : List Part) → AllAlike low high ps qs → Extends low high (last_value tags c ps) (last_value tags d qs)
  extends_last _ _ none = extends_pure _
  extends_last _ _ (more _ _ _ _ (alike e v w x y h k) none) = h
  extends_last _ _ (more _ _ _ _ (alike e v w x y h k) (more p q ps qs a all)) =
      extends_bind v w _ _ h (λ value. extends_last (p ∷ ps) (q ∷ qs) (more p q ps qs a all))

  -- ---- assignments

  extends_assigned : (a b p q : Part) (e : TypedExpr) → Alike low high a p → Alike low high b q
      → Extends low high (assigned tags c a b e) (assigned tags d p q e)
  extends_assigned _ _ _ _ e (alike ta va wa xa ya ha ka) (alike tb vb wb xb yb hb kb) = search operations depth 14

  extends_copied : (a b p q : Part) (e : TypedExpr) → Alike low high a p → Alike low high b q
      → Extends low high (copied tags c a b e) (copied tags d p q e)
  extends_copied _ _ _ _ e (alike ta va wa xa ya ha ka) (alike tb vb wb xb yb hb kb) = search operations depth 14

  extends_combined : (o : BinaryOperator) (t u : CType) (e : TypedExpr) (v w : Value)
      → Extends low high (combined tags c o t u e v w) (combined tags d o t u e v w)
  extends_combined o t u e v w = search (operations, extends_if, extends_on_pointer) depth 12

  extends_compound : (o : BinaryOperator) (a b p q : Part) (e : TypedExpr) → Alike low high a p → Alike low high b q
      → Extends low high (compound tags c o a b e) (compound tags d o p q e)
  extends_compound o _ _ _ _ e (alike ta va wa xa ya ha ka) (alike tb vb wb xb yb hb kb) =
      search (operations, extends_combined) depth 18

  extends_plain : (a b p q : Part) (e : TypedExpr) → Alike low high a p → Alike low high b q
      → Extends low high (if is_structure e.ctype then copied tags c a b e else assigned tags c a b e)
      (if is_structure e.ctype then copied tags d p q e else assigned tags d p q e)
  extends_plain a b p q e h k = extends_if (is_structure e.ctype) _ _ _ _ (extends_copied a b p q e h k) (extends_assigned a b p q e h k)

  extends_assigning : (o : Option BinaryOperator) (a b p q : Part) (e : TypedExpr) → Alike low high a p → Alike low high b q
      → Extends low high (option_map_or (λ by. compound tags c by a b e) o (if is_structure e.ctype then copied tags c a b e else assigned tags c a b e))
      (option_map_or (λ by. compound tags d by p q e) o (if is_structure e.ctype then copied tags d p q e else assigned tags d p q e))
  extends_assigning None a b p q e h k = extends_plain a b p q e h k
  extends_assigning (Some by) a b p q e h k = extends_compound by a b p q e h k

  pub extends_assignment : (o : AssignOp) (a b p q : Part) (e : TypedExpr) → Alike low high a p → Alike low high b q
      → Extends low high (assignment tags c o a b e) (assignment tags d o p q e)
  extends_assignment o a b p q e h k = extends_assigning (assign_operator o) a b p q e h k

  extends_stepped : (o : BinaryOperator) (p q : Part) (e : TypedExpr) → Alike low high p q
      → Extends low high (stepped tags c o p e) (stepped tags d o q e)
  extends_stepped o _ _ e (alike t v w x y h k) = search (operations, extends_combined) depth 14

  extends_old_value : (o : BinaryOperator) (p q : Part) (e : TypedExpr) → Alike low high p q
      → Extends low high (old_value tags c o p e) (old_value tags d o q e)
  extends_old_value o p q e h = extends_bind _ _ _ _ (extends_stepped o p q e h) (λ v. extends_pure v.0)

  extends_new_value : (o : BinaryOperator) (p q : Part) (e : TypedExpr) → Alike low high p q
      → Extends low high (new_value tags c o p e) (new_value tags d o q e)
  extends_new_value o p q e h = extends_bind _ _ _ _ (extends_stepped o p q e h) (λ v. extends_pure v.1)

  -- ---- unary operators

  extends_address : (p q : Part) → Alike low high p q → Extends low high (address tags c p) (address tags d q)
  extends_address _ _ (alike t v w x y h k) = search operations

  extends_on_one : (o : UnaryOperator) (p q : Part) (e : TypedExpr) → Alike low high p q
      → Extends low high (on_one tags c o p e) (on_one tags d o q e)
  extends_on_one o _ _ e (alike t v w x y h k) = search operations depth 12

  extends_negation : (p q : Part) (e : TypedExpr) → Alike low high p q → Extends low high (negation tags c p e) (negation tags d q e)
  extends_negation _ _ e (alike t v w x y h k) = search operations depth 12

  extends_unary : (o : Option UnaryOperator) (p q : Part) (e : TypedExpr) → Alike low high p q
      → Extends low high (option_map_or (λ by. on_one tags c by p e) o (pure Nothing)) (option_map_or (λ by. on_one tags d by q e) o (pure Nothing))
  extends_unary None p q e h = extends_pure _
  extends_unary (Some by) p q e h = extends_on_one by p q e h

  pub extends_prefix : (o : PrefixOp) (p q : Part) (e : TypedExpr) → Alike low high p q
      → Extends low high (prefix_value tags c o p e) (prefix_value tags d o q e)
  extends_prefix prefix_op.Increment p q e h = extends_new_value op.Add p q e h
  extends_prefix prefix_op.Decrement p q e h = extends_new_value op.Subtract p q e h
  extends_prefix prefix_op.Address p q e h = extends_address p q h
  extends_prefix prefix_op.Indirection p q e h = extends_loaded _ _ e (extends_indirection p q e h)
  extends_prefix prefix_op.Not p q e h = extends_negation p q e h
  extends_prefix o p q e h = extends_unary (unary_operator o) p q e h

  pub extends_postfix : (o : PostfixOp) (p q : Part) (e : TypedExpr) → Alike low high p q
      → Extends low high (postfix_value tags c o p e) (postfix_value tags d o q e)
  extends_postfix postfix.Increment p q e h = extends_old_value op.Add p q e h
  extends_postfix postfix.Decrement p q e h = extends_old_value op.Subtract p q e h

  -- ---- calls and size expressions

  pub extends_called : (callee : Callee) (ps qs : List Part) (e : TypedExpr) → AllAlike low high ps qs
      → Extends low high (called tags c callee ps e) (called tags d callee qs e)
  extends_called (Function n) ps qs e all =
      extends_bind _ _ _ _ (extends_values [] ps qs all) (λ vs. extends_then _ _ _ _ (extends_uses e.place vs) (calls n e.place vs))
  extends_called (Library f) ps qs e all = extends_bind _ _ _ _ (extends_values [] ps qs all) (λ vs. extends_library e.place f vs)

  extends_unknown : (mode : Mode) (e : TypedExpr) → Extends low high (unknown tags c mode e) (unknown tags d mode e)
  extends_unknown mode e = search operations

  extends_known : (p q : Part) (mode : Mode) (e : TypedExpr) → Alike low high p q
      → Extends low high (known tags c p mode e) (known tags d q mode e)
  extends_known _ _ mode e (alike t v w x y h k) = search (operations, extends_argument) depth 18

  pub extends_sized : (a b p q : Part) (e : TypedExpr) → Alike low high a p → Alike low high b q
      → Extends low high (sized tags c a b e) (sized tags d p q e)
  extends_sized _ _ _ _ e (alike ta va wa xa ya ha ka) (alike tb vb wb xb yb hb kb) =
      extends_if (has_effects ta) _ _ _ _ (extends_unknown _ e) (extends_known (part ta va xa) (part ta wa ya) _ e (alike ta va wa xa ya ha ka))
