-- What an operator's node is by its typed operands (C11 6.5): the first of its rules that is broken, or the node with each conversion written
-- out. The operands are typed already, and those that are used as values are no arrays any more.
use Rattle.std.specs.Prelude.{Bool, true, false, not, ◌&&◌, ◌||◌, List, [], ◌∷◌, Result}
use Rattle.fc_base.specs.declared.refusals.Place.{Place}
use Rattle.fc_base.specs.declared.refusals.Refusal.{Refusal}
use Rattle.fc_base.specs.declared.rules.Rule.TheVariants.{IncompleteType, BadOperands, NotLvalue, IntPointerCast}
use Rattle.c_layout.specs.declared.types.CType.{CType}
use Rattle.c_layout.specs.declared.tags.TagDef.{TagDef}
use Rattle.c_layout.specs.Types.{unsigned_long, is_array, is_scalar}
use Rattle.c_tree.specs.declared.operators.AssignOp.{AssignOp}
use Rattle.c_tree.specs.declared.operators.BinaryOp.{BinaryOp}
use Rattle.c_tree.specs.declared.operators.PrefixOp.{PrefixOp}
use Rattle.c_tree.specs.declared.operators.PostfixOp.{PostfixOp}
use Rattle.c_tree.specs.declared.typed.TypedExpr.{TypedExpr}
use Rattle.c_tree.specs.declared.typed.TypedKind.{TypedKind}
use Rattle.c_tree.specs.declared.typed.TypedKind.TheVariants as e
use Rattle.c_tree.specs.Typed.{is_place}
use Rattle.elab_meaning.specs.declared.operations.Operation.{Operation}
use Rattle.elab_meaning.specs.declared.operations.Single.{Single}
use Rattle.elab_meaning.specs.Typing.{judged}
use Rattle.elab_meaning.specs.Operators.{Wanted, plain_value, any_place, modifiable_place, wanted, operation, assignment, conditional, stepped, unary, subscript, can_be_cast, crosses}
use Rattle.elab_meaning.specs.Conversions.{has_size, operand, converted}

abbrev pub node : TypedKind → CType → Place → TypedExpr
node kind ctype at = record { kind = kind; ctype = ctype; place = at }

-- whether an expression is what is wanted (6.3.2.1p1)
abbrev pub is_wanted : Wanted → TypedExpr → Bool
is_wanted plain_value x = true
is_wanted any_place x = is_place x
is_wanted modifiable_place x = is_place x && not (is_array x.ctype)

-- 6.5.16: that an array can't be assigned to is the rule of places, whatever the types
abbrev pub assigned_by : Operation → AssignOp → TypedExpr → TypedExpr → Place → Result TypedExpr Refusal
assigned_by o op a b at = judged at (
    (IncompleteType, o.incomplete)
    ∷ (BadOperands, o.refused && not (is_array a.ctype))
    ∷ (NotLvalue, not (is_wanted modifiable_place a)) ∷ [])
    (node (e.Assign op a (converted o.right b)) o.result at)

-- 6.5.15
abbrev pub chosen_by : Operation → TypedExpr → TypedExpr → TypedExpr → Place → Result TypedExpr Refusal
chosen_by o t a b at =
    judged at ((BadOperands, not (is_scalar t.ctype) || o.refused) ∷ []) (node (e.Cond t (converted o.left a) (converted o.right b)) o.result at)

-- 6.5.5 to 6.5.14
abbrev pub computed_by : Operation → BinaryOp → TypedExpr → TypedExpr → Place → Result TypedExpr Refusal
computed_by o op a b at =
    judged at ((IncompleteType, o.incomplete) ∷ (BadOperands, o.refused) ∷ []) (node (e.Binary op (converted o.left a) (converted o.right b)) o.result at)

-- 6.5.3.1 to 6.5.3.3
abbrev pub prefixed_by : Single → PrefixOp → TypedExpr → Place → Result TypedExpr Refusal
prefixed_by o op x at =
    judged at ((IncompleteType, o.incomplete) ∷ (BadOperands, o.refused) ∷ (NotLvalue, not (is_wanted (wanted op) x)) ∷ [])
    (node (e.Prefix op (converted o.operand x)) o.result at)

-- 6.5.2.4
abbrev pub stepped_by : Single → PostfixOp → TypedExpr → Place → Result TypedExpr Refusal
stepped_by o op x at =
    judged at ((IncompleteType, o.incomplete) ∷ (BadOperands, o.refused) ∷ (NotLvalue, not (is_wanted modifiable_place x)) ∷ [])
    (node (e.Postfix op x) o.result at)

-- 6.5.2.1
abbrev pub indexed_by : Single → TypedExpr → TypedExpr → Place → Result TypedExpr Refusal
indexed_by o a b at = judged at ((IncompleteType, o.incomplete) ∷ (BadOperands, o.refused) ∷ []) (node (e.Index a b) o.result at)

module _ (tags : List TagDef) where
  abbrev pub assign_node : AssignOp → TypedExpr → TypedExpr → Place → Result TypedExpr Refusal
  assign_node op a b at = assigned_by (assignment tags op (operand tags a) (operand tags b)) op a b at

  abbrev pub cond_node : TypedExpr → TypedExpr → TypedExpr → Place → Result TypedExpr Refusal
  cond_node t a b at = chosen_by (conditional (operand tags a) (operand tags b)) t a b at

  abbrev pub binary_node : BinaryOp → TypedExpr → TypedExpr → Place → Result TypedExpr Refusal
  binary_node op a b at = computed_by (operation tags op (operand tags a) (operand tags b)) op a b at

  -- 6.5.4
  abbrev pub cast_node : CType → TypedExpr → Place → Result TypedExpr Refusal
  cast_node t x at =
      judged at ((BadOperands, not (can_be_cast x.ctype t)) ∷ (IntPointerCast, crosses (operand tags x) t) ∷ []) (node (e.Cast x false) t at)

  abbrev pub prefix_node : PrefixOp → TypedExpr → Place → Result TypedExpr Refusal
  prefix_node op x at = prefixed_by (unary tags op x.ctype) op x at

  abbrev pub postfix_node : PostfixOp → TypedExpr → Place → Result TypedExpr Refusal
  postfix_node op x at = stepped_by (stepped tags x.ctype) op x at

  -- 6.5.3.4: the operand is neither converted nor evaluated
  abbrev pub sizeof_node : TypedExpr → Place → Result TypedExpr Refusal
  sizeof_node x at = judged at ((IncompleteType, not (has_size tags x.ctype)) ∷ []) (node (e.SizeofExpr x) unsigned_long at)

  abbrev pub sizeof_type_node : CType → Place → Result TypedExpr Refusal
  sizeof_type_node t at = judged at ((IncompleteType, not (has_size tags t)) ∷ []) (node (e.SizeofType t) unsigned_long at)

  abbrev pub index_node : TypedExpr → TypedExpr → Place → Result TypedExpr Refusal
  index_node a b at = indexed_by (subscript tags (operand tags a) (operand tags b)) a b at
