use Rattle.std.proofs.Common.{◌+◌, ◌*◌}
use Rattle.tree_text.proofs.expressions.+shown.Given as goal

abbrev pub decreases-push_expr : goal.decreases-push_expr
decreases-push_expr l = 5 * l.levels

abbrev pub decreases-push_abstract : goal.decreases-push_abstract
decreases-push_abstract l = 5 * l.levels + 1

abbrev pub decreases-push_type : goal.decreases-push_type
decreases-push_type l = 5 * l.levels + 2

abbrev pub decreases-push_operand : goal.decreases-push_operand
decreases-push_operand l = 5 * l.levels + 1

abbrev pub decreases-push_pair : goal.decreases-push_pair
decreases-push_pair l = 5 * l.levels + 2

abbrev pub decreases-push_list : goal.decreases-push_list
decreases-push_list l = 5 * l.levels + 2

abbrev pub decreases-push_cast : goal.decreases-push_cast
decreases-push_cast l = 5 * l.levels + 3

abbrev pub decreases-push_call : goal.decreases-push_call
decreases-push_call l = 5 * l.levels + 3

abbrev pub decreases-push_operands : goal.decreases-push_operands
decreases-push_operands l = 5 * l.levels + 4
