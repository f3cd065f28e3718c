use Rattle.std.proofs.Common.{sym, ap, ◌∙◌}
use Rattle.host_bytes.proofs.Orders.{number_of, order_is}
use Rattle.host_bytes.proofs.comparing.order.Goals as goal

pub returns-in-Less : goal.returns-in-Less
returns-in-Less c = ap number_of (sym c.in-Less.is ∙ c.cmp.ensures) ∙ order_is c.args.left.now c.args.right.now c.requires

pub returns-in-Equal : goal.returns-in-Equal
returns-in-Equal c = ap number_of (sym c.in-Equal.is ∙ c.cmp.ensures) ∙ order_is c.args.left.now c.args.right.now c.requires

pub returns-in-Greater : goal.returns-in-Greater
returns-in-Greater c = ap number_of (sym c.in-Greater.is ∙ c.cmp.ensures) ∙ order_is c.args.left.now c.args.right.now c.requires
