use Rattle.std.proofs.Common.{sym}
use Rattle.c_macros.proofs.DirectiveAnswers.{first_open, none_open, some_group, no_group}
use Rattle.c_macros.proofs.expansion.finish.Goals as goal

pub returns-then-is_empty : goal.returns-then-is_empty
returns-then-is_empty c = none_open c.args.groups.now (no_group c.args.groups.now (sym c.if-is_empty.ensures))

pub returns-else-is_empty : goal.returns-else-is_empty
returns-else-is_empty c = rw c.refused.ensures (first_open c.args.groups.now _ (some_group c.args.groups.now (sym c.if-is_empty.ensures)))
