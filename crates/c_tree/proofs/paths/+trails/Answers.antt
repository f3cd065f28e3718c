use Rattle.std.proofs.Common.{rules}
use Rattle.c_tree.specs.declared.typed.TypedExpr.{the_lemmas}
use Rattle.c_tree.proofs.paths.+trails.Goals as goal

pub returns-then-is_pointer : goal.returns-then-is_pointer
returns-then-is_pointer t c = let d = c.is_decayed.ensures c.args.tags.now in search (rules, the_lemmas, d)

pub returns-else-is_pointer : goal.returns-else-is_pointer
returns-else-is_pointer t c = let d = c.is_decayed-else-is_pointer.ensures c.args.tags.now in search (rules, the_lemmas, d)
