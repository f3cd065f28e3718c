use Rattle.std.proofs.Common.{sym, ◌∙◌}
use Rattle.src_values.proofs.Pointers.{valid_at}
use Rattle.src_values.proofs.memory.Memory.reach_both.Goals as goal

pub holds-requires : goal.holds-requires
holds-requires c = valid_at c.args.self.now c.args.to c.in-At.target c.requires.to (sym c.is_dead.ensures ∙ c.if-is_dead.false) c.in-At.is

pub holds-requires-then-holds : goal.holds-requires-then-holds
holds-requires-then-holds c =
    valid_at c.args.self.now c.args.from c.in-At-from.source c.requires.from (sym c.is_dead-else-is_dead.ensures
    ∙ c.if-is_dead-2.false) c.in-At-from.is
