use Rattle.std.proofs.Common.{sym, subst}
use Rattle.src_values.specs.Bracket.{BoundsTrueSize}
use Rattle.src_values.proofs.memory.Memory.size_of.Goals as goal

pub returns-clause-bracket : goal.returns-clause-bracket
returns-clause-bracket c =
    subst (BoundsTrueSize c.args.self.now c.args.mode c.args.p) (sym c.tagged_size.ensures)
    (λ place written. c.sizes_law.ensures c.args.self.now c.args.p c.requires.pointer place c.args.mode written)
