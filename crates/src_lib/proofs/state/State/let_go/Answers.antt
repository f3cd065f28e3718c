use Rattle.std.proofs.Common.{length, not, sym, subst, ap, ◌∙◌}
use Rattle.std.specs.Prelude.{◌==◌}
use Rattle.std.proofs.Math.ListN.{length-set}
use Rattle.object_meaning.specs.Objects.{ended}
use Rattle.src_lib.specs.Owners.{AreBelow}
use Rattle.src_lib.proofs.Owning.{kept_below}
use Rattle.src_lib.proofs.state.State.let_go.Goals as goal

pub invariant_of-self : goal.invariant_of-self
invariant_of-self c =
    subst (λ n. AreBelow n c.remove.new.self)
    (sym (ap length c.finish.ensures ∙ length-set c.self.inside.memory c.args.object ended))
    (subst (AreBelow (length c.self.inside.memory)) (sym c.remove.ensures)
    (kept_below (length c.self.inside.memory) (λ block. not (block.1 == c.args.object)) c.self.inside.blocks c.self.invariant))
