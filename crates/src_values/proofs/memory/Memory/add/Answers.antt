use Rattle.std.proofs.Common.{sym, ap, subst, ◌∙◌}
use Rattle.object_meaning.specs.Memory.{IsMemory}
use Rattle.object_meaning.specs.Objects.{add}
use Rattle.object_meaning.proofs.Kept.{add_keeps}
use Rattle.src_values.proofs.memory.Memory.add.Goals as goal

pub invariant_of-self-2 : goal.invariant_of-self-2
invariant_of-self-2 c =
    subst IsMemory (sym (c.in_ok-push.ensures.pushed ∙ ap (add c.self.inside.objects) c.in_ok-object.ensures))
    (add_keeps c.self.inside.objects c.self.invariant c.args.size c.args.writable c.args.zeroed)
