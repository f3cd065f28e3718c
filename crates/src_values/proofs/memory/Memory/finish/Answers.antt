use Rattle.std.proofs.Common.{sym, ap, subst, ◌∙◌}
use Rattle.object_meaning.specs.Memory.{IsMemory}
use Rattle.object_meaning.specs.Objects.{is_live}
use Rattle.object_meaning.proofs.Kept.{finish_keeps}
use Rattle.src_values.proofs.memory.Memory.finish.Goals as goal

pub end-requires : goal.end-requires
end-requires c = ap (λ objs. is_live objs c.args.object) c.self.view_is ∙ c.requires

pub invariant_of-self : goal.invariant_of-self
invariant_of-self c = subst IsMemory (sym c.end.ensures) (finish_keeps c.self.inside.objects c.self.invariant c.args.object)
