use Rattle.std.proofs.Common.{sym, ap, subst, ◌∙◌}
use Rattle.object_meaning.specs.Memory.{IsMemory}
use Rattle.object_meaning.specs.Objects.{size_at, fill}
use Rattle.object_meaning.proofs.Kept.{fill_keeps}
use Rattle.src_values.proofs.Filling.{bytes_are}
use Rattle.src_values.proofs.memory.Memory.fill.Goals as goal

pub fill-requires : goal.fill-requires
fill-requires c = c.requires.whole ∙ ap (λ objs. size_at objs c.args.object) (sym c.self.view_is)

pub invariant_of-self : goal.invariant_of-self
invariant_of-self c =
    subst IsMemory (sym c.fill.ensures)
    (fill_keeps c.self.inside.objects c.self.invariant c.args.object c.args.bytes.now
    (c.requires.whole ∙ ap (λ objs. size_at objs c.args.object) (sym c.self.view_is)) (bytes_are c.args.bytes.now c.type_inv.bytes))

pub returns : goal.returns
returns c = c.fill.ensures ∙ ap (λ objs. fill objs c.args.object c.args.bytes.now) c.self.view_is
