use Rattle.std.proofs.Common.{ap, ◌∙◌}
use Rattle.object_meaning.specs.Objects.{Object, object_at}
use Rattle.src_values.proofs.Numbered.{read_at, read_past}
use Rattle.src_values.proofs.table.Objects.is_writable.Goals as goal

pub returns-in-Some : goal.returns-in-Some
returns-in-Some c =
    c.is_writable.ensures
    ∙ ap (λ (x : Object). x.writable) (read_at c.self.inside.pages.items c.deref.result.now c.args.number c.in-Some.page.now
    c.self.invariant.filled c.deref.ensures.value (c.in-Some.ensures.lookup.0, c.in-Some.ensures.lookup.1))
    ∙ ap (λ objs. (object_at objs c.args.number).writable) c.self.view_is

pub returns-in-None : goal.returns-in-None
returns-in-None c =
    ap (λ (x : Object). x.writable) (read_past c.self.inside.pages.items c.deref.result.now c.args.number c.self.invariant.filled
    c.deref.ensures.value c.in-None.ensures.lookup.0)
    ∙ ap (λ objs. (object_at objs c.args.number).writable) c.self.view_is
