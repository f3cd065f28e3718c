use Rattle.std.proofs.Common.{sym, ap, subst, ◌<◌, length, ◌∙◌}
use Rattle.object_meaning.specs.Objects.{size_at, fill}
use Rattle.src_values.proofs.Filling.{filled_is}
use Rattle.src_values.proofs.pages.Page.fill.Goals as goal

pub returns : goal.returns
returns c =
    filled_is c.self.inside.objects.items c.args.place c.args.bytes.now c.index_mut-filled.result.now c.put_bytes.new.object
    (subst (λ objs. c.args.place < length objs) (sym c.self.view_is) c.requires.there)
    c.index_mut-filled.ensures.value (c.requires.whole ∙ ap (λ objs. size_at objs c.args.place) (sym c.self.view_is))
    (sym c.size-size.ensures.cells ∙ c.size-size.ensures.size) c.put_bytes.ensures
    ∙ ap (λ objs. fill objs c.args.place c.args.bytes.now) c.self.view_is
