use Rattle.std.proofs.Common.{◌<◌, ◌/◌, ◌%◌, length, sym, ap, subst, ◌∙◌, arith}
use Rattle.object_meaning.specs.Objects.{object_at, is_live}
use Rattle.src_values.proofs.Numbered.{by_number, stands, page_is}
use Rattle.src_values.proofs.table.Objects.at.Goals as goal

pub index-requires : goal.index-requires
index-requires c =
    let here = stands c.self.inside.pages.items c.args.number c.self.invariant.filled
    (ap (λ objs. is_live objs c.args.number) c.self.view_is ∙ c.requires) in
    let page = here.page in
    let ok = c.self.inside.pages.ok.0 in
    omega (arith, page, ok)

pub at-requires : goal.at-requires
at-requires c =
    let here = stands c.self.inside.pages.items c.args.number c.self.invariant.filled
    (ap (λ objs. is_live objs c.args.number) c.self.view_is ∙ c.requires) in
    subst (λ p. c.args.number % 512 < length p) (sym
    (page_is c.self.inside.pages.items (c.args.number / 512) c.index.result.now here.page c.index.ensures)) here.place

pub returns : goal.returns
returns c =
    let here = stands c.self.inside.pages.items c.args.number c.self.invariant.filled
    (ap (λ objs. is_live objs c.args.number) c.self.view_is ∙ c.requires) in
    c.at.ensures ∙ ap (λ p. object_at p (c.args.number % 512))
    (page_is c.self.inside.pages.items (c.args.number / 512) c.index.result.now here.page c.index.ensures)
    ∙ sym (by_number c.self.inside.pages.items c.args.number c.self.invariant.filled)
    ∙ ap (λ objs. object_at objs c.args.number) c.self.view_is
