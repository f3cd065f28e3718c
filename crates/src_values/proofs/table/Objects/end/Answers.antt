use Rattle.std.proofs.Common.{◌<◌, ◌/◌, ◌%◌, length, set, sym, ap, subst, ◌∙◌, arith}
use Rattle.object_meaning.specs.Objects.{ended, is_live, finish}
use Rattle.src_values.specs.Pages.{in_pages}
use Rattle.src_values.specs.Table.{IsTable}
use Rattle.src_values.proofs.Numbered.{stands, page_is, changed}
use Rattle.std.specs.Vec.{with_item}
use Rattle.src_values.proofs.table.Objects.end.Goals as goal

pub index_mut-page-requires : goal.index_mut-page-requires
index_mut-page-requires c =
    let here = stands c.self.inside.pages.items c.args.number c.self.invariant.filled
    (ap (λ objs. is_live objs c.args.number) c.self.view_is ∙ c.requires) in
    let page = here.page in
    let ok = c.self.inside.pages.ok.0 in
    omega (arith, page, ok)

pub end-requires : goal.end-requires
end-requires c =
    let here = stands c.self.inside.pages.items c.args.number c.self.invariant.filled
    (ap (λ objs. is_live objs c.args.number) c.self.view_is ∙ c.requires) in
    subst (λ p. c.args.number % 512 < length p) (sym
    (page_is c.self.inside.pages.items (c.args.number / 512) c.index_mut-page.result.now here.page c.index_mut-page.ensures.value))
    here.place

pub invariant_of-self : goal.invariant_of-self
invariant_of-self c =
    let here = stands c.self.inside.pages.items c.args.number c.self.invariant.filled
    (ap (λ objs. is_live objs c.args.number) c.self.view_is ∙ c.requires) in
    let done = changed c.self.inside c.args.number c.index_mut-page.result.now ended c.self.invariant here
    (page_is c.self.inside.pages.items (c.args.number / 512) c.index_mut-page.result.now here.page c.index_mut-page.ensures.value) in
    subst (λ p. IsTable (record { pages = with_item c.self.inside.pages (c.args.number / 512) p; count = c.self.inside.count }))
    (sym c.end.ensures)
    (record { filled = done.filled; count = done.count })

pub returns : goal.returns
returns c =
    let here = stands c.self.inside.pages.items c.args.number c.self.invariant.filled
    (ap (λ objs. is_live objs c.args.number) c.self.view_is ∙ c.requires) in
    let done = changed c.self.inside c.args.number c.index_mut-page.result.now ended c.self.invariant here
    (page_is c.self.inside.pages.items (c.args.number / 512) c.index_mut-page.result.now here.page c.index_mut-page.ensures.value) in
    c.let_go.ensures ∙ ap (λ p. in_pages 512 (set c.self.inside.pages.items (c.args.number / 512) p)) c.end.ensures
    ∙ done.is ∙ ap (λ objs. finish objs c.args.number) c.self.view_is
