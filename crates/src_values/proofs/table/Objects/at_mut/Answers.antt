use Rattle.std.proofs.Common.{◌<◌, ◌/◌, ◌%◌, length, set, refl, sym, ap, subst, ◌∙◌, arith}
use Rattle.object_meaning.specs.Objects.{object_at, is_live}
use Rattle.src_values.proofs.Numbered.{by_number, stands, page_is, changed}
use Rattle.src_values.proofs.table.Objects.at_mut.Goals as goal

pub index_mut-page-requires : goal.index_mut-page-requires
index_mut-page-requires c =
    let here = stands c.self.inside.pages.items c.args.number c.self.invariant.filled
    (ap (λ objs. is_live objs c.args.number) c.self.view_is ∙ c.requires) in
    let page = here.page in
    let ok = c.self.inside.pages.ok.0 in
    omega (arith, page, ok)

pub at_mut-requires : goal.at_mut-requires
at_mut-requires c =
    let here = stands c.self.inside.pages.items c.args.number c.self.invariant.filled
    (ap (λ objs. is_live objs c.args.number) c.self.view_is ∙ c.requires) in
    subst (λ p. c.args.number % 512 < length p) (sym
    (page_is c.self.inside.pages.items (c.args.number / 512) c.index_mut-page.result.now here.page c.index_mut-page.ensures.value))
    here.place

pub invariant_of-self-lent : goal.invariant_of-self-lent
invariant_of-self-lent c =
    let here = stands c.self.inside.pages.items c.args.number c.self.invariant.filled
    (ap (λ objs. is_live objs c.args.number) c.self.view_is ∙ c.requires) in
    λ w. (let done = changed c.self.inside c.args.number c.index_mut-page.result.now w c.self.invariant here
    (page_is c.self.inside.pages.items (c.args.number / 512) c.index_mut-page.result.now here.page c.index_mut-page.ensures.value) in
    record { filled = done.filled; count = done.count })

pub returns : goal.returns
returns c =
    let here = stands c.self.inside.pages.items c.args.number c.self.invariant.filled
    (ap (λ objs. is_live objs c.args.number) c.self.view_is ∙ c.requires) in
    let page = page_is c.self.inside.pages.items (c.args.number / 512) c.index_mut-page.result.now here.page
    c.index_mut-page.ensures.value in
    let value = c.at_mut.ensures.value ∙ ap (λ p. object_at p (c.args.number % 512)) page
    ∙ sym (by_number c.self.inside.pages.items c.args.number c.self.invariant.filled)
    ∙ ap (λ objs. object_at objs c.args.number) c.self.view_is in (
      (
        refl,
        λ w. (changed c.self.inside c.args.number c.index_mut-page.result.now w c.self.invariant here page).is
            ∙ ap (λ objs. set objs c.args.number w) c.self.view_is,
      ),
      record { lends = tt; value = value },
    )
