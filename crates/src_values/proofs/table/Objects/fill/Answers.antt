use Rattle.std.proofs.Common.{◌/◌, sym, ap, ◌∙◌}
use Rattle.object_meaning.specs.Objects.{Object, object_at, size_at, fill}
use Rattle.src_values.proofs.Numbered.{kept_stands, unkept_is, page_is, page_object, filled_table, fill_none}
use Rattle.src_values.proofs.table.Objects.fill.Goals as goal

pub fill-requires-clause-whole : goal.fill-requires-clause-whole
fill-requires-clause-whole c =
    let here = kept_stands c.self.inside.pages.items c.deref.result.now c.args.number c.deref.ensures.value (sym c.is_kept.ensures
    ∙ c.if-is_kept.true) in
    let page = page_is c.self.inside.pages.items (c.args.number / 512) c.index_mut-page.result.now here.page
    c.index_mut-page.ensures.value in
    c.requires ∙ ap (λ objs. size_at objs c.args.number) (sym c.self.view_is)
    ∙ ap (λ (x : Object). x.size) (sym (page_object c.self.inside c.args.number c.index_mut-page.result.now c.self.invariant page))

pub invariant_of-self : goal.invariant_of-self
invariant_of-self c =
    let here = kept_stands c.self.inside.pages.items c.deref.result.now c.args.number c.deref.ensures.value (sym c.is_kept.ensures
    ∙ c.if-is_kept.true) in
    let page = page_is c.self.inside.pages.items (c.args.number / 512) c.index_mut-page.result.now here.page
    c.index_mut-page.ensures.value in
    let done = filled_table c.self.inside c.args.number c.index_mut-page.result.now c.fill.new.self c.args.bytes.now c.self.invariant
    here page c.fill.ensures in
    record { filled = done.filled; count = done.count }

pub returns-then-is_kept : goal.returns-then-is_kept
returns-then-is_kept c =
    let here = kept_stands c.self.inside.pages.items c.deref.result.now c.args.number c.deref.ensures.value (sym c.is_kept.ensures
    ∙ c.if-is_kept.true) in
    let page = page_is c.self.inside.pages.items (c.args.number / 512) c.index_mut-page.result.now here.page
    c.index_mut-page.ensures.value in
    (filled_table c.self.inside c.args.number c.index_mut-page.result.now c.fill.new.self c.args.bytes.now c.self.invariant here page
    c.fill.ensures).is
    ∙ ap (λ objs. fill objs c.args.number c.args.bytes.now) c.self.view_is

pub returns-else-is_kept : goal.returns-else-is_kept
returns-else-is_kept c =
    fill_none c.args.self.now c.args.number c.args.bytes.now
    (ap (λ objs. object_at objs c.args.number) (sym c.self.view_is)
    ∙ unkept_is c.self.inside.pages.items c.deref.result.now c.args.number c.self.invariant.filled c.deref.ensures.value
    (sym c.is_kept.ensures ∙ c.if-is_kept.false)) c.requires
