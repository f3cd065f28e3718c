use Rattle.std.proofs.Common.{length, refl, sym, ap, ◌∙◌}
use Rattle.std.specs.Prelude.{slice_get}
use Rattle.std.specs.Option.{option_map}
use Rattle.std.proofs.lemmas.Option.{slice_get_read, slice_get_past}
use Rattle.elab_scope.specs.Names.{values_of}
use Rattle.elab_scope.proofs.Indexed.{value_at}
use Rattle.elab_scope.proofs.names.Names.get.Goals as goal

pub returns-in-Some : goal.returns-in-Some
returns-in-Some g c =
    let found = c.in-Some.ensures.lookup in
    let there = slice_get_read c.deref.result.now (length c.deref.result.now) c.args.number c.in-Some.entry.now refl found.3.0 found.1 in
    ap (option_map (λ e. e.value)) (sym there ∙ ap (λ es. slice_get es c.args.number) c.deref.ensures.value)
    ∙ sym (value_at c.self.inside.entries.items c.args.number) ∙ ap (λ xs. slice_get (values_of xs) c.args.number) c.self.view_is

pub returns-in-None : goal.returns-in-None
returns-in-None g c =
    let past = slice_get_past c.deref.result.now c.args.number c.in-None.ensures.lookup.3 in
    ap (option_map (λ e. e.value)) (sym past ∙ ap (λ es. slice_get es c.args.number) c.deref.ensures.value)
    ∙ sym (value_at c.self.inside.entries.items c.args.number) ∙ ap (λ xs. slice_get (values_of xs) c.args.number) c.self.view_is
