use Rattle.std.proofs.Common.{Some, [], ◌∷◌, ◌++◌, sym, ap, subst, ◌∙◌}
use Rattle.elab_scope.specs.declared.names.Entry.{Entry}
use Rattle.elab_scope.specs.Entries.{IsIndexed}
use Rattle.elab_scope.specs.Numbers.{number_at, SetsNumber}
use Rattle.elab_scope.proofs.Indexed.{kept, pushed}
use Rattle.elab_scope.proofs.names.Names.push.Goals as goal

pub invariant_of-self-2 : goal.invariant_of-self-2
invariant_of-self-2 g c =
    let entry : Entry g.row.T.Denot = record { name = c.args.name; value = c.args.value; hidden = c.get-hidden.result } in
    let roomy = kept c.self.inside.entries.items c.self.inside.last c.make_room.new.self c.self.invariant c.in_ok-make_room.ensures.same in
    let number = ap Some (c.in-Ok.ensures.1 ∙ c.len.ensures ∙ c.self.inside.entries.ok.0) in
    let sets = subst (λ name. SetsNumber c.make_room.new.self c.set.new.self name (Some c.in-Ok.number)) c.bytes-3.ensures c.set.ensures in
    subst (λ es. IsIndexed es c.set.new.self) (sym (c.push_reserved.ensures.items ∙ ap (λ es. es ++ entry ∷ []) c.in_ok-reserve.ensures.items))
    (pushed c.self.inside.entries.items c.make_room.new.self c.set.new.self entry roomy
    (c.get-hidden.ensures ∙ ap (number_at c.make_room.new.self) c.bytes-2.ensures)
    (subst (SetsNumber c.make_room.new.self c.set.new.self c.args.name) number sets))
