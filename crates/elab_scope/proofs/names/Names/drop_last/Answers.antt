use Rattle.std.proofs.Common.{sym, subst}
use Rattle.elab_scope.specs.Entries.{IsIndexed}
use Rattle.elab_scope.specs.Numbers.{HasRoom, SetsNumber}
use Rattle.elab_scope.proofs.Indexed.{has_room, popped}
use Rattle.elab_scope.proofs.names.Names.drop_last.Goals as goal

pub set-requires : goal.set-requires
set-requires g c =
    let before = subst (λ es. IsIndexed es c.self.inside.last) c.in-Some.ensures.items c.self.invariant in
    subst (HasRoom c.self.inside.last) (sym c.bytes.ensures) (has_room c.pop.new.self.items c.self.inside.last c.in-Some.entry before)

pub invariant_of-self : goal.invariant_of-self
invariant_of-self g c =
    let before = subst (λ es. IsIndexed es c.self.inside.last) c.in-Some.ensures.items c.self.invariant in
    popped c.pop.new.self.items c.self.inside.last c.set.new.self c.in-Some.entry before
    (subst (λ n. SetsNumber c.self.inside.last c.set.new.self n c.in-Some.entry.hidden) c.bytes.ensures c.set.ensures)
