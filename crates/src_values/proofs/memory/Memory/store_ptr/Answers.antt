use Rattle.std.proofs.Common.{refl, set, sym, subst, ◌∙◌, Ok, Err}
use Rattle.src_values.specs.Numbers.{Changes}
use Rattle.src_values.proofs.Storing.{store_pointer_done, store_pointer_stops}
use Rattle.src_values.proofs.memory.Memory.store_ptr.Goals as goal

pub invariant_of-self : goal.invariant_of-self
invariant_of-self c =
    (store_pointer_done c.self.inside.objects c.args.self.now c.args.at c.args.value c.in-Ok.spot c.at_mut-object.result.now
    c.store_place.new.object c.self.invariant c.self.view_is c.requires.pointer (sym c.reach.ensures
    ∙ c.in-Ok.is) c.at_mut-object.ensures.value c.store_place.ensures).is_memory

pub returns-in-Ok : goal.returns-in-Ok
returns-in-Ok c =
    subst (λ r. Changes r c.args.self.now (set c.self.inside.objects c.in-Ok.spot.object c.store_place.new.object) (Ok tt))
    (sym (store_pointer_done c.self.inside.objects c.args.self.now c.args.at c.args.value c.in-Ok.spot
    c.at_mut-object.result.now c.store_place.new.object c.self.invariant c.self.view_is c.requires.pointer (sym c.reach.ensures
    ∙ c.in-Ok.is) c.at_mut-object.ensures.value c.store_place.ensures).is) refl

pub returns-in-Err : goal.returns-in-Err
returns-in-Err c =
    subst (λ r. Changes r c.args.self.now c.args.self.now (Err c.in-Err.kind))
    (sym (store_pointer_stops c.args.self.now c.args.at c.args.value c.in-Err.kind (sym c.reach.ensures ∙ c.in-Err.is))) (refl, refl)
