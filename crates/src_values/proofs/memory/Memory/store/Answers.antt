use Rattle.std.proofs.Common.{refl, set, sym, subst, ◌∙◌, Ok, Err}
use Rattle.src_values.specs.Numbers.{Changes}
use Rattle.src_values.proofs.Storing.{store_done, store_stops}
use Rattle.src_values.proofs.memory.Memory.store.Goals as goal

pub invariant_of-self : goal.invariant_of-self
invariant_of-self c =
    (store_done c.self.inside.objects c.args.self.now c.args.at c.args.width c.args.value c.bytes-count.result c.in-Ok.spot
    c.at_mut-object.result.now c.store_bytes.new.object c.self.invariant c.self.view_is c.bytes-count.ensures.bytes
    c.bytes-count.ensures.some (sym c.reach.ensures ∙ c.in-Ok.is) c.at_mut-object.ensures.value c.store_bytes.ensures).is_memory

pub returns-in-Ok : goal.returns-in-Ok
returns-in-Ok c =
    subst (λ r. Changes r c.args.self.now (set c.self.inside.objects c.in-Ok.spot.object c.store_bytes.new.object) (Ok tt))
    (sym (store_done c.self.inside.objects c.args.self.now c.args.at c.args.width c.args.value c.bytes-count.result c.in-Ok.spot
    c.at_mut-object.result.now c.store_bytes.new.object c.self.invariant c.self.view_is c.bytes-count.ensures.bytes
    c.bytes-count.ensures.some (sym c.reach.ensures ∙ c.in-Ok.is) c.at_mut-object.ensures.value c.store_bytes.ensures).is) refl

pub returns-in-Err : goal.returns-in-Err
returns-in-Err c =
    subst (λ r. Changes r c.args.self.now c.args.self.now (Err c.in-Err.kind))
    (sym (store_stops c.args.self.now c.args.at c.args.width c.args.value c.bytes-count.result c.in-Err.kind c.bytes-count.ensures.bytes
    c.bytes-count.ensures.some (sym c.reach.ensures ∙ c.in-Err.is))) (refl, refl)
