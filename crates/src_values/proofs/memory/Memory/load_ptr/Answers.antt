use Rattle.std.proofs.Common.{false, take, drop, sym, ap, subst, ◌∙◌}
use Rattle.std.specs.Prelude.{IfOk}
use Rattle.object_meaning.specs.Cells.{pointer_in}
use Rattle.object_meaning.specs.Memory.{IsMemory}
use Rattle.object_meaning.specs.Objects.{Object}
use Rattle.object_meaning.specs.Provenance.{IsPointer}
use Rattle.object_meaning.proofs.Kept.{load_pointer_is as loaded_is}
use Rattle.src_values.proofs.Spots.{spot_tells, load_pointer_is, load_pointer_stops, found}
use Rattle.src_values.proofs.memory.Memory.load_ptr.Goals as goal

pub returns-in-Ok-clause-value : goal.returns-in-Ok-clause-value
returns-in-Ok-clause-value c =
    let at = sym c.reach.ensures ∙ c.in-Ok.is in
    let spot = spot_tells c.args.self.now false c.args.at 8 c.in-Ok.spot at in
    let object = found c.self.inside.objects c.args.self.now c.in-Ok.spot.object c.at.result.now c.self.view_is c.at.ensures in
    c.pointer_at.ensures
    ∙ ap (λ (x : Object). pointer_in (take 8 (drop c.in-Ok.spot.start x.cells))) object
    ∙ sym (load_pointer_is c.args.self.now c.args.at c.in-Ok.spot at)

pub returns-in-Ok-clause-pointer : goal.returns-in-Ok-clause-pointer
returns-in-Ok-clause-pointer c =
    let at = sym c.reach.ensures ∙ c.in-Ok.is in
    let spot = spot_tells c.args.self.now false c.args.at 8 c.in-Ok.spot at in
    let object = found c.self.inside.objects c.args.self.now c.in-Ok.spot.object c.at.result.now c.self.view_is c.at.ensures in
    subst (λ r. IfOk r (IsPointer c.args.self.now))
    (load_pointer_is c.args.self.now c.args.at c.in-Ok.spot at
    ∙ sym (c.pointer_at.ensures ∙ ap (λ (x : Object). pointer_in (take 8 (drop c.in-Ok.spot.start x.cells))) object))
    (loaded_is c.args.self.now (subst IsMemory c.self.view_is c.self.invariant) c.args.at)

pub returns-in-Err-clause-value : goal.returns-in-Err-clause-value
returns-in-Err-clause-value c = sym (load_pointer_stops c.args.self.now c.args.at c.in-Err.kind (sym c.reach.ensures ∙ c.in-Err.is))
