use Rattle.std.proofs.Common.{◌<◌, false, take, drop, sym, ap, subst, ◌∙◌}
use Rattle.fc_base.specs.Widths.{width_bytes}
use Rattle.object_meaning.specs.Objects.{Object}
use Rattle.src_values.specs.Numbers.{number_in}
use Rattle.src_values.specs.Spots.{spot_for}
use Rattle.src_values.proofs.Spots.{spot_tells, load_is, load_stops, found}
use Rattle.src_values.proofs.memory.Memory.load.Goals as goal

pub returns-in-Ok : goal.returns-in-Ok
returns-in-Ok c =
    let some = subst (λ n. 0 < n) c.bytes-count.ensures.bytes c.bytes-count.ensures.some in
    let at = ap (λ n. spot_for c.args.self.now false c.args.at n) (sym c.bytes-count.ensures.bytes) ∙ sym c.reach.ensures ∙ c.in-Ok.is in
    let spot = spot_tells c.args.self.now false c.args.at (width_bytes c.args.width) c.in-Ok.spot at in
    let object = found c.self.inside.objects c.args.self.now c.in-Ok.spot.object c.at.result.now c.self.view_is c.at.ensures in
    c.number_at.ensures.number
    ∙ ap (λ n. number_in (take n (drop c.in-Ok.spot.start c.at.result.now.cells))) c.bytes-count.ensures.bytes
    ∙ ap (λ (x : Object). number_in (take (width_bytes c.args.width) (drop c.in-Ok.spot.start x.cells))) object
    ∙ sym (load_is c.args.self.now c.args.at c.args.width c.in-Ok.spot some at)

pub returns-in-Err : goal.returns-in-Err
returns-in-Err c =
    let some = subst (λ n. 0 < n) c.bytes-count.ensures.bytes c.bytes-count.ensures.some in
    let at = ap (λ n. spot_for c.args.self.now false c.args.at n) (sym c.bytes-count.ensures.bytes) ∙ sym c.reach.ensures ∙ c.in-Err.is in
    sym (load_stops c.args.self.now c.args.at c.args.width c.in-Err.kind some at)
