use Rattle.std.proofs.Common.{Ok, Err, sym, ap, ◌∙◌}
use Rattle.object_meaning.specs.Provenance.{trail}
use Rattle.object_meaning.specs.declared.values.PtrValue.TheVariants.{At}
use Rattle.src_values.proofs.Bases.{placed}
use Rattle.src_values.proofs.memory.Memory.trail_place.Goals as goal

pub returns-in-Ok : goal.returns-in-Ok
returns-in-Ok c =
    ap (λ q. Ok (At q)) c.trail.ensures
    ∙ sym (placed c.args.self.now c.args.p c.args.k (trail c.args.self.now c.args.k) (Ok c.in-Ok.place) (sym c.base.ensures.base
    ∙ c.in-Ok.is))

pub returns-in-Err : goal.returns-in-Err
returns-in-Err c = sym (placed c.args.self.now c.args.p c.args.k (trail c.args.self.now c.args.k) (Err c.in-Err.kind)
    (sym c.base.ensures.base ∙ c.in-Err.is))
