use Rattle.std.proofs.Common.{Ok, Err, sym, ap, ◌∙◌}
use Rattle.object_meaning.specs.Provenance.{part}
use Rattle.object_meaning.specs.declared.values.PtrValue.TheVariants.{At}
use Rattle.src_values.proofs.Bases.{placed}
use Rattle.src_values.proofs.memory.Memory.part_place.Goals as goal

pub returns-in-Ok : goal.returns-in-Ok
returns-in-Ok c =
    ap (λ q. Ok (At q)) c.part.ensures
    ∙ sym (placed c.args.self.now c.args.p c.args.k (part c.args.self.now c.args.k c.args.size) (Ok c.in-Ok.place)
    (sym c.base.ensures.base ∙ c.in-Ok.is))

pub returns-in-Err : goal.returns-in-Err
returns-in-Err c = sym (placed c.args.self.now c.args.p c.args.k (part c.args.self.now c.args.k c.args.size) (Err c.in-Err.kind)
    (sym c.base.ensures.base ∙ c.in-Err.is))
