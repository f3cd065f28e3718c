use Rattle.std.proofs.Common.{refl, sym, subst, ◌∙◌, Ok, Err, arith}
use Rattle.src_values.specs.Numbers.{Changes}
use Rattle.src_values.proofs.Copying.{copied_none, copy_done, copy_stops}
use Rattle.src_values.proofs.memory.Memory.copy.Goals as goal

pub returns-then-count-eq0 : goal.returns-then-count-eq0
returns-then-count-eq0 c =
    subst (λ r. Changes r c.args.self.now c.args.self.now (Ok tt))
    (sym (copied_none c.args.self.now c.args.to c.args.from c.args.count c.requires.to c.requires.from c.if-count-eq0.true
    (sym c.is_dead.ensures ∙ c.if-is_dead.false) (sym c.is_dead-else-is_dead.ensures ∙ c.if-is_dead-2.false))) refl

pub invariant_of-self : goal.invariant_of-self
invariant_of-self c =
    (copy_done c.self.inside.objects c.args.self.now c.args.to c.args.from c.args.count c.in-Ok.spots.0 c.in-Ok.spots.1
    c.copy_cells.new.objects c.self.invariant c.self.view_is
    (omega (arith, c.if-count-eq0.false)) (sym c.reach_both.ensures ∙ c.in-Ok.is) c.copy_cells.ensures).is_memory

pub returns-in-Err : goal.returns-in-Err
returns-in-Err c =
    subst (λ r. Changes r c.args.self.now c.args.self.now (Err c.in-Err.kind))
    (sym (copy_stops c.args.self.now c.args.to c.args.from c.args.count c.in-Err.kind (omega (arith, c.if-count-eq0.false))
    (sym c.reach_both.ensures ∙ c.in-Err.is))) (refl, refl)
