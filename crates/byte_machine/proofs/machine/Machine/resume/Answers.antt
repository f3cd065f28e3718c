-- The caller goes on behind its call, with the result in the call's register.
use Rattle.std.proofs.Common.{◌-◌, sym, ◌∙◌}
use Rattle.byte_machine.proofs.Calling.{resumes_in, result_in, resumed_runnable, resumed_view, weight_read}
use Rattle.byte_machine.proofs.machine.Machine.resume.Goals as goal

pub set-requires : goal.set-requires
set-requires c =
    result_in c.self.inside c.result_register-to.result c.at-at.result c.index-2.result.now c.leave.new.self c.self.invariant
    (sym c.leave.ensures.waited ∙ c.if-not-leave.false) c.leave.ensures.state c.at-at.ensures c.index-2.ensures c.result_register-to.ensures

pub invariant_of-self-2 : goal.invariant_of-self-2
invariant_of-self-2 c =
    let m = c.self.inside in
    let r = resumes_in m c.args.value c.result_register-to.result c.at-at.result c.index-2.result.now c.leave.new.self c.set.new.self c.stand_at.new.self
    c.self.invariant (sym c.leave.ensures.waited ∙ c.if-not-leave.false) c.leave.ensures.state c.at-at.ensures c.index-2.ensures
    c.result_register-to.ensures c.set.ensures c.stand_at.ensures in
    resumed_runnable m c.args.value _ r.caller r.callers c.stand_at.new.self c.self.invariant r.waiting r.is
    (weight_read m c.function.result c.index.result.now c.self.invariant c.function.ensures c.index.ensures)

pub returns-clause-state : goal.returns-clause-state
returns-clause-state c =
    let m = c.self.inside in
    let r = resumes_in m c.args.value c.result_register-to.result c.at-at.result c.index-2.result.now c.leave.new.self c.set.new.self c.stand_at.new.self
    c.self.invariant (sym c.leave.ensures.waited ∙ c.if-not-leave.false) c.leave.ensures.state c.at-at.ensures c.index-2.ensures
    c.result_register-to.ensures c.set.ensures c.stand_at.ensures in
    rw (← c.self.view_is) (resumed_view m c.args.value (m.weights - c.index.result.now.weight) c.stand_at.new.self r)
