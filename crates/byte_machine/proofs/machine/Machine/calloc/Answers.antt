-- Zero bytes by the product, or a null pointer past 64 bits.
use Rattle.std.proofs.Common.{◌≡◌, ◌*◌, ◌^◌, false, nat_lt, refl, ◌∙◌, ap, arith}
use Rattle.std.proofs.lemmas.Bool.{le-ltb}
use Rattle.bm_isa.specs.declared.instructions.Instr.TheVariants as instr
use Rattle.c_library.specs.declared.functions.LibFn.TheVariants as calls
use Rattle.byte_machine.specs.State.{slot_value, clearing, giving}
use Rattle.byte_machine.specs.Opening.{begun}
use Rattle.byte_machine.proofs.Steps.{went_on, call_is}
use Rattle.byte_machine.proofs.Heaped.{clearing_runs, clears_nothing}
use Rattle.byte_machine.proofs.machine.Machine.calloc.Goals as goal

pub returns-in-Some-clause-performed : goal.returns-in-Some-clause-performed
returns-in-Some-clause-performed c = λ all.
    let old = c.args.self.now in
    let k = old.core in
    let a = slot_value k 0 in
    let b = slot_value k 1 in
    let size = c.in-Some.size in
    let product : size ≡ a * b = c.in-Some.ensures.1 ∙ ap (λ x. x * c.slot.result) c.slot-count.ensures ∙ ap (λ y. a * y) c.slot.ensures in
    went_on old c.clear.new.self c.clear.result (instr.Host c.args.to c.requires.call.number c.requires.call.count) (clearing c.args.to (a * b) k)
    all c.requires.running c.requires.call.stands c.clear.ensures.step
    (c.clear.ensures.state ∙ ap (λ n. record old { core = clearing c.args.to n k }) product) (clearing_runs c.args.to (a * b) k)
    (λ input. call_is old calls.Calloc c.args.checked c.args.to c.requires.call (begun k input))

pub returns-in-None-clause-performed : goal.returns-in-None-clause-performed
returns-in-None-clause-performed c = λ all.
    let old = c.args.self.now in
    let k = old.core in
    let a = slot_value k 0 in
    let b = slot_value k 1 in
    let same : c.slot-count.result * c.slot.result ≡ a * b = ap (λ x. x * c.slot.result) c.slot-count.ensures ∙ ap (λ y. a * y) c.slot.ensures in
    let large = c.in-None.ensures in
    let test : nat_lt (a * b) (2 ^ 64) ≡ false = le-ltb (a * b) (2 ^ 64) (omega (arith, large, same)) in
    went_on old c.give.new.self c.give.result (instr.Host c.args.to c.requires.call.number c.requires.call.count) (giving c.args.to 0 k)
    all c.requires.running c.requires.call.stands c.give.ensures.step c.give.ensures.state refl
    (λ input. call_is old calls.Calloc c.args.checked c.args.to c.requires.call (begun k input)
    ∙ ap (λ core. begun core input) (clears_nothing c.args.to (a * b) k test))
