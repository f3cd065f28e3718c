-- A new block, the live block becomes another, or there is none.
use Rattle.std.proofs.Common.{◌≡◌, ℕ, Bool, cond, min, Option, None, Some, refl, sym, ◌∙◌, ap}
use Rattle.fc_base.specs.declared.levels.End.TheVariants as ends
use Rattle.bm_isa.specs.declared.instructions.Instr.TheVariants as instr
use Rattle.bm_heap.specs.Heaps.{place_for}
use Rattle.c_library.specs.declared.functions.LibFn.TheVariants as calls
use Rattle.byte_machine.specs.State.{slot_value, allocating, resized, replaced, block_in}
use Rattle.byte_machine.specs.Opening.{begun}
use Rattle.byte_machine.proofs.Steps.{went_on, ended_there, is_zero, is_not_zero, call_is}
use Rattle.byte_machine.proofs.Heaped.{allocated, replaced_runs}
use Rattle.byte_machine.proofs.machine.Machine.realloc.Goals as goal

pub returns-then-address-eq0-clause-performed : goal.returns-then-address-eq0-clause-performed
returns-then-address-eq0-clause-performed c = λ all.
    let old = c.args.self.now in
    let k = old.core in
    let a = slot_value k 0 in
    let n = slot_value k 1 in
    let test = is_zero _ _ c.slot-address.ensures c.if-address-eq0.true in
    let done = allocated old _ _ c.args.to n _ _ c.slot-size.ensures c.allocate-new.ensures.address c.allocate-new.ensures.state
    c.give.ensures.state in
    went_on old c.give.new.self c.give.result (instr.Host c.args.to c.requires.call.number c.requires.call.count) (allocating c.args.to n k)
    all c.requires.running c.requires.call.stands c.give.ensures.step done refl
    (λ input. call_is old calls.Realloc c.args.checked c.args.to c.requires.call (begun k input)
    ∙ ap (λ (t : Bool). begun (cond t (allocating c.args.to n k) (resized c.args.to a n (block_in k.heap a) k)) input) test)

pub returns-in-Some-clause-performed : goal.returns-in-Some-clause-performed
returns-in-Some-clause-performed c = λ all.
    let old = c.args.self.now in
    let k = old.core in
    let a = slot_value k 0 in
    let n = slot_value k 1 in
    let size = c.in-Some.old in
    let test = is_not_zero _ _ c.slot-address.ensures c.if-address-eq0.false in
    let found : block_in k.heap a ≡ Some size =
    ap (block_in k.heap) (sym c.slot-address.ensures) ∙ (sym c.block.ensures.size ∙ c.in-Some.is) in
    let done : c.resize.new.self ≡ record old { core = replaced c.args.to a (min size n) n (place_for n k.heap) k } =
    c.resize.ensures.state
    ∙ ap (λ a. record old { core = replaced c.args.to a (min size c.slot-size.result) c.slot-size.result (place_for c.slot-size.result k.heap) k })
    c.slot-address.ensures
    ∙ ap (λ n. record old { core = replaced c.args.to a (min size n) n (place_for n k.heap) k }) c.slot-size.ensures in
    went_on old c.resize.new.self c.resize.result (instr.Host c.args.to c.requires.call.number c.requires.call.count)
    (replaced c.args.to a (min size n) n (place_for n k.heap) k)
    all c.requires.running c.requires.call.stands c.resize.ensures.step done (replaced_runs c.args.to a (min size n) n (place_for n k.heap) k)
    (λ input. call_is old calls.Realloc c.args.checked c.args.to c.requires.call (begun k input)
    ∙ ap (λ (t : Bool). begun (cond t (allocating c.args.to n k) (resized c.args.to a n (block_in k.heap a) k)) input) test
    ∙ ap (λ (o : Option ℕ). begun (resized c.args.to a n o k) input) found)

pub returns-in-None-clause-performed : goal.returns-in-None-clause-performed
returns-in-None-clause-performed c = λ all.
    let old = c.args.self.now in
    let k = old.core in
    let a = slot_value k 0 in
    let n = slot_value k 1 in
    let test = is_not_zero _ _ c.slot-address.ensures c.if-address-eq0.false in
    let found : block_in k.heap a ≡ None =
    ap (block_in k.heap) (sym c.slot-address.ensures) ∙ (sym c.block.ensures.size ∙ c.in-None.is) in
    ended_there _ _ _ (instr.Host c.args.to c.requires.call.number c.requires.call.count) ends.BadAddress all c.requires.running
    c.requires.call.stands c.stop.ensures.step c.stop.ensures.stopped
    (λ input. call_is old calls.Realloc c.args.checked c.args.to c.requires.call (begun k input)
    ∙ ap (λ (t : Bool). begun (cond t (allocating c.args.to n k) (resized c.args.to a n (block_in k.heap a) k)) input) test
    ∙ ap (λ (o : Option ℕ). begun (resized c.args.to a n o k) input) found)
