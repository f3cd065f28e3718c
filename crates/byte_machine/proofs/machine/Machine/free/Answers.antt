-- Nothing, the live block is let go, or there is none.
use Rattle.std.proofs.Common.{◌≡◌, ◌-◌, ℕ, Bool, cond, Option, None, Some, refl, sym, ◌∙◌, ap}
use Rattle.fc_base.specs.declared.levels.End.TheVariants as ends
use Rattle.bm_isa.specs.declared.instructions.Instr.TheVariants as instr
use Rattle.bm_heap.specs.Heaps.{after_give}
use Rattle.c_library.specs.declared.functions.LibFn.TheVariants as calls
use Rattle.byte_machine.specs.State.{slot_value, giving, freed, block_in, heap_start}
use Rattle.byte_machine.specs.Opening.{begun}
use Rattle.byte_machine.proofs.Steps.{went_on, ended_there, is_zero, is_not_zero, call_is}
use Rattle.byte_machine.proofs.Heaped.{let_go}
use Rattle.byte_machine.proofs.machine.Machine.free.Goals as goal

pub returns-then-address-eq0-clause-performed : goal.returns-then-address-eq0-clause-performed
returns-then-address-eq0-clause-performed c = λ all.
    let old = c.args.self.now in
    let k = old.core in
    let a = slot_value k 0 in
    let test = is_zero _ _ c.slot-address.ensures c.if-address-eq0.true in
    went_on _ _ _ (instr.Host c.args.to c.requires.call.number c.requires.call.count) _ all c.requires.running c.requires.call.stands
    c.give.ensures.step c.give.ensures.state refl
    (λ input. call_is old calls.Free c.args.checked c.args.to c.requires.call (begun k input)
    ∙ ap (λ (t : Bool). begun (cond t (giving c.args.to 0 k) (freed c.args.to a (block_in k.heap a) k)) input) test)

pub give-requires-in-Some-clause-on : goal.give-requires-in-Some-clause-on
give-requires-in-Some-clause-on c =
    (instr.Host c.args.to c.requires.call.number c.requires.call.count, rw c.release.ensures c.requires.call.stands, refl)

pub give-requires-in-Some-clause-register : goal.give-requires-in-Some-clause-register
give-requires-in-Some-clause-register c = record {
  i = instr.Host c.args.to c.requires.call.number c.requires.call.count;
  k = 0;
  stands = rw c.release.ensures c.requires.call.stands;
  named = refl;
}

pub returns-in-Some-clause-performed : goal.returns-in-Some-clause-performed
returns-in-Some-clause-performed c = λ all.
    let old = c.args.self.now in
    let k = old.core in
    let a = slot_value k 0 in
    let test = is_not_zero _ _ c.slot-address.ensures c.if-address-eq0.false in
    let found : block_in k.heap a ≡ Some c.in-Some.field-0 =
    ap (block_in k.heap) (sym c.slot-address.ensures) ∙ (sym c.block.ensures.size ∙ c.in-Some.is) in
    let done = let_go old _ _ c.args.to a _ c.slot-address.ensures c.release.ensures c.give-in-Some.ensures.state in
    went_on old c.give-in-Some.new.self c.give-in-Some.result (instr.Host c.args.to c.requires.call.number c.requires.call.count)
    (giving c.args.to 0 (record k { heap = after_give (a - heap_start) k.heap }))
    all c.requires.running c.requires.call.stands c.give-in-Some.ensures.step done refl
    (λ input. call_is old calls.Free c.args.checked c.args.to c.requires.call (begun k input)
    ∙ ap (λ (t : Bool). begun (cond t (giving c.args.to 0 k) (freed c.args.to a (block_in k.heap a) k)) input) test
    ∙ ap (λ (o : Option ℕ). begun (freed c.args.to a o k) input) found)

pub returns-in-None-clause-performed : goal.returns-in-None-clause-performed
returns-in-None-clause-performed c = λ all.
    let old = c.args.self.now in
    let k = old.core in
    let a = slot_value k 0 in
    let test = is_not_zero _ _ c.slot-address.ensures c.if-address-eq0.false in
    let found : block_in k.heap a ≡ None =
    ap (block_in k.heap) (sym c.slot-address.ensures) ∙ (sym c.block.ensures.size ∙ c.in-None.is) in
    ended_there _ _ _ (instr.Host c.args.to c.requires.call.number c.requires.call.count) ends.BadAddress all c.requires.running
    c.requires.call.stands c.stop.ensures.step c.stop.ensures.stopped
    (λ input. call_is old calls.Free c.args.checked c.args.to c.requires.call (begun k input)
    ∙ ap (λ (t : Bool). begun (cond t (giving c.args.to 0 k) (freed c.args.to a (block_in k.heap a) k)) input) test
    ∙ ap (λ (o : Option ℕ). begun (freed c.args.to a o k) input) found)
