-- The result is the new block's address.
use Rattle.std.proofs.Common.{refl}
use Rattle.bm_isa.specs.declared.instructions.Instr.TheVariants as instr
use Rattle.c_library.specs.declared.functions.LibFn.TheVariants as calls
use Rattle.byte_machine.specs.State.{slot_value, allocating}
use Rattle.byte_machine.specs.Opening.{begun}
use Rattle.byte_machine.proofs.Steps.{went_on, call_is}
use Rattle.byte_machine.proofs.Heaped.{allocated}
use Rattle.byte_machine.proofs.machine.Machine.malloc.Goals as goal

pub returns-clause-performed : goal.returns-clause-performed
returns-clause-performed c = λ all.
    let old = c.args.self.now in
    let n = slot_value old.core 0 in
    let done = allocated old _ _ c.args.to n _ _ c.slot-size.ensures c.allocate-address.ensures.address c.allocate-address.ensures.state
    c.give.ensures.state in
    went_on old c.give.new.self c.give.result (instr.Host c.args.to c.requires.call.number c.requires.call.count) (allocating c.args.to n old.core)
    all c.requires.running c.requires.call.stands c.give.ensures.step done refl
    (λ input. call_is old calls.Malloc c.args.checked c.args.to c.requires.call (begun old.core input))
