-- It gives -1.
use Rattle.std.proofs.Common.{◌∙◌, cond, ap, refl}
use Rattle.c_library.specs.declared.functions.LibFn.TheVariants as calls
use Rattle.bm_isa.specs.declared.instructions.Instr.TheVariants as instr
use Rattle.library_meaning.specs.Table.{int_of, no_limit}
use Rattle.byte_machine.specs.State.{slot_value, size_of, giving, overflowing}
use Rattle.byte_machine.specs.Opening.{begun}
use Rattle.byte_machine.proofs.Steps.{went_on}
use Rattle.byte_machine.proofs.Slots.{read_other, result_named, other_than_zero, within_size}
use Rattle.byte_machine.proofs.machine.Machine.read_nothing.Goals as goal

pub give-requires-clause-register : goal.give-requires-clause-register
give-requires-clause-register g c = result_named c.args.self.now calls.Read c.args.checked c.args.to c.requires.call

pub returns-clause-performed : goal.returns-clause-performed
returns-clause-performed g c = λ input out.
    let old = c.args.self.now in
    went_on old c.give.new.self c.give.result (instr.Host c.args.to c.requires.call.number c.requires.call.count) (giving c.args.to no_limit old.core)
    _ c.requires.running c.requires.call.stands c.give.ensures.step c.give.ensures.state refl
    (λ i. read_other old c.args.checked c.args.to c.requires.call i c.requires.long (other_than_zero (int_of (slot_value old.core 0)) c.requires.elsewhere)
    ∙ ap (λ t. cond t (overflowing (begun old.core i)) (begun (giving c.args.to no_limit old.core) i))
    (within_size c.slot.result c.args.size (slot_value old.core 2) (size_of calls.Read c.args.checked old.core) c.slot.ensures c.requires.size c.if-slot-size.false))
