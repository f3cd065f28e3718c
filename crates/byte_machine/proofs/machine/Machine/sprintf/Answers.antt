-- What was stored is what the row says.
use Rattle.std.proofs.Common.{refl, arith}
use Rattle.byte_machine.proofs.Printed.{few_sprintf, sprintf_stored}
use Rattle.byte_machine.proofs.machine.Machine.sprintf.Goals as goal

pub store_print-done-requires : goal.store_print-done-requires
store_print-done-requires g c =
    let few = few_sprintf c.args.checked c.args.count c.requires.call.takes in
    let place = c.format_slot.ensures in
    record { some = omega (arith, few, place); few = few.1 }

pub stored-requires : goal.stored-requires
stored-requires g c =
    let old = c.args.self.now in (
      old,
      sprintf_stored old c.store_print-done.new.self c.args.checked c.args.count c.args.to c.print_size-size.result c.format_slot.result
          c.requires.call c.store_print-done.ensures.slots c.store_print-done.result c.requires.running
          c.print_size-size.ensures c.format_slot.ensures c.store_print-done.ensures.state (c.store_print-done.ensures.sprintf refl),
    )

pub returns-clause-performed : goal.returns-clause-performed
returns-clause-performed g c = λ input out.
    let old = c.args.self.now in
    c.stored.ensures.performed old input out (sprintf_stored old c.store_print-done.new.self c.args.checked c.args.count c.args.to c.print_size-size.result c.format_slot.result
    c.requires.call c.store_print-done.ensures.slots c.store_print-done.result c.requires.running
    c.print_size-size.ensures c.format_slot.ensures c.store_print-done.ensures.state (c.store_print-done.ensures.sprintf refl))
