-- The rows of prints into memory, at the machine's slots and memory.
use Rattle.std.proofs.Common.{◌≡◌, length, arith}
use Rattle.byte_machine.specs.View.{loaded_of}
use Rattle.byte_machine.specs.Performing.{StoresBounded, StoresWhole}
use Rattle.byte_machine.proofs.Moved.{stored_by}
use Rattle.byte_machine.proofs.Slots.{all_slots}
use Rattle.byte_machine.proofs.Taken.{put_back}
use Rattle.byte_machine.proofs.machine.Machine.store_print.Goals as goal

pub returns-clause-slots : goal.returns-clause-slots
returns-clause-slots c = all_slots c.self.inside c.args.self.now c.self.view_is c.self.told

pub returns-clause-snprintf : goal.returns-clause-snprintf
returns-clause-snprintf c = λ which.
    let new = c.store_slots.new.memory in
    let long : length new ≡ c.self.inside.memory.len = omega (arith, c.store_slots.auto.memory, c.deref_mut.ensures.len) in
    stored_by (StoresBounded c.args.size c.args.format c.args.count c.store_slots.result) (loaded_of c.self.inside) c.args.self.now _ new _
    c.deref_mut.ensures.value c.self.view_is (put_back c.self.inside.memory.len new c.self.inside.memory.items long)
    (c.store_slots.ensures.snprintf which)

pub returns-clause-sprintf : goal.returns-clause-sprintf
returns-clause-sprintf c = λ which.
    let new = c.store_slots.new.memory in
    let long : length new ≡ c.self.inside.memory.len = omega (arith, c.store_slots.auto.memory, c.deref_mut.ensures.len) in
    stored_by (StoresWhole c.args.size c.args.format c.args.count c.store_slots.result) (loaded_of c.self.inside) c.args.self.now _ new _
    c.deref_mut.ensures.value c.self.view_is (put_back c.self.inside.memory.len new c.self.inside.memory.items long)
    (c.store_slots.ensures.sprintf which)
