-- What the call did by its row is stored.
use Rattle.byte_machine.proofs.Moved.{plain_stored}
use Rattle.byte_machine.proofs.machine.Machine.move_bytes.Goals as goal

pub stored-requires : goal.stored-requires
stored-requires g c =
    let old = c.args.self.now in (
      old,
      plain_stored old c.on_memory-done.new.self c.args.f c.args.checked c.args.to c.size_of-size.result c.requires.call c.on_memory-done.result
          c.requires.running c.requires.plain c.size_of-size.ensures c.on_memory-done.ensures.state c.on_memory-done.ensures.did,
    )

pub returns-clause-performed : goal.returns-clause-performed
returns-clause-performed g c = λ input out.
    let old = c.args.self.now in
    c.stored.ensures.performed old input out (plain_stored old c.on_memory-done.new.self c.args.f c.args.checked c.args.to c.size_of-size.result
    c.requires.call c.on_memory-done.result c.requires.running c.requires.plain c.size_of-size.ensures c.on_memory-done.ensures.state
    c.on_memory-done.ensures.did)
