-- A live block is in the region, so its bytes may be touched.
use Rattle.std.proofs.Common.{arith}
use Rattle.byte_machine.proofs.Heaped.{block_valid}
use Rattle.byte_machine.proofs.machine.Machine.block.Goals as goal

pub returns-clause-inside : goal.returns-clause-inside
returns-clause-inside c = block_valid c.self.inside.heap c.args.address c.size_at.result (omega (arith, c.if-address-lt-HEAP_START.false))
    c.size_at.ensures.size c.size_at.ensures.whole
