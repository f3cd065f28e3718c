use Rattle.std.proofs.Common.{arith}
use Rattle.memchr.specs.Find.{is_byte}
use Rattle.host_bytes.proofs.Scans.{front_first, front_past, front_none}
use Rattle.host_bytes.proofs.finding.first_of.Goals as goal

pub returns-then-k-most : goal.returns-then-k-most
returns-then-k-most c = front_first (is_byte c.args.byte) c.args.bytes.now c.args.most c.requires c.in-Some.k c.if-k-most.true (rw c.in-Some.is at c.memchr.ensures)

pub returns-else-k-most : goal.returns-else-k-most
returns-else-k-most c = front_past (is_byte c.args.byte) c.args.bytes.now c.args.most c.requires c.in-Some.k (omega arith) (rw c.in-Some.is at c.memchr.ensures)

pub returns-in-None : goal.returns-in-None
returns-in-None c = front_none (is_byte c.args.byte) c.args.bytes.now c.args.most c.requires (rw c.in-None.is at c.memchr.ensures)
