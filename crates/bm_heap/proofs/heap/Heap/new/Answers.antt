-- One hole, and no block.
use Rattle.std.proofs.Common.{rules}
use Rattle.bm_heap.proofs.Kept.{whole_is}
use Rattle.bm_heap.proofs.heap.Heap.new.Goals as goal

pub returns : goal.returns
returns c = whole_is c.push.new.self.items c.in_ok-sizes.sizes.items c.places.result (search rules) c.in_ok-sizes.ensures c.places.ensures
