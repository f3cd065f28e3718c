-- The holes before i lie before the place, and don't touch it.
use Rattle.std.proofs.Common.{◌≡◌, ◌++◌, drop, take}
use Rattle.bm_heap.specs.Heaps.{give_to}
use Rattle.bm_heap.proofs.holes.give_to.Given as goal

abbrev pub invariant-loop-i : goal.invariant-loop-i
invariant-loop-i l = record {
  same : l.holes ≡ l.initial.holes;
  rest : take l.i l.holes.items ++ give_to l.place l.count (drop l.i l.holes.items) ≡ give_to l.place l.count l.holes.items;
}
