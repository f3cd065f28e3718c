-- No hole before i holds the bytes.
use Rattle.std.proofs.Common.{◌≡◌, ◌++◌, drop, take}
use Rattle.bm_heap.specs.Heaps.{first_fit, take_from}
use Rattle.bm_heap.proofs.holes.take_from.Given as goal

abbrev pub invariant-loop-i : goal.invariant-loop-i
invariant-loop-i l = record {
  same : l.holes ≡ l.initial.holes;
  place : first_fit l.count (drop l.i l.holes.items) ≡ first_fit l.count l.holes.items;
  rest : take l.i l.holes.items ++ take_from l.count (drop l.i l.holes.items) ≡ take_from l.count l.holes.items;
}
