-- The records so far, and what is found in those behind them.
use Rattle.std.proofs.Common.{◌≡◌, ◌-◌}
use Rattle.bm_image.specs.Parts.{records, records_at, record_before, functions_count}
use Rattle.bm_image.proofs.Judged.{Carries}
use Rattle.bm_image.proofs.reading.read_functions.Given as goal

abbrev pub invariant-loop-k : goal.invariant-loop-k
invariant-loop-k l = record {
  items : l.functions.items ≡ records_at l.bytes 32 l.k;
  before : l.before ≡ record_before l.bytes l.k;
  carries : Carries l.bytes (records l.k (functions_count l.bytes - l.k)) (records 0 (functions_count l.bytes));
}
