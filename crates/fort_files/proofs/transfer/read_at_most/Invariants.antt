use Rattle.std.proofs.Common.{◌≤◌, vec_len}
use Rattle.fc_base.specs.Outside.{Takes}
use Rattle.fort_files.proofs.transfer.read_at_most.Given as goal

-- the bytes so far are few enough, and are all that was taken
abbrev pub invariant-loop : goal.invariant-loop
invariant-loop g l = record {
  few : vec_len l.bytes ≤ l.max;
  taken : Takes l.bytes.items (g.R.Read.remaining l.fn.reader) (g.R.Read.remaining l.reader);
}
