use Rattle.std.proofs.Common.{◌-◌, ◌≤◌, take, length}
use Rattle.fc_base.specs.Outside.{Appends}
use Rattle.fort_files.proofs.transfer.write_whole.Given as goal

-- the bytes before `done` are written
abbrev pub invariant-loop-done : goal.invariant-loop-done
invariant-loop-done g l = record {
  within : l.done ≤ length l.bytes;
  written : Appends (take l.done l.bytes) (g.W.Write.contents l.fn.writer) (g.W.Write.contents l.writer);
}

abbrev pub decreases-loop-done : goal.decreases-loop-done
decreases-loop-done g l = length l.bytes - l.done
