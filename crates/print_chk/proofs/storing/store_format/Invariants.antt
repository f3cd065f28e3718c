use Rattle.std.proofs.Common.{◌≡◌, ◌-◌, ◌≤◌, length}
use Rattle.library_meaning.specs.Memory.{memory_size}
use Rattle.print_chk.specs.Readable.{format_bytes}
use Rattle.print_chk.specs.Stored.{StoredSoFar}
use Rattle.print_chk.proofs.storing.store_format.Given as goal

abbrev pub invariant-loop-left : goal.invariant-loop-left
invariant-loop-left l = record {
  size : length l.mem ≡ memory_size;
  inside : l.at ≤ length (format_bytes l.fn.mem l.format);
  few : l.next ≤ l.at;
  so_far : StoredSoFar l.args l.fn.mem l.format l.fn.room l.at l.next l.mem l.left;
}

abbrev pub decreases-loop-left : goal.decreases-loop-left
decreases-loop-left l = length (format_bytes l.fn.mem l.format) - l.at
