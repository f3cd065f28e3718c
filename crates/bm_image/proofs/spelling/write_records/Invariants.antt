-- What is written so far.
use Rattle.std.proofs.Common.{◌≡◌, ◌++◌, take}
use Rattle.std.specs.List.{flat_map}
use Rattle.bm_image.specs.Spelling.{record_bytes}
use Rattle.bm_image.proofs.spelling.write_records.Given as goal

abbrev pub invariant-loop-f : goal.invariant-loop-f
invariant-loop-f l = l.bytes.items ≡ l.initial.bytes.items ++ flat_map record_bytes (take l.f-index l.functions)
