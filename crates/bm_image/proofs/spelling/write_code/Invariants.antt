-- What is written so far.
use Rattle.std.proofs.Common.{◌≡◌, ◌++◌, take}
use Rattle.std.specs.List.{flat_map}
use Rattle.bm_isa.specs.Encoding.{instruction_bytes}
use Rattle.bm_image.proofs.spelling.write_code.Given as goal

abbrev pub invariant-loop-instruction : goal.invariant-loop-instruction
invariant-loop-instruction l = l.bytes.items ≡ l.initial.bytes.items ++ flat_map instruction_bytes (take l.instruction-index l.code)
