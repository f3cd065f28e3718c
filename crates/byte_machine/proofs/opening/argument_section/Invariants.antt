use Rattle.std.proofs.Common.{◌≡◌, ◌+◌, ◌++◌, drop, sum_by}
use Rattle.std.specs.List.{flat_map}
use Rattle.std.specs.Int.{to_le_bytes, w64}
use Rattle.library_meaning.specs.Memory.{first_valid}
use Rattle.byte_machine.specs.Opening.{argument_words, string_room, argv_address, addresses}
use Rattle.byte_machine.proofs.opening.argument_section.Given as goal

-- the addresses so far and those that are left
abbrev pub invariant-loop-k : goal.invariant-loop-k
invariant-loop-k l = record {
  section : l.section.items ++ flat_map (to_le_bytes w64) (addresses l.address (drop l.k (argument_words l.args)))
      ≡ l.initial.section.items ++ flat_map (to_le_bytes w64) (addresses first_valid (argument_words l.args));
  address : l.address + sum_by string_room (drop l.k (argument_words l.args)) ≡ argv_address l.args;
}
