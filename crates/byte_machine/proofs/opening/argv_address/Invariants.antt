use Rattle.std.proofs.Common.{◌≡◌, ◌+◌, drop, sum_by}
use Rattle.byte_machine.specs.Opening.{argument_words, string_room, argv_address}
use Rattle.byte_machine.proofs.opening.argv_address.Given as goal

-- the address and the rooms of the strings that are left
abbrev pub invariant-loop-k : goal.invariant-loop-k
invariant-loop-k l = l.address + sum_by string_room (drop l.k (argument_words l.args)) ≡ argv_address l.args
