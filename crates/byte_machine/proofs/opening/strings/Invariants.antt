use Rattle.std.proofs.Common.{◌≡◌, ◌++◌, drop}
use Rattle.std.specs.List.{flat_map}
use Rattle.byte_machine.specs.Opening.{argument_words, string_block}
use Rattle.byte_machine.proofs.opening.strings.Given as goal

-- the strings so far and those that are left
abbrev pub invariant-loop-k : goal.invariant-loop-k
invariant-loop-k l = l.strings.items ++ flat_map string_block (drop l.k (argument_words l.args))
    ≡ flat_map string_block (argument_words l.args)
