use Rattle.std.proofs.Common.{◌≡◌, true, length}
use Rattle.macro_meaning.specs.Definitions.{some_parameters, are_distinct, distinct}
use Rattle.macro_items.specs.Views.{names}
use Rattle.macro_definitions.proofs.Parameters.{behind}
use Rattle.macro_definitions.proofs.definitions.read_parameters.Given as goal

abbrev pub invariant-loop-tokens : goal.invariant-loop-tokens
invariant-loop-tokens l = record {
  different : are_distinct (names l.parameters.keys) ≡ true;
  same : distinct (behind (names l.parameters.keys) (some_parameters l.tokens)) ≡ distinct (some_parameters l.fn.tokens);
}

abbrev pub decreases-loop-tokens : goal.decreases-loop-tokens
decreases-loop-tokens l = length l.tokens
