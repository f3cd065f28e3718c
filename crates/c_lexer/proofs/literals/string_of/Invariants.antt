use Rattle.std.proofs.Common.{◌≡◌, ◌-◌, ◌≤◌, length}
use Rattle.c_lexer.proofs.LiteralLemmas.{with_front, left_of}
use Rattle.c_lexer.proofs.literals.string_of.Given as goal

abbrev pub invariant-loop-at : goal.invariant-loop-at
invariant-loop-at l = record {
  owed : with_front l.bytes.items (left_of l.body l.at) ≡ left_of l.body 0;
  within : l.at ≤ length l.body;
}

abbrev pub decreases-loop-at : goal.decreases-loop-at
decreases-loop-at l = length l.body - l.at
